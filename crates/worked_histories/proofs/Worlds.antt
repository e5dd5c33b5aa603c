-- The clocks of the worked histories run on, and where their differences stay.
-- Assumes nothing.
use Prim.Native.Nat.{ℕ, ◌+◌, ◌-◌, ◌≤◌}
use native.Mathlib.Omega.{arith}
use lib.IntN.{pos, ◌-ℤ◌}
use lib.Signed.{◌≤ℤ◌}
use Rattle.rules.proofs.Integers.{less_is, is_le}
use Rattle.worked_histories.specs.Worlds.{DoesNotRunBack, initiators, responders, past, gaining, standing, standing_before}

-- ---- how much of from .. to is past: it grows, no faster than the moment, up to to - from
past_runs : (from to t u : ℕ) → t ≤ u → past from to t ≤ past from to u
past_runs from to t u h = omega arith

past_slow : (from to t u : ℕ) → t ≤ u → past from to u + t ≤ past from to t + u
past_slow from to t u h = omega arith

pub past_most : (from to t : ℕ) → past from to t ≤ to - from
past_most from to t = omega arith

-- ---- the clocks run on
pub responders_run : DoesNotRunBack responders
responders_run t u h = omega arith

pub standing_before_runs : DoesNotRunBack standing_before
standing_before_runs t u h = omega arith

pub gaining_runs : (from to : ℕ) (clock : ℕ → ℕ) → DoesNotRunBack clock → DoesNotRunBack (gaining from to clock)
gaining_runs from to clock runs t u h = sums (runs t u h) (past_runs from to t u h)
  where
    sums : {a b c d : ℕ} → a ≤ c → b ≤ d → a + b ≤ c + d
    sums h k = omega arith

pub responders_stand : (from to : ℕ) → DoesNotRunBack (standing from to responders)
responders_stand from to t u h = go (past from to t) (past from to u) (past_slow from to t u h)
  where
    go : (p q : ℕ) → q + t ≤ p + u → t - 850 - p ≤ u - 850 - q
    go p q k = omega arith

pub initiators_stand : (from to : ℕ) → DoesNotRunBack (standing from to initiators)
initiators_stand from to t u h = go (past from to t) (past from to u) (past_slow from to t u h)
  where
    go : (p q : ℕ) → q + t ≤ p + u → t - p ≤ u - q
    go p q k = omega arith

-- ---- the difference of two readings, between two integers
pub at_least : (a b x y : ℕ) → x + b ≤ a + y → (pos x -ℤ pos y) ≤ℤ (pos a -ℤ pos b)
at_least a b x y h = is_le (pos x -ℤ pos y) (pos a -ℤ pos b) (omega (arith, less_is (pos x) (pos y), less_is (pos a) (pos b)))

pub at_most : (a b x y : ℕ) → a + y ≤ x + b → (pos a -ℤ pos b) ≤ℤ (pos x -ℤ pos y)
at_most a b x y h = is_le (pos a -ℤ pos b) (pos x -ℤ pos y) (omega (arith, less_is (pos x) (pos y), less_is (pos a) (pos b)))
