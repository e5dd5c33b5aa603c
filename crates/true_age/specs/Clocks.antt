-- The world that DEMAND-3 speaks of: two clocks, and what is supposed of them.
-- A clock's reading is unbounded; its count, which calls and messages carry, is the reading mod 2^32 (TIME-1).
use Rattle.std.specs.Prelude.{ℕ, ◌≤◌, ℤ, pos, ◌+ℤ◌, ◌-ℤ◌, ◌≤ℤ◌}
use Rattle.clock.specs.Clock.{wrapped}
use Rattle.clock.specs.declared.Count.{Count}

-- Moments, and what each clock reads at them.
pub record World : Type 1 where
  pub Moment : Type 0
  -- not after
  pub early : Moment → Moment → Type 0
  pub early_refl : (t : Moment) → early t t
  pub early_trans : (t u v : Moment) → early t u → early u v → early t v
  -- our clock and the peer's
  pub ours : Moment → ℕ
  pub peers : Moment → ℕ
  -- no clock runs back
  pub ours_runs : (t u : Moment) → early t u → ours t ≤ ours u
  pub peers_runs : (t u : Moment) → early t u → peers t ≤ peers u
  -- when the n-th message that we write on this connection, counted from 0, arrives at the peer (any moment for one that is lost)
  pub arrived : ℕ → Moment

-- the count that a clock shows where it reads n
abbrev pub count_of : ℕ → Count
count_of n = record { 0 = wrapped (pos n) }

-- by how much our clock leads the peer's
abbrev pub lead : (W : World) → W.Moment → ℤ
lead W t = pos (W.ours t) -ℤ pos (W.peers t)

-- DEMAND-3: the clocks drift within a band of J ticks, from the set-up's beginning up to the moment at which a message is judged
pub record InBand (W : World) (began judged : W.Moment) (j : ℕ) : Type 0 where
  pub floor : ℤ
  pub over : (t : W.Moment) → W.early began t → W.early t judged → floor ≤ℤ lead W t
  pub under : (t : W.Moment) → W.early began t → W.early t judged → lead W t ≤ℤ (floor +ℤ pos j)
