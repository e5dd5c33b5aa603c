-- A small machine, for the tests: each byte is printed at a turn of its own, and it stops where none is left.
-- Assumes nothing.
use Rattle.std.specs.Prelude.{ℕ, ◌+◌, ◌*◌, ◌≤◌, ◌≡◌, Bool, true, false, List, [], ◌∷◌, ◌++◌, length}
use Rattle.std.proofs.Common.{refl, sym, arith}
use mathlib.Core.Bool.{false≢true}
use Rattle.pieces.specs.Machine.{Turn, Machine, Lawful}

-- a turn of it
unfoldable pub echo_turn : List ℕ → Turn Bool
echo_turn [] = record { text = []; used = 0; next = true; lent = λ lent. lent }
echo_turn (byte ∷ rest) = record { text = byte ∷ []; used = 1; next = false; lent = λ lent. lent }

-- the machine, whose state is whether it has stopped
abbrev pub echo : Machine Bool
echo = record {
  first = false;
  heading = [];
  stopped = λ stopped. stopped;
  turn = λ stopped rest. echo_turn rest;
  most_seen = 1;
  most_text = 1;
}

-- what is asked of its turns
uses_no_more : (rest : List ℕ) → (echo_turn rest).used ≤ length rest
unfolding echo_turn
uses_no_more [] = omega arith
uses_no_more (byte ∷ rest) = omega arith

uses_or_stops : (rest : List ℕ) → (echo_turn rest).next ≡ false → 1 ≤ (echo_turn rest).used
unfolding echo_turn
uses_or_stops [] e = absurd (false≢true (sym e))
uses_or_stops (byte ∷ rest) e = omega arith

sees_no_more : (s rest : List ℕ) → 1 ≤ length s → echo_turn (s ++ rest) ≡ echo_turn s
unfolding echo_turn
sees_no_more [] rest h = absurd (omega (arith, h))
sees_no_more (byte ∷ s) rest h = refl

prints_no_more : (rest : List ℕ) → length (echo_turn rest).text ≤ 1
unfolding echo_turn
prints_no_more [] = omega arith
prints_no_more (byte ∷ rest) = omega arith

pub echo_laws : Lawful echo
echo_laws = record {
  uses_no_more = λ p s. uses_no_more s;
  uses_or_stops = λ p s. uses_or_stops s;
  sees_no_more = λ p s rest. sees_no_more s rest;
  prints_no_more = λ p s. prints_no_more s;
}

-- it has no numbers
pub echo_counts : (p : Bool) (s : List ℕ) → 0 ≤ 0 + 0 * (echo.turn p s).used
echo_counts p s = omega arith
