-- A turn of the echo is its machine's: it stops, or a byte is printed. Assumes nothing.
use Rattle.std.proofs.Common.{refl, sym, ◌≡◌, ◌<◌, ◌≤◌, ℕ, false, true, Bool, List, [], ◌∷◌, ◌++◌, append-nil, length, arith}
use lib.ListN.{get_or}
use Rattle.pieces.specs.Pieces.{TurnTaken}
use Rattle.pieces.specs.Echo.{echo_turn}
use Rattle.pieces.proofs.tests.BoolTakesTurns.turn.Goals as goal

ended : (s lent out : List ℕ) → length s < 1 → TurnTaken (echo_turn s) true lent lent out out 0
unfolding echo_turn
ended [] lent out h = record { state = refl; leaves = refl; put = sym (append-nil out); uses = refl }
ended (byte ∷ s) lent out h = absurd (omega (arith, h))

printed : (s lent out after : List ℕ) (stopped : Bool) → 1 ≤ length s → stopped ≡ false → after ≡ out ++ (get_or s 0 0 ∷ [])
    → TurnTaken (echo_turn s) stopped lent lent out after 1
unfolding echo_turn
printed [] lent out after stopped h goes put = absurd (omega (arith, h))
printed (byte ∷ s) lent out after stopped h goes put = record { state = goes; leaves = refl; put = put; uses = refl }

pub returns-in-empty : goal.returns-in-empty
returns-in-empty g c = ended c.args.s.now c.args.lent.now c.args.out.now.items c.in-empty.len_below

pub returns-in-len1-up : goal.returns-in-len1-up
returns-in-len1-up g c =
    printed c.args.s.now c.args.lent.now c.args.out.now.items c.push.new.self.items c.args.self.now c.in-len1-up.len_at_least c.requires.goes
    c.push.ensures.items
