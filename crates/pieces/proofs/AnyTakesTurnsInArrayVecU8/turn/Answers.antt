-- A turn whose text is put into an array has the room there that it asks for. Assumes nothing.
use Rattle.std.proofs.Common.{arith, rules}
use Rattle.text.specs.Text.{left}
use Rattle.pieces.proofs.AnyTakesTurnsInArrayVecU8.turn.Goals as goal

pub turn-requires : goal.turn-requires
unfolding left
turn-requires g c =
    (search rules, (c.requires.goes, (c.requires.counts, (c.requires.lent_len, omega (arith, c.requires.room, c.remaining_capacity-within.ensures)))))
