-- A part of a buffer holds the text, and what was put, behind it, and behind that what stood there. Assumes nothing.
use Rattle.std.proofs.Common.{refl, arith}
use Rattle.text.proofs.Rooms.{part_put, part_fits}
use Rattle.text.proofs.room.PartRoom.put.Goals as goal

pub returns : goal.returns
returns c =
    let part = c.args.self.now in
    part_put part.buffer part.at _ c.args.s.now c.copy.new.out (part_fits part.buffer part.at c.args.s.now part.within c.requires) refl c.copy.ensures
