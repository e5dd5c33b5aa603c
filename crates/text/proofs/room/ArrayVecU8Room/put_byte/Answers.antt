-- An array holds the text, and the byte that was put, behind it. Assumes nothing.
use Rattle.std.proofs.Common.{[], ◌∷◌}
use Rattle.text.proofs.Rooms.{array_put}
use Rattle.text.proofs.room.ArrayVecU8Room.put_byte.Goals as goal

pub returns : goal.returns
returns g c = array_put g.row.N c.args.self.now.items (c.args.byte ∷ []) c.push.new.self.items c.push.ensures.items
