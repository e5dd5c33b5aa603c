-- An array holds the text, and what was put, behind it. Assumes nothing.
use Rattle.text.proofs.Rooms.{array_put, array_extended}
use Rattle.text.proofs.room.ArrayVecU8Room.put.Goals as goal

pub returns : goal.returns
returns g c =
    let a = c.args in
    let put = c.try_extend_from_slice-fits in
    array_put g.row.N a.self.now.items a.s.now put.new.self.items
    (array_extended (λ v. v.items) g.row.N a.self.now put.new.self a.s.now put.result put.ensures.variant.1 put.ensures.ok put.ensures.err c.requires)
