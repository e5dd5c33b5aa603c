-- `packet_writing::write_checked` meets its contract: the fields are stored one after the other, as the layout has them.
-- Assumes nothing.
use Rattle.packet_writing.proofs.Bytes.{fields_stored, put_as}
use Rattle.packet_writing.proofs.write_checked.Goals as goal

pub returns : goal.returns
returns c =
    let a = c.args in
    fields_stored a.counted a.given.version a.given.application a.given.number a.flag a.given.kind
    a.out.now c.write.new.out c.write-2.new.out c.write-3.new.out c.write-4.new.out c.write-5.new.out c.write-6.new.out
    (put_as _ _ 0 2 _ _ c.write.ensures c.from.ensures)
    (put_as _ _ 2 1 _ _ c.write-2.ensures c.from-2.ensures)
    (put_as _ _ 3 1 _ _ c.write-3.ensures c.from-3.ensures)
    (put_as _ _ 4 2 _ _ c.write-4.ensures c.from-4.ensures)
    (put_as _ _ 6 1 _ _ c.write-5.ensures c.from-5.ensures)
    (put_as _ _ 7 1 _ _ c.write-6.ensures c.from-6.ensures)
