-- `connection_row::put_own_and_peer` meets its contract: the five fields, one after the other. Assumes nothing.
use Rattle.field.specs.Field.{bytes_of}
use Rattle.connection_row.proofs.put_own_and_peer.Goals as goal

pub returns : goal.returns
unfolding bytes_of
returns c =
    simp (c.write-5.ensures, c.write-4.ensures, c.write-3.ensures, c.write-2.ensures, c.write.ensures)
