-- `connection_row::put_rest` meets its contract: the five fields, one after the other. Assumes nothing.
use Rattle.field.specs.Field.{bytes_of}
use Rattle.connection_row.proofs.put_rest.Goals as goal

pub returns : goal.returns
unfolding bytes_of
returns c =
    simp (
      c.write-5.ensures,
      c.write-4.ensures,
      c.write-3.ensures,
      c.write-2.ensures,
      c.write.ensures,
      c.bits-2.ensures,
      c.bits.ensures,
    )
