-- `connection_row::store_row` meets its contract: a row that is read has its size. Assumes nothing.
use native.Mathlib.Omega.{arith}
use Rattle.connection_row.proofs.Accepts.{accepted_size, some_accepted, stored_0}
use Rattle.connection_row.proofs.store_row.Goals as goal

pub copy-requires : goal.copy-requires
copy-requires c =
    let row = c.args.row.now in
    let some = some_accepted row c.read_row.result c.read_row.ensures c.if-is_none.ensures in
    omega (arith, accepted_size row some, c.if-out-lt-ROW_SIZE.false)

pub returns : goal.returns
returns c =
    let row = c.args.row.now in
    let some = some_accepted row c.read_row.result c.read_row.ensures c.if-is_none.ensures in
    stored_0 row c.args.out.now _ some c.if-out-lt-ROW_SIZE.false c.copy.ensures
