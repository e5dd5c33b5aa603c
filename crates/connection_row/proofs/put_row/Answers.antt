-- `connection_row::put_row` meets its contract: its three parts, one after the other, are the row. Assumes nothing.
use Rattle.connection_row.proofs.Writes.{whole_row}
use Rattle.connection_row.proofs.put_row.Goals as goal

pub returns : goal.returns
returns c =
    let a = c.args in
    whole_row a.c a.row.now c.put_settings.ensures c.put_own_and_peer.ensures c.put_rest.ensures
