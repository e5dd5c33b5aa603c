-- `connection_row::put_settings` meets its contract: the seven fields, one after the other, are the row of the phase and the settings. Assumes nothing.
use Rattle.connection_row.proofs.Writes.{settings_row}
use Rattle.connection_row.proofs.put_settings.Goals as goal

pub returns : goal.returns
returns c =
    let a = c.args in
    settings_row a.phase a.s a.row.now c.write.ensures c.write-2.ensures c.write-3.ensures c.write-4.ensures c.write-5.ensures c.write-6.ensures
    c.write-7.ensures
