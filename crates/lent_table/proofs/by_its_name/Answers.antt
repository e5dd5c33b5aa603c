-- `lent_table::by_its_name` meets its contract: begin reads no bytes, tick and close read none and write none. Assumes nothing.
use mathlib.Core.Path.{ap, ◌∙◌}
use Rattle.lent_table.proofs.Lent.{begin_lent, with_out, tick_lent, close_lent}
use Rattle.lent_table.proofs.by_its_name.Goals as goal

pub returns-in-Begin : goal.returns-in-Begin
returns-in-Begin c =
    let a = c.args in
    rw c.in-Begin.is (c.begin.ensures ∙ begin_lent a.table.now a.slot c.in-Begin.g a.now a.lent.now a.out.now)

pub returns-in-Tick : goal.returns-in-Tick
returns-in-Tick c =
    let a = c.args in
    rw c.in-Tick.is (ap (with_out a.out.now) c.tick.ensures ∙ tick_lent a.table.now a.slot a.now a.lent.now a.out.now)

pub returns-in-Close : goal.returns-in-Close
returns-in-Close c =
    let a = c.args in
    rw c.in-Close.is (ap (with_out a.out.now) c.close.ensures ∙ close_lent a.table.now a.slot a.now a.lent.now a.out.now)
