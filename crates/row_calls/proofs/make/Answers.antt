-- `row_calls::make` meets its contract: refused, or the call on the record that the row stands for, stored. Assumes nothing.
use lib.ListN.{length}
use Rattle.row_calls.proofs.Leaves.{refused_leaves, stored_leaves, sized, small_answer}
use Rattle.row_calls.proofs.make.Goals as goal

pub returns-in_default : goal.returns-in_default
returns-in_default c =
    let a = c.args in
    let r = c.read_rows in
    refused_leaves a.call a.row.now a.now a.lent.now a.out.now a.answer.now r.result r.ensures c.in_default.is

pub store-requires : goal.store-requires
store-requires c =
    let a = c.args in
    let r = c.read_rows in
    let sizes = sized a.row.now (length a.answer.now) r.result _ r.ensures c.in-Some.is in
    let small = small_answer a.call _ a.now a.lent.now a.out.now _ _ c.make.ensures in
    record { row_len = sizes; written_bound = (small.written, small.delivered) }

pub returns : goal.returns
returns c =
    let a = c.args in
    let r = c.read_rows in
    stored_leaves a.call a.row.now a.now a.lent.now a.out.now a.answer.now r.result _ r.ensures c.in-Some.is
    _ _ c.make.ensures _ c.store.ensures
