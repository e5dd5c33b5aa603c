-- `row_calls::store` meets its contract: with a caller's fault nothing is stored. Assumes nothing.
use Prim.Native.Nat.{ℕ}
use mathlib.Core.Path.{sym, ap, ap₂, ◌∙◌}
use Rattle.connection_row.specs.Row.{row_bytes}
use Rattle.connection_row.proofs.Writes.{row_size_lem, all_stored}
use Rattle.row_calls.specs.Answer.{answer_bytes}
use Rattle.row_calls.specs.RowCalls.{stored}
use Rattle.row_calls.proofs.Leaves.{not_stored, both_stored, answer_row_size}
use Rattle.row_calls.proofs.store.Goals as goal

pub returns-then-callers_fault : goal.returns-then-callers_fault
returns-then-callers_fault c =
    let a = c.args in
    ap (λ (n : ℕ). stored n a.row.now a.answer.now) c.from-number.ensures
    ∙ not_stored a.row.now a.answer.now a.called (sym c.callers_fault.ensures ∙ c.if-callers_fault.true)

pub returns : goal.returns
returns c =
    let a = c.args in
    let pre = c.requires.row_len in
    let row = c.put_row.ensures ∙ all_stored (row_bytes a.called.next) a.row.now (row_size_lem a.called.next ∙ sym pre.0) in
    let answer = c.put_answer.ensures ∙ all_stored (answer_bytes a.called.answer) a.answer.now (answer_row_size a.called.answer ∙ sym pre.1) in
    ap (λ (n : ℕ). stored n c.put_row.new.row c.put_answer.new.row) c.from-number.ensures
    ∙ ap₂ (stored a.called.answer.number) row answer
    ∙ both_stored a.row.now a.answer.now a.called (sym c.callers_fault.ensures ∙ c.if-callers_fault.false)
