-- `row_calls::zorakunju_write_row` meets its contract: the record that the numbers' own row stands for is written. Assumes nothing.
use Prim.Native.Nat.{ℕ}
use mathlib.Core.Path.{sym, ap, ◌∙◌}
use mathlib.Core.List.{List}
use Rattle.field.specs.Row.{fields_of}
use Rattle.connection_row.specs.Row.{row_widths, connection_from}
use Rattle.connection_row.specs.Stored.{wrote}
use Rattle.row_calls.proofs.Fields.{other_count, numbers_back}
use Rattle.row_calls.proofs.Leaves.{not_a_row, a_row}
use Rattle.row_calls.proofs.zorakunju_write_row.Goals as goal
use Rattle.row_calls.proofs.zorakunju_write_row.Goals.{then-fields-ne-FIELDS-via-then-fields-ne-FIELDS, then-fields-ne-FIELDS-via-else-fields-ne-FIELDS+then-not-put_fields}

pub returns-then-fields-ne-FIELDS : goal.returns-then-fields-ne-FIELDS
returns-then-fields-ne-FIELDS c =
    let a = c.args in
    elim c.then-fields-ne-FIELDS.branch [
      | then-fields-ne-FIELDS-via-then-fields-ne-FIELDS w ↦ not_a_row a.row.now a.fields.now (other_count row_widths a.fields.now w.if-fields-ne-FIELDS.true)
      | then-fields-ne-FIELDS-via-else-fields-ne-FIELDS+then-not-put_fields w ↦ not_a_row a.row.now a.fields.now (sym w.put_fields.ensures.value ∙ w.if-not-put_fields.true)
    ]

pub returns : goal.returns
returns c =
    let a = c.args in
    let yes = c.if-not-put_fields.false in
    let fit = sym c.put_fields.ensures.value ∙ yes in
    let made = ap (λ (l : List ℕ). connection_from (fields_of row_widths l 0)) (c.put_fields.ensures.row_after yes) in
    a_row a.row.now a.fields.now _ c.connection_from.result fit
    (c.connection_from.ensures ∙ made ∙ ap connection_from (numbers_back a.fields.now fit))
    (ap (λ (n : ℕ). wrote n c.write_row.new.out) c.from.ensures ∙ c.write_row.ensures)
