-- `row_calls::put_numbers` meets its contract: after i turns the first i fields of the row stand in fields. Assumes nothing.
use Prim.Native.Nat.{ℕ}
use mathlib.Core.Path.{◌∙◌, ap, refl}
use mathlib.Core.List.{List}
use native.Mathlib.Omega.{arith}
use lib.ListN.{length-set}
use lib.Seq.{sets, take_all}
use Rattle.field.specs.Row.{fields_of}
use Rattle.connection_row.specs.Row.{row_widths}
use Rattle.row_calls.proofs.Fields.{field_of_lem, read_next, length_fields}
use Rattle.row_calls.proofs.put_numbers.Goals as goal

pub loop-i-preserved : goal.loop-i-preserved
loop-i-preserved c =
    let a = c.args in
    let l = c.loop-i in
    let f = field_of_lem l.i l.at _ c.loop-i-test.true l.invariant.0 refl in (
      f.next,
      length-set l.fields _ _ ∙ l.invariant.1,
      rw l.invariant.2 (read_next a.row.now a.fields.now l.i l.at _ _ c.loop-i-test.true l.invariant.0 f c.read.ensures.0),
    )

pub returns : goal.returns
returns c =
    let a = c.args in
    let l = c.loop-i in
    l.invariant.2
    ∙ ap (λ (xs : List ℕ). sets a.fields.now 0 xs)
    (take_all l.i (fields_of row_widths a.row.now 0) (omega (arith, c.loop-i-test.false, length_fields row_widths a.row.now 0)))
