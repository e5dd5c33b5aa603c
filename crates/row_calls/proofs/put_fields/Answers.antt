-- `row_calls::put_fields` meets its contract: after i turns the first i numbers stand in the row, and they fit. Assumes nothing.
use Prim.Native.Nat.{ℕ, ◌^◌, ◌<◌}
use mathlib.Core.Path.{sym, ◌∙◌, ap, subst, refl}
use mathlib.Core.List.{List}
use native.Mathlib.Omega.{arith}
use lib.Dec.{T}
use lib.ListN.{length, get_or}
use lib.Seq.{length-sets}
use Rattle.field.specs.Field.{field_of, bytes_of}
use Rattle.connection_row.specs.Row.{row_widths}
use Rattle.row_calls.proofs.Fields.{field_of_lem, more_written, more_fits, fits_no_more, all_fit, all_written}
use Rattle.row_calls.proofs.put_fields.Goals as goal

pub returns-then-read-x : goal.returns-then-read-x
returns-then-read-x c =
    let s = c in
    let l = c.loop-i in
    let w = get_or row_widths l.i 0 in
    let f = field_of_lem l.i l.at w c.loop-i-test.true l.invariant.0 refl in
    let r = c.read.ensures.0 ∙ ap (λ (row : List ℕ). field_of row l.at w) c.write.ensures in record {
      value = sym (sym l.invariant.3 ∙ fits_no_more s.args.fields.now s.args.row.now s.requires.1 l.i l.at w c.loop-i-test.true l.invariant.0 f
          l.row (l.invariant.1 ∙ s.requires.0) (λ e. c.if-read-x.true (r ∙ e)));
      row_after = λ e. absurd (subst T (sym e) tt);
    }

pub loop-i-preserved : goal.loop-i-preserved
loop-i-preserved c =
    let s = c in
    let l = c.loop-i in
    let w = get_or row_widths l.i 0 in
    let f = field_of_lem l.i l.at w c.loop-i-test.true l.invariant.0 refl in (
      f.next,
      ap length c.write.ensures ∙ length-sets l.row l.at (bytes_of w (get_or s.args.fields.now l.i 0)) ∙ l.invariant.1,
      c.write.ensures
          ∙ more_written s.args.fields.now s.args.row.now s.requires.1 l.i l.at w c.loop-i-test.true l.invariant.0 f l.row l.invariant.2,
      more_fits s.args.fields.now s.args.row.now s.requires.1 l.i l.at w c.loop-i-test.true l.invariant.0 f
          (subst (λ (x : ℕ). x < 256 ^ w) c.if-read-x.false c.read.ensures.1)
          ∙ l.invariant.3,
    )

pub returns : goal.returns
returns c =
    let l = c.loop-i in record {
      value = sym (sym l.invariant.3 ∙ all_fit c.args.fields.now c.requires.1 l.i c.loop-i-test.false);
      row_after = λ _. all_written c.args.fields.now c.requires.1 l.i c.loop-i-test.false l.row c.args.row.now c.requires.0 l.invariant.2;
    }
