-- `recorded_answer::is_right` meets its contract: the fields, then the bytes written. Assumes nothing.
use Prim.Native.Nat.{◌-◌, ◌^◌, ◌<◌}
use mathlib.Core.Path.{◌≡◌, sym, ◌∙◌}
use mathlib.Core.Bool.{false≢true}
use native.Mathlib.Omega.{arith}
use borrow.Author.Rules.{rules}
use lib.ListN.{length, take, drop, length-drop}
use lib.Pointwise.{bytes_decides}
use lib.Seq.{take_all}
use lib.Signed.{mag}
use Rattle.std.proofs.lemmas.Bool.Decides.{nat_tests}
use Rattle.recorded_answer.specs.Answer.{answer_fields_size}
use Rattle.recorded_answer.proofs.Right.{all_bytes, too_short, fields_wrong, behind_them, fields_decide}
use Rattle.recorded_answer.proofs.is_right.Goals as goal
use Rattle.recorded_answer.proofs.is_right.Goals.{then-recorded-ge-ANSWER_FIELDS_SIZE, else-recorded-ge-ANSWER_FIELDS_SIZE}

pub returns-then-eq : goal.returns-then-eq
returns-then-eq c =
    let a = c.args in
    let s = a.recorded.now in
    let rest : take (length s - answer_fields_size) (drop answer_fields_size s) ≡ drop answer_fields_size s =
    take_all (length s - answer_fields_size) (drop answer_fields_size s) (omega (arith, length-drop answer_fields_size s)) in
    let same = bytes_decides (take (length s - answer_fields_size) (drop answer_fields_size s)) (take a.answer.written a.lent.now) in
    elim c.if-recorded-ge-ANSWER_FIELDS_SIZE.branch [
      | then-recorded-ge-ANSWER_FIELDS_SIZE w ↦
          let fields = (fields_decide w.fields_of.result w.from.result w.eq.result w.eq.ensures).0 (sym w.value-is ∙ c.if-eq.true) in
          behind_them a.answer a.lent.now s c.eq-then-eq.result (all_bytes s (λ i. (c.type_inv.recorded i).fits))
          w.if-recorded-ge-ANSWER_FIELDS_SIZE.true (sym w.fields_of.ensures ∙ fields ∙ w.from.ensures)
          (λ e. sym rest ∙ same.0 (sym c.eq-then-eq.ensures ∙ e)) (λ e. c.eq-then-eq.ensures ∙ same.1 (rest ∙ e))
      | else-recorded-ge-ANSWER_FIELDS_SIZE w ↦ grind (arith, nat_tests)
    ]

pub returns-else-eq : goal.returns-else-eq
returns-else-eq c =
    let a = c.args in
    let range : mag a.answer.age.0 < 2 ^ 31 = search rules in
    c.if-eq.false ∙ elim c.if-recorded-ge-ANSWER_FIELDS_SIZE.branch [
      | then-recorded-ge-ANSWER_FIELDS_SIZE w ↦
          let decides = fields_decide w.fields_of.result w.from.result w.eq.result w.eq.ensures in
          fields_wrong a.answer a.lent.now a.recorded.now (search rules) range
          (λ e. false≢true (sym c.if-eq.false ∙ w.value-is ∙ decides.1 (w.fields_of.ensures ∙ e ∙ sym w.from.ensures)))
      | else-recorded-ge-ANSWER_FIELDS_SIZE w ↦
          too_short a.answer a.lent.now a.recorded.now w.if-recorded-ge-ANSWER_FIELDS_SIZE.false
    ]
