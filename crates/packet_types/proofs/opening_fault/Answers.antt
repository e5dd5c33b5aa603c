-- `packet_types::opening_fault` meets its contract: each return is a part of the rule, and the class stands within the least user data.
-- Assumes nothing.
use Rattle.std.proofs.Common.{◌≡◌, ℕ, Bool, true, false, true≢false, not, ◌||◌, ◌&&◌, eqb, ltb, List, length, refl, sym, ap, ◌∙◌, ne_eqb}
use borrow.Author.Tests.{eq-eqb}
use Rattle.field.specs.Field.{field_of}
use Rattle.packet_types.specs.Types.{least_of, class_at_of, class_of, type_row, another_class, fault_in, opening_fault}
use Rattle.packet_types.proofs.opening_fault.Goals as goal
use Rattle.packet_types.proofs.opening_fault.Goals.{then-number-ne0, else-number-ne0}

-- what holds of the row that was looked up holds of the type
of_row : (b : Bool) (row : List ℕ) (kind number : ℕ) (user_data : List ℕ) → row ≡ type_row kind → b ≡ fault_in row number user_data → b ≡ opening_fault kind number user_data
unfolding opening_fault
of_row b row kind number user_data e f = f ∙ ap (λ (r : List ℕ). fault_in r number user_data) e

found : (a b c v : Bool) → v ≡ (a || b) → v ≡ true → v ≡ (a || b || c)
found true b c v e f = e
found false true c v e f = e
found false false c v e f = absurd (true≢false (sym f ∙ e))

left : (a b c v : Bool) → v ≡ (a || b) → v ≡ false → c ≡ (a || b || c)
left true b c v e f = absurd (true≢false (sym e ∙ f))
left false true c v e f = absurd (true≢false (sym e ∙ f))
left false false c v e f = refl

-- where the type names a class, the class decides
another : (at class field right : ℕ) → (at ≡ 0 → ⊥) → class ≡ field → not (eqb class right) ≡ (not (eqb at 0) && not (eqb field right))
another at class field right n e = simp (ne_eqb at 0 n, e)

none : (at : ℕ) (b : Bool) → at ≡ 0 → not (eqb at 0) ≡ (not (eqb at 0) && b)
none at b z = simp (eq-eqb at 0 z)

-- the first two tests, joined: of the number, and where it is 0 of the length
by_number : (number : ℕ) (v b : Bool) → (number ≡ 0 → ⊥) → v ≡ not (eqb number 0) → v ≡ (not (eqb number 0) || b)
by_number number v b n e = e ∙ simp (ne_eqb number 0 n)

by_length : (number : ℕ) (v b : Bool) → number ≡ 0 → v ≡ b → v ≡ (not (eqb number 0) || b)
by_length number v b z e = e ∙ simp (eq-eqb number 0 z)

pub returns-then-data-from : goal.returns-then-data-from
unfolding least_of
returns-then-data-from c =
    of_row _ _ _ _ _ c.type_row-row.ensures
    (found (not (eqb c.args.number 0)) (ltb (length c.args.«data».now) (least_of c.type_row-row.result)) (another_class c.type_row-row.result c.args.«data».now) c.if-number-ne0.value (elim c.if-number-ne0.branch [
      | then-number-ne0 w ↦ by_number c.args.number c.if-number-ne0.value (ltb (length c.args.«data».now) (least_of c.type_row-row.result)) w.if-number-ne0.true w.value-is
      | else-number-ne0 w ↦ by_length c.args.number c.if-number-ne0.value (ltb (length c.args.«data».now) (least_of c.type_row-row.result)) w.if-number-ne0.false (w.value-is ∙ ap (ltb (length c.args.«data».now)) w.from.ensures)
    ]) c.if-data-from.true)

pub returns-then-row-ne0 : goal.returns-then-row-ne0
unfolding least_of
returns-then-row-ne0 c =
    let row : List ℕ = c.type_row-row.result in
    let s : List ℕ = c.args.«data».now in
    of_row _ _ _ _ _ c.type_row-row.ensures
    (another (class_at_of row) c.number_at.result (field_of s (class_at_of row) 1) (class_of row) c.if-row-ne0.true
    (c.number_at.ensures ∙ ap (λ (at : ℕ). field_of s at 1) c.from-then-row-ne0.ensures)
    ∙ left (not (eqb c.args.number 0)) (ltb (length s) (least_of row)) (another_class row s) c.if-number-ne0.value (elim c.if-number-ne0.branch [
      | then-number-ne0 w ↦ by_number c.args.number c.if-number-ne0.value (ltb (length c.args.«data».now) (least_of c.type_row-row.result)) w.if-number-ne0.true w.value-is
      | else-number-ne0 w ↦ by_length c.args.number c.if-number-ne0.value (ltb (length c.args.«data».now) (least_of c.type_row-row.result)) w.if-number-ne0.false (w.value-is ∙ ap (ltb (length s)) w.from.ensures)
    ]) c.if-data-from.false)

pub returns-else-row-ne0 : goal.returns-else-row-ne0
unfolding least_of
returns-else-row-ne0 c =
    let row : List ℕ = c.type_row-row.result in
    let s : List ℕ = c.args.«data».now in
    of_row _ _ _ _ _ c.type_row-row.ensures
    (none (class_at_of row) (not (eqb (field_of s (class_at_of row) 1) (class_of row))) c.if-row-ne0.false
    ∙ left (not (eqb c.args.number 0)) (ltb (length s) (least_of row)) (another_class row s) c.if-number-ne0.value (elim c.if-number-ne0.branch [
      | then-number-ne0 w ↦ by_number c.args.number c.if-number-ne0.value (ltb (length c.args.«data».now) (least_of c.type_row-row.result)) w.if-number-ne0.true w.value-is
      | else-number-ne0 w ↦ by_length c.args.number c.if-number-ne0.value (ltb (length c.args.«data».now) (least_of c.type_row-row.result)) w.if-number-ne0.false (w.value-is ∙ ap (ltb (length s)) w.from.ensures)
    ]) c.if-data-from.false)
