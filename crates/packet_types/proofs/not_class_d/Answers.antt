-- `packet_types::not_class_d` meets its contract: no type in class D is refused for its link or for its user data.
-- Assumes nothing.
use Rattle.std.proofs.Common.{◌≡◌, ℕ, Bool, true, false, true≢false, not, ◌||◌, ◌&&◌, List, refl, sym, ap, ◌∙◌}
use Rattle.packet_types.specs.Types.{type_row, has_class_d, has_link, numbered_zero, unwanted_data, in_class_d, opens, opening_fault}
use Rattle.packet_types.specs.Types.{not_class_d}
use Rattle.packet_types.proofs.TypeRows.{class_d_on_both, class_d_has_data}
use Rattle.packet_types.proofs.not_class_d.Goals as goal
use Rattle.packet_types.proofs.not_class_d.Goals.{then-not-has_class_d, else-not-has_class_d, then-not-has_link, else-not-has_link}

-- the tests of the row that was looked up, joined: of class D, then of the link, then of the user data; the last two refuse no type of class D
module _ (kind number : ℕ) (normal : Bool) (user_data row : List ℕ) (same : row ≡ type_row kind) where
  by_link : (v d g : Bool) → d ≡ has_class_d row → g ≡ has_link normal row → d ≡ true → v ≡ not g → v ≡ not (has_class_d row)
  by_link v d g e f t h =
      h ∙ ap not (f ∙ class_d_on_both kind row same (sym e ∙ t) normal) ∙ sym (ap not (sym e ∙ t))

  by_data : (v w u : Bool) → w ≡ not (has_class_d row) → u ≡ unwanted_data row user_data → w ≡ false → v ≡ u → v ≡ not (has_class_d row)
  by_data v w u e f n h =
      h ∙ f ∙ class_d_has_data kind row same (in-d (has_class_d row) (sym e ∙ n)) user_data ∙ sym (sym e ∙ n)
    where
      in-d : (b : Bool) → not b ≡ false → b ≡ true
      in-d true n = refl
      in-d false n = absurd (true≢false n)

  refused : (v : Bool) → v ≡ not (has_class_d row) → v ≡ true → v ≡ not_class_d number kind user_data
  unfolding not_class_d in_class_d opens
  refused v e t =
      t ∙ sym (ap (λ (b : Bool). b || (opens kind && opening_fault kind number user_data)) (sym (ap (λ (r : List ℕ). not (has_class_d r)) same) ∙ sym e ∙ t))

  goes_on : (v z : Bool) → v ≡ not (has_class_d row) → v ≡ false → z ≡ (numbered_zero row && opening_fault kind number user_data) → z ≡ not_class_d number kind user_data
  unfolding not_class_d in_class_d opens
  goes_on v z e t h =
      h ∙ ap (λ (r : List ℕ). numbered_zero r && opening_fault kind number user_data) same
      ∙ sym (ap (λ (b : Bool). b || (opens kind && opening_fault kind number user_data)) (sym (ap (λ (r : List ℕ). not (has_class_d r)) same) ∙ sym e ∙ t))

pub returns-then-unwanted_data : goal.returns-then-unwanted_data
returns-then-unwanted_data c =
    let a = c.args in
    let row : List ℕ = c.type_row-row.result in
    let same : row ≡ type_row a.kind = c.type_row-row.ensures in
    let first : c.if-not-has_class_d.value ≡ not (has_class_d row) = (elim c.if-not-has_class_d.branch [
      | then-not-has_class_d w ↦ w.value-is ∙ ap not c.has_class_d.ensures
      | else-not-has_class_d w ↦ by_link a.kind a.number a.normal a.«data».now row same c.if-not-has_class_d.value c.has_class_d.result w.has_link.result
          c.has_class_d.ensures w.has_link.ensures w.if-not-has_class_d.false w.value-is
    ]) in
    let both : c.if-not-has_link.value ≡ not (has_class_d row) = (elim c.if-not-has_link.branch [
      | then-not-has_link w ↦ w.value-is ∙ first
      | else-not-has_link w ↦ by_data a.kind a.number a.normal a.«data».now row same c.if-not-has_link.value c.if-not-has_class_d.value w.unwanted_data.result
          first w.unwanted_data.ensures w.if-not-has_link.false w.value-is
    ]) in
    refused a.kind a.number a.normal a.«data».now row same c.if-not-has_link.value both c.if-unwanted_data.true

pub returns-then-numbered_zero : goal.returns-then-numbered_zero
returns-then-numbered_zero c =
    let a = c.args in
    let row : List ℕ = c.type_row-row.result in
    let same : row ≡ type_row a.kind = c.type_row-row.ensures in
    let first : c.if-not-has_class_d.value ≡ not (has_class_d row) = (elim c.if-not-has_class_d.branch [
      | then-not-has_class_d w ↦ w.value-is ∙ ap not c.has_class_d.ensures
      | else-not-has_class_d w ↦ by_link a.kind a.number a.normal a.«data».now row same c.if-not-has_class_d.value c.has_class_d.result w.has_link.result
          c.has_class_d.ensures w.has_link.ensures w.if-not-has_class_d.false w.value-is
    ]) in
    let both : c.if-not-has_link.value ≡ not (has_class_d row) = (elim c.if-not-has_link.branch [
      | then-not-has_link w ↦ w.value-is ∙ first
      | else-not-has_link w ↦ by_data a.kind a.number a.normal a.«data».now row same c.if-not-has_link.value c.if-not-has_class_d.value w.unwanted_data.result
          first w.unwanted_data.ensures w.if-not-has_link.false w.value-is
    ]) in
    goes_on a.kind a.number a.normal a.«data».now row same c.if-not-has_link.value c.opening_fault.result both c.if-unwanted_data.false
    (c.opening_fault.ensures ∙ ap (λ (z : Bool). z && opening_fault a.kind a.number a.«data».now) (sym c.if-numbered_zero.true ∙ c.numbered_zero.ensures))

pub returns-else-numbered_zero : goal.returns-else-numbered_zero
returns-else-numbered_zero c =
    let a = c.args in
    let row : List ℕ = c.type_row-row.result in
    let same : row ≡ type_row a.kind = c.type_row-row.ensures in
    let first : c.if-not-has_class_d.value ≡ not (has_class_d row) = (elim c.if-not-has_class_d.branch [
      | then-not-has_class_d w ↦ w.value-is ∙ ap not c.has_class_d.ensures
      | else-not-has_class_d w ↦ by_link a.kind a.number a.normal a.«data».now row same c.if-not-has_class_d.value c.has_class_d.result w.has_link.result
          c.has_class_d.ensures w.has_link.ensures w.if-not-has_class_d.false w.value-is
    ]) in
    let both : c.if-not-has_link.value ≡ not (has_class_d row) = (elim c.if-not-has_link.branch [
      | then-not-has_link w ↦ w.value-is ∙ first
      | else-not-has_link w ↦ by_data a.kind a.number a.normal a.«data».now row same c.if-not-has_link.value c.if-not-has_class_d.value w.unwanted_data.result
          first w.unwanted_data.ensures w.if-not-has_link.false w.value-is
    ]) in
    goes_on a.kind a.number a.normal a.«data».now row same c.if-not-has_link.value c.numbered_zero.result both c.if-unwanted_data.false
    (c.if-numbered_zero.false ∙ ap (λ (z : Bool). z && opening_fault a.kind a.number a.«data».now) (sym c.if-numbered_zero.false ∙ c.numbered_zero.ensures))
