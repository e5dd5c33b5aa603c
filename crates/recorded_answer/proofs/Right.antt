-- Recorded bytes: fields that differ make them wrong, and where they are the same, the bytes written decide.
-- Assumes nothing.
use Prim.Native.Nat.{ℕ, suc, ◌+◌, ◌^◌, ◌≤◌, ◌<◌}
use mathlib.Core.Path.{◌≡◌, refl, sym, ap, ◌∙◌}
use mathlib.Core.Bool.{Bool, true, false, ◌&&◌, false≢true}
use mathlib.Core.List.{List, [], ◌∷◌, ◌++◌}
use native.Mathlib.Omega.{arith}
use lib.ListN.{length, get_or, take, drop, length-append, take-append-drop}
use lib.Seq.{drop_at}
use Rattle.rules.specs.Rows.{when◌answer◌else◌}
use Rattle.std.proofs.Common.{ℤ, pos, int_eq}
use Rattle.std.specs.Bool.{Decides}
use Rattle.std.proofs.lemmas.Bool.Decides.{Decides-like, Decides-at, Decides-and, Decides-eqb, Decides-int_eq}
use lib.Dec.{eqb}
use lib.Signed.{mag}
use Rattle.clock.specs.Clock.{wrapped, centred}
use Rattle.clock.proofs.Wrapped.{wrapped_lt, ≈-sym, wrapped-≈, centred-≈, centred_is, wrapped_is}
use Rattle.field.specs.Field.{field_of, bytes_of}
use Rattle.field.specs.Row.{fields_of, row_of, Bytes}
use Rattle.field.proofs.Field.{length_bytes}
use Rattle.field.proofs.Row.{fields_fit, fields_of_row, row_of_fields}
use Rattle.calls.specs.declared.Answer.{Answer}
use Rattle.text.proofs.Words.{same_answer}
use Rattle.recorded_answer.specs.Answer.{answer_widths, answer_fields_size, answer_bytes, is_right, named, recorded_fields, answer_fields}
use Rattle.recorded_answer.specs.declared.Fields.{Fields}

pub all_bytes : (s : List ℕ) → ((i : ℕ) → get_or s i 0 < 256) → Bytes s
all_bytes [] below = tt
all_bytes (b ∷ s) below = (below 0, all_bytes s (λ i. below (suc i)))

-- released, as a number
pub byte_of : (b : Bool) → (when b answer 1 else 0) < 256
byte_of true = omega arith
byte_of false = omega arith

-- fields, of their parts
abbrev fields_from : ℕ → ℕ → ℤ → Fields
fields_from number released age = record { number = number; released = released; age = record { 0 = age } }

module _ (a : Answer) (out : List ℕ) where
  -- the fields of the right bytes
  abbrev right_fields : List ℕ
  right_fields = a.number ∷ (when a.released answer 1 else 0) ∷ wrapped a.age.0 ∷ []

  row_size_lem : length (row_of answer_widths right_fields) ≡ answer_fields_size
  row_size_lem =
      let number = bytes_of 2 a.number in
      let released = bytes_of 1 (when a.released answer 1 else 0) in
      let age = bytes_of 4 (wrapped a.age.0) in
      omega (
        arith,
        length_bytes 2 a.number,
        length_bytes 1 (when a.released answer 1 else 0),
        length_bytes 4 (wrapped a.age.0),
        length-append number (released ++ (age ++ [])),
        length-append released (age ++ []),
        length-append age [],
      )

  pub answer_size_lem : length (answer_bytes a out) ≡ answer_fields_size + length (take a.written out)
  answer_size_lem = omega (arith, row_size_lem, length-append (row_of answer_widths right_fields) (take a.written out))

  right_fields_lem : a.number < 2 ^ 16 → fields_of answer_widths (answer_bytes a out) 0 ≡ right_fields
  right_fields_lem small =
      fields_of_row answer_widths right_fields [] (take a.written out) 0 refl
      (omega (arith, small), (omega (arith, byte_of a.released), (omega (arith, wrapped_lt a.age.0), tt)))

  module _ (recorded : List ℕ) where
    not_right : (recorded ≡ answer_bytes a out → ⊥) → false ≡ is_right recorded a out
    not_right other = same_answer false recorded (answer_bytes a out) (λ e. absurd (false≢true e)) (λ e. absurd (other e))

    same_fields : a.number < 2 ^ 16 → recorded ≡ answer_bytes a out → fields_of answer_widths recorded 0 ≡ right_fields
    same_fields small e = ap (λ (l : List ℕ). fields_of answer_widths l 0) e ∙ right_fields_lem small

    pub too_short : length recorded < answer_fields_size → false ≡ is_right recorded a out
    too_short h = not_right (λ e. omega (arith, h, ap length e, answer_size_lem))

    -- one of the fields that is another one makes them wrong
    pub fields_wrong : a.number < 2 ^ 16 → mag a.age.0 < 2 ^ 31 → (recorded_fields recorded ≡ answer_fields a → ⊥) → false ≡ is_right recorded a out
    fields_wrong small range other =
        not_right (λ e. other (ap named (same_fields small e) ∙ ap (fields_from a.number (when a.released answer 1 else 0)) (centred_is (pos (wrapped a.age.0)) a.age.0 (≈-sym (wrapped-≈ a.age.0)) range)))

    -- where the fields are right, the bytes behind them decide
    pub behind_them : (r : Bool) → Bytes recorded → answer_fields_size ≤ length recorded → recorded_fields recorded ≡ answer_fields a
        → (r ≡ true → drop answer_fields_size recorded ≡ take a.written out) → (drop answer_fields_size recorded ≡ take a.written out → r ≡ true)
        → r ≡ is_right recorded a out
    behind_them r bytes long fields there back =
        let age : field_of recorded 3 4 < 2 ^ 32 = omega (arith, (fields_fit answer_widths recorded 0 bytes).1.1.0) in
        let bits : field_of recorded 3 4 ≡ wrapped a.age.0 =
        sym (wrapped_is (centred (pos (field_of recorded 3 4))) (field_of recorded 3 4) (≈-sym (centred-≈ (pos (field_of recorded 3 4)))) age)
        ∙ ap (λ (f : Fields). wrapped f.age.0) fields in
        let number : field_of recorded 0 2 ≡ a.number = ap (λ (f : Fields). f.number) fields in
        let released : field_of recorded 2 1 ≡ (when a.released answer 1 else 0) = ap (λ (f : Fields). f.released) fields in
        let same : fields_of answer_widths recorded 0 ≡ right_fields = cc in
        let first : take answer_fields_size recorded ≡ row_of answer_widths right_fields =
        sym (row_of_fields answer_widths recorded 0 bytes long) ∙ ap (row_of answer_widths) same in
        same_answer r recorded (answer_bytes a out)
        (λ e.
        sym (take-append-drop answer_fields_size recorded) ∙ ap (λ (l : List ℕ). l ++ drop answer_fields_size recorded) first
        ∙ ap (λ (l : List ℕ). row_of answer_widths right_fields ++ l) (there e))
        (λ e. back (ap (drop answer_fields_size) e ∙ drop_at (row_of answer_widths right_fields) (take a.written out) answer_fields_size row_size_lem))

-- what `==` answers of the fields
pub fields_decide : (x y : Fields) (r : Bool) → r ≡ (eqb x.number y.number && (eqb x.released y.released && int_eq x.age.0 y.age.0))
    → Decides r (x ≡ y)
fields_decide x y r is =
    Decides-like r
    (λ p.
    ap (λ (n : ℕ). fields_from n x.released x.age.0) p.0 ∙ ap (λ (n : ℕ). fields_from y.number n x.age.0) p.1.0
    ∙ ap (fields_from y.number y.released) p.1.1)
    (λ e. (ap (λ (f : Fields). f.number) e, (ap (λ (f : Fields). f.released) e, ap (λ (f : Fields). f.age.0) e)))
    (Decides-at r _ is
    (Decides-and _ _ (Decides-eqb x.number y.number) (Decides-and _ _ (Decides-eqb x.released y.released) (Decides-int_eq x.age.0 y.age.0))))
