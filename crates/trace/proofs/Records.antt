-- What stands first in the bytes that are left of a trace: the cases of `record_of`, that a whole record is there whole, and that no more than the most
-- bytes of a record are looked at.
-- Assumes nothing.
use Prim.Native.Nat.{ℕ, ◌+◌, ◌≤◌}
use mathlib.Core.Path.{◌≡◌, refl, sym, ap, ◌∙◌}
use mathlib.Core.Bool.{Bool, true, false, ◌||◌}
use mathlib.Core.List.{List, ◌++◌}
use native.Mathlib.Omega.{arith}
use borrow.Author.Tests.{ltb-false, le-ltb, eq-eqb, ne_eqb}
use Rattle.std.proofs.lemmas.Bool.{or_parts}
use lib.Dec.{eqb, ltb}
use lib.ListN.{length, take, drop, length-append, length-drop, get_or-append}
use lib.Seq.{take-append-le, drop-append-le}
use Rattle.rules.specs.Rows.{when◌answer◌else◌}
use Rattle.field.specs.Field.{field_of}
use Rattle.field.proofs.Field.{field_same}
use Rattle.trace.specs.Record.{fields_at, fields_size, size_of, record_bytes, most_record_bytes, most_record, wrong_mark, unknown_kind, length_over, bad_fields, cut_record, record_of}
use Rattle.trace.specs.declared.Record.{Record}
use Rattle.trace.specs.declared.Next.TheVariants.{End, Bad, Whole}

-- all faults of the record that stands first
abbrev is_bad : List ℕ → Record → Bool
is_bad s r = bad_fields r || cut_record s r

-- what follows a fault does not matter
after_fault : (a over b b' : Bool) → (over ≡ false → b ≡ b') → (a || over || b) ≡ (a || over || b')
after_fault true over b b' same = refl
after_fault false true b b' same = refl
after_fault false false b b' same = same refl

pub none_ends : (s : List ℕ) → length s ≡ 0 → record_of s ≡ End
unfolding record_of
none_ends s e = rw (eq-eqb (length s) 0 e)

module _ (s : List ℕ) (some : length s ≡ 0 → ⊥) where
  abbrev r : Record
  r = fields_at s

  by_fault : (b : Bool) → is_bad s r ≡ b → record_of s ≡ (when b answer Bad else Whole r)
  unfolding record_of
  by_fault b e = rw (ne_eqb (length s) 0 some, e)

  pub is_whole : bad_fields r ≡ false → size_of r ≤ length s → record_of s ≡ Whole r
  unfolding cut_record
  is_whole e h = by_fault false (ap (λ (b : Bool). b || cut_record s r) e ∙ le-ltb (length s) (size_of r) h)

-- a whole record is there whole
pub whole_fits : (s : List ℕ) (r : Record) → record_of s ≡ Whole r → size_of r ≤ length s
unfolding record_of cut_record
whole_fits s r = by (eqb (length s) 0) (is_bad s (fields_at s)) refl
  where
    by : (none bad : Bool) → is_bad s (fields_at s) ≡ bad → (when none answer End else when bad answer Bad else Whole (fields_at s)) ≡ Whole r → size_of r ≤ length s
    by true bad b e = cc
    by false true b e = cc
    by false false b e =
        let same : fields_at s ≡ r = cc in
        let f = fields_at s in
        let fits = ltb-false (length s) (size_of f) (or_parts (bad_fields f) (ltb (length s) (size_of f)) b).1 in
        rw (← same) fits

-- and has no more bytes than a record may have
pub whole_small : (s : List ℕ) (r : Record) → record_of s ≡ Whole r → r.length ≤ most_record_bytes
unfolding record_of length_over
whole_small s r = by (eqb (length s) 0) (is_bad s (fields_at s)) refl
  where
    by : (none bad : Bool) → is_bad s (fields_at s) ≡ bad → (when none answer End else when bad answer Bad else Whole (fields_at s)) ≡ Whole r → r.length ≤ most_record_bytes
    by true bad b e = cc
    by false true b e = cc
    by false false b e =
        let same : fields_at s ≡ r = cc in
        let f = fields_at s in
        let fields = or_parts (bad_fields f) (cut_record s f) b in
        let few = ltb-false most_record_bytes f.length (or_parts (wrong_mark f || unknown_kind f) (ltb most_record_bytes f.length) fields.0).1 in
        rw (← same) few

-- bytes that follow are not looked at
module _ (s rest : List ℕ) where
  field_front : (at w : ℕ) → at + w ≤ length s → field_of (s ++ rest) at w ≡ field_of s at w
  field_front at w h = field_same (s ++ rest) s at at w (λ k l. get_or-append s rest 0 (at + k) (omega arith))

  module _ (many : most_record ≤ length s) where
    pub same_fields : fields_at (s ++ rest) ≡ fields_at s
    same_fields =
        cc (field_front 0 2 (omega arith), field_front 2 1 (omega arith), field_front 3 1 (omega arith), field_front 4 4 (omega arith), field_front 8 2 (omega arith))

    same_faults : (r : Record) → is_bad (s ++ rest) r ≡ is_bad s r
    unfolding length_over cut_record
    same_faults r =
        after_fault (wrong_mark r || unknown_kind r) (ltb most_record_bytes r.length) (ltb (length (s ++ rest)) (size_of r)) (ltb (length s) (size_of r))
        (λ e.
        let few = ltb-false most_record_bytes r.length e in
        le-ltb (length (s ++ rest)) (size_of r) (omega (arith, length-append s rest)) ∙ sym (le-ltb (length s) (size_of r) (omega arith)))

    pub reads_no_more : record_of (s ++ rest) ≡ record_of s
    reads_no_more =
        let more : length (s ++ rest) ≡ 0 → ⊥ = λ e. omega (arith, length-append s rest) in
        let some : length s ≡ 0 → ⊥ = λ e. omega arith in
        by_fault (s ++ rest) more (is_bad (s ++ rest) (fields_at (s ++ rest))) refl
        ∙ ap (λ (r : Record). when is_bad (s ++ rest) r answer Bad else Whole r) same_fields
        ∙ ap (λ (b : Bool). when b answer Bad else Whole (fields_at s)) (same_faults (fields_at s))
        ∙ sym (by_fault s some (is_bad s (fields_at s)) refl)

  -- nor are they a whole record's bytes
  pub same_bytes : (r : Record) → size_of r ≤ length s → record_bytes (s ++ rest) r ≡ record_bytes s r
  same_bytes r h =
      ap (take r.length) (drop-append-le fields_size s rest (omega arith))
      ∙ take-append-le r.length (drop fields_size s) rest (omega (arith, length-drop fields_size s))
