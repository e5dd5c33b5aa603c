-- Fields by the list of their widths, one after the other: where each stands, what is written up to it, and whether its number fits.
-- Assumes nothing.
use Prim.Native.Nat.{ℕ, zero, suc, ◌+◌, ◌^◌, ◌<◌, ◌≤◌}
use Rattle.std.proofs.lemmas.Bool.{and_parts}
use mathlib.Core.Path.{◌≡◌, refl, sym, ap, ap₂, subst, ◌∙◌}
use mathlib.Core.Bool.{Bool, true, false, ◌&&◌}
use mathlib.Core.List.{List, [], ◌∷◌, ◌++◌, append_assoc, append-nil}
use native.Mathlib.Omega.{arith}
use native.Mathlib.Nat.{zero-add}
use native.Mathlib.Numerals.{add-one}
use borrow.Author.Tests.{lt-ltb, le-ltb, leb-true, ltb-true, ltb-false}
use lib.Dec.{T, ltb, leb}
use lib.ListN.{length, take, drop, set, get_or, length-append, drop_of_length-le}
use lib.Seq.{sets, drop-cons, take_all, take-length}
use Rattle.field.specs.Field.{field_of, bytes_of}
use Rattle.field.specs.Row.{fields_from, fields_of, row_of, width_of, FitsRow}
use Rattle.field.proofs.Field.{length_bytes, written_read}
use Rattle.field.proofs.Row.{fields_of_row}
use Rattle.field.proofs.Stores.{stores_append, copied}
use Rattle.connection_row.specs.Row.{row_widths, row_size}
use Rattle.connection_row.proofs.Writes.{all_stored}
use Rattle.row_calls.specs.Numbers.{field_count, fits}

-- ---- where a field stands

pub width_next : (ws : List ℕ) (i : ℕ) → i < length ws → width_of (take (suc i) ws) ≡ width_of (take i ws) + get_or ws i 0
width_next [] i l = let z : ⊥ = omega arith in absurd z
width_next (w ∷ ws) zero l = omega arith
width_next (w ∷ ws) (suc i) l = omega (arith, width_next ws i (omega arith))

pub width_within : (ws : List ℕ) (i : ℕ) → i < length ws → width_of (take i ws) + get_or ws i 0 ≤ width_of ws
width_within [] i l = let z : ⊥ = omega arith in absurd z
width_within (w ∷ ws) zero l = omega arith
width_within (w ∷ ws) (suc i) l = omega (arith, width_within ws i (omega arith))

-- ---- reading

length_from : (ws s : List ℕ) (at k : ℕ) → length (fields_from ws s at k) ≡ length ws
length_from [] s at k = refl
length_from (w ∷ ws) s at k = ap suc (length_from ws s at (k + w))

pub length_fields : (ws s : List ℕ) (at : ℕ) → length (fields_of ws s at) ≡ length ws
length_fields [] s at = refl
length_fields (w ∷ ws) s at = ap suc (length_from ws s at w)

from_at : (ws s : List ℕ) (at k i : ℕ) → i < length ws → get_or (fields_from ws s at k) i 0 ≡ field_of s (at + k + width_of (take i ws)) (get_or ws i 0)
from_at [] s at k i l = let z : ⊥ = omega arith in absurd z
from_at (w ∷ ws) s at k zero l = ap (λ (p : ℕ). field_of s p w) (omega arith)
from_at (w ∷ ws) s at k (suc i) l =
    from_at ws s at (k + w) i (omega arith) ∙ ap (λ (p : ℕ). field_of s p (get_or ws i 0)) (omega arith)

pub field_at : (ws s : List ℕ) (i : ℕ) → i < length ws → get_or (fields_of ws s 0) i 0 ≡ field_of s (width_of (take i ws)) (get_or ws i 0)
field_at [] s i l = let z : ⊥ = omega arith in absurd z
field_at (w ∷ ws) s zero l = refl
field_at (w ∷ ws) s (suc i) l = from_at ws s 0 w i (omega arith) ∙ ap (λ (p : ℕ). field_of s p (get_or ws i 0)) (omega arith)

-- ---- writing

row_next : (ws xs : List ℕ) (i : ℕ) → i < length ws → i < length xs
    → row_of (take (suc i) ws) (take (suc i) xs) ≡ row_of (take i ws) (take i xs) ++ bytes_of (get_or ws i 0) (get_or xs i 0)
row_next [] xs i l m = let z : ⊥ = omega arith in absurd z
row_next (w ∷ ws) [] i l m = let z : ⊥ = omega arith in absurd z
row_next (w ∷ ws) (x ∷ xs) zero l m = append-nil (bytes_of w x)
row_next (w ∷ ws) (x ∷ xs) (suc i) l m =
    ap (λ (s : List ℕ). bytes_of w x ++ s) (row_next ws xs i (omega arith) (omega arith))
    ∙ sym (append_assoc (bytes_of w x) (row_of (take i ws) (take i xs)) (bytes_of (get_or ws i 0) (get_or xs i 0)))

length_part : (ws xs : List ℕ) (i : ℕ) → i ≤ length ws → i ≤ length xs → length (row_of (take i ws) (take i xs)) ≡ width_of (take i ws)
length_part ws xs zero l m = refl
length_part [] xs (suc i) l m = let z : ⊥ = omega arith in absurd z
length_part (w ∷ ws) [] (suc i) l m = let z : ⊥ = omega arith in absurd z
length_part (w ∷ ws) (x ∷ xs) (suc i) l m =
    length-append (bytes_of w x) (row_of (take i ws) (take i xs))
    ∙ ap₂ (λ (a b : ℕ). a + b) (length_bytes w x) (length_part ws xs i (omega arith) (omega arith))

-- one field more
pub written_next : (ws xs l : List ℕ) (i : ℕ) → i < length ws → i < length xs
    → sets (sets l 0 (row_of (take i ws) (take i xs))) (width_of (take i ws)) (bytes_of (get_or ws i 0) (get_or xs i 0))
    ≡ sets l 0 (row_of (take (suc i) ws) (take (suc i) xs))
written_next ws xs l i m n =
    ap (λ (at : ℕ). sets (sets l 0 (row_of (take i ws) (take i xs))) at (bytes_of (get_or ws i 0) (get_or xs i 0)))
    (sym (length_part ws xs i (omega arith) (omega arith)) ∙ sym (zero-add (length (row_of (take i ws) (take i xs)))))
    ∙ sym (stores_append (row_of (take i ws) (take i xs)) (bytes_of (get_or ws i 0) (get_or xs i 0)) l 0)
    ∙ ap (sets l 0) (sym (row_next ws xs i m n))

-- ---- what fits

fits_next : (ws xs : List ℕ) (i : ℕ) → i < length ws → i < length xs
    → fits (drop i ws) (drop i xs) ≡ ltb (get_or xs i 0) (256 ^ get_or ws i 0) && fits (drop (suc i) ws) (drop (suc i) xs)
unfolding fits
fits_next ws xs i l m = rw (drop-cons ws i 0 l, drop-cons xs i 0 m) refl

-- a number reads back from its bytes exactly where it fits them
module _ (ws xs : List ℕ) (i : ℕ) (l : i < length ws) (m : i < length xs) where
  pub next_fits : get_or xs i 0 < 256 ^ get_or ws i 0 → fits (drop i ws) (drop i xs) ≡ fits (drop (suc i) ws) (drop (suc i) xs)
  next_fits h = fits_next ws xs i l m ∙ rw (lt-ltb (get_or xs i 0) (256 ^ get_or ws i 0) h) refl

  pub next_too_large : 256 ^ get_or ws i 0 ≤ get_or xs i 0 → fits (drop i ws) (drop i xs) ≡ false
  next_too_large h = fits_next ws xs i l m ∙ rw (le-ltb (get_or xs i 0) (256 ^ get_or ws i 0) h) refl

pub too_large : (w x : ℕ) (l : List ℕ) (at : ℕ) → at + w ≤ length l → (field_of (sets l at (bytes_of w x)) at w ≡ x → ⊥) → 256 ^ w ≤ x
too_large w x l at h n = go (ltb x (256 ^ w)) refl
  where
    go : (b : Bool) → ltb x (256 ^ w) ≡ b → 256 ^ w ≤ x
    go true e = absurd (n (written_read w x l at h (ltb-true x (256 ^ w) e)))
    go false e = ltb-false x (256 ^ w) e

pub none_fits : (ws xs : List ℕ) (i : ℕ) → length ws ≤ i → length xs ≤ i → fits (drop i ws) (drop i xs) ≡ true
unfolding fits
none_fits ws xs i l m = rw (drop_of_length-le ws l, drop_of_length-le xs m) refl

-- another count of numbers than of fields
pub other_count : (ws xs : List ℕ) → (length xs ≡ length ws → ⊥) → fits ws xs ≡ false
unfolding fits
other_count [] [] n = absurd (n refl)
other_count [] (x ∷ xs) n = refl
other_count (w ∷ ws) [] n = refl
other_count (w ∷ ws) (x ∷ xs) n = rw (other_count ws xs (λ e. n (ap suc e))) (go (ltb x (256 ^ w)))
  where
    go : (b : Bool) → b && false ≡ false
    go true = refl
    go false = refl

-- ---- the row's own widths

abbrev narrow : List ℕ → Bool
narrow [] = true
narrow (w ∷ ws) = leb w 4 && narrow ws

narrow_at : (ws : List ℕ) (i : ℕ) → narrow ws ≡ true → get_or ws i 0 ≤ 4
narrow_at [] i e = omega arith
narrow_at (w ∷ ws) zero e = leb-true w 4 (and_parts (leb w 4) (narrow ws) e).0
narrow_at (w ∷ ws) (suc i) e = narrow_at ws i (and_parts (leb w 4) (narrow ws) e).1

-- what is known of the i-th field of a row that is at its place
pub record Field (i at w : ℕ) : Type 0 where
  pub width : w ≡ get_or row_widths i 0
  pub small : w ≤ 4
  pub inside : at + w ≤ row_size
  pub next : at + w ≡ width_of (take (i + 1) row_widths)

pub field_of_lem : (i at w : ℕ) → i < field_count → at ≡ width_of (take i row_widths) → w ≡ get_or row_widths i 0 → Field i at w
field_of_lem i at w l p e =
    record {
      width = e;
      small = omega (arith, e, narrow_at row_widths i refl);
      inside = omega (arith, e, p, width_within row_widths i l);
      next = omega (arith, e, p, width_next row_widths i l) ∙ ap (λ (k : ℕ). width_of (take k row_widths)) (sym (add-one i));
    }

-- one number more
pub read_next : (row before : List ℕ) (i at w x : ℕ) → i < field_count → at ≡ width_of (take i row_widths) → Field i at w → x ≡ field_of row at w
    → set (sets before 0 (take i (fields_of row_widths row 0))) i x ≡ sets before 0 (take (i + 1) (fields_of row_widths row 0))
read_next row before i at w x l p f e =
    ap (set (sets before 0 (take i (fields_of row_widths row 0))) i)
    (e ∙ ap₂ (λ (a b : ℕ). field_of row a b) p f.width ∙ sym (field_at row_widths row i l))
    ∙ ap (λ (k : ℕ). set (sets before 0 (take i (fields_of row_widths row 0))) k (get_or (fields_of row_widths row 0) i 0)) (sym (zero-add i))
    ∙ copied (fields_of row_widths row 0) before 0 i (omega (arith, l, length_fields row_widths row 0))

module _ (fields before : List ℕ) (count : length fields ≡ field_count) (i at w : ℕ) (l : i < field_count) (p : at ≡ width_of (take i row_widths)) (f : Field i at w) where
  pub more_written : (row : List ℕ) → row ≡ sets before 0 (row_of (take i row_widths) (take i fields))
      → sets row at (bytes_of w (get_or fields i 0)) ≡ sets before 0 (row_of (take (i + 1) row_widths) (take (i + 1) fields))
  more_written row e =
      rw (e, p, f.width, add-one) (written_next row_widths fields before i l (omega (arith, l, count)))

  pub more_fits : get_or fields i 0 < 256 ^ w → fits (drop (i + 1) row_widths) (drop (i + 1) fields) ≡ fits (drop i row_widths) (drop i fields)
  more_fits h = rw add-one (sym (next_fits row_widths fields i l (omega (arith, l, count)) (subst (λ (v : ℕ). get_or fields i 0 < 256 ^ v) f.width h)))

  pub fits_no_more : (row : List ℕ) → length row ≡ row_size → (field_of (sets row at (bytes_of w (get_or fields i 0))) at w ≡ get_or fields i 0 → ⊥)
      → fits (drop i row_widths) (drop i fields) ≡ false
  fits_no_more row e n =
      next_too_large row_widths fields i l (omega (arith, l, count))
      (subst (λ (v : ℕ). 256 ^ v ≤ get_or fields i 0) f.width (too_large w (get_or fields i 0) row at (omega (arith, f.inside, e)) n))

module _ (fields : List ℕ) (count : length fields ≡ field_count) (i : ℕ) (l : field_count ≤ i) where
  pub all_fit : fits (drop i row_widths) (drop i fields) ≡ true
  all_fit = none_fits row_widths fields i l (omega (arith, l, count))

  pub all_written : (row before : List ℕ) → length before ≡ row_size → row ≡ sets before 0 (row_of (take i row_widths) (take i fields)) → row ≡ row_of row_widths fields
  all_written row before e w =
      w
      ∙ ap₂ (λ (a b : List ℕ). sets before 0 (row_of a b)) (take_all i row_widths l) (take_all i fields (omega (arith, l, count)))
      ∙ all_stored (row_of row_widths fields) before (whole row_widths fields (sym count) ∙ sym e)
    where
      whole : (ws xs : List ℕ) → length ws ≡ length xs → length (row_of ws xs) ≡ width_of ws
      whole ws xs e =
          ap₂ (λ (a b : List ℕ). length (row_of a b)) (sym (take-length ws)) (sym (take_all (length ws) xs (omega arith)))
          ∙ length_part ws xs (length ws) (omega arith) (omega arith)
          ∙ ap width_of (take-length ws)

-- ---- numbers that fit are read back

fits_row : (ws xs : List ℕ) → fits ws xs ≡ true → FitsRow ws xs
unfolding fits
fits_row [] [] e = tt
fits_row [] (x ∷ xs) e = absurd (subst T (sym e) tt)
fits_row (w ∷ ws) [] e = absurd (subst T (sym e) tt)
fits_row (w ∷ ws) (x ∷ xs) e =
    (ltb-true x (256 ^ w) (and_parts (ltb x (256 ^ w)) (fits ws xs) e).0, fits_row ws xs (and_parts (ltb x (256 ^ w)) (fits ws xs) e).1)

pub numbers_back : (fields : List ℕ) → fits row_widths fields ≡ true → fields_of row_widths (row_of row_widths fields) 0 ≡ fields
numbers_back fields e =
    ap (λ (l : List ℕ). fields_of row_widths l 0) (sym (append-nil (row_of row_widths fields)))
    ∙ fields_of_row row_widths fields [] [] 0 refl (fits_row row_widths fields e)
