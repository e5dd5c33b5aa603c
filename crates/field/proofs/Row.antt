-- A row of fields, over any widths: what is written is read, and what is read is written.
-- Assumes nothing.
use Prim.Native.Nat.{ℕ, ◌+◌, ◌≤◌}
use mathlib.Core.Path.{◌≡◌, refl, ap, ap₂, ◌∙◌, sym}
use mathlib.Core.List.{List, [], ◌∷◌, ◌++◌, append_assoc}
use native.Mathlib.Omega.{arith}
use native.Mathlib.Nat.{add_assoc, add-zero, zero-add}
use lib.ListN.{length, take, drop, length-append}
use lib.Seq.{take-add, drop-drop}
use Rattle.field.specs.Field.{field_of, bytes_of}
use Rattle.field.specs.Row.{fields_from, fields_of, row_of, width_of, FitsRow, Bytes}
use Rattle.field.proofs.Field.{length_bytes, bytes_append, bytes_are, field_past, field_of_bytes, bytes_of_field, field_fits}

pub bytes_row : (ws xs : List ℕ) → Bytes (row_of ws xs)
bytes_row [] xs = tt
bytes_row (w ∷ ws) [] = tt
bytes_row (w ∷ ws) (x ∷ xs) = bytes_append (bytes_of w x) (row_of ws xs) (bytes_are w x) (bytes_row ws xs)

pub length_row : (ws xs : List ℕ) → FitsRow ws xs → length (row_of ws xs) ≡ width_of ws
length_row [] [] f = refl
length_row [] (x ∷ xs) f = absurd f
length_row (w ∷ ws) [] f = absurd f
length_row (w ∷ ws) (x ∷ xs) f =
    length-append (bytes_of w x) (row_of ws xs) ∙ ap₂ (λ (a b : ℕ). a + b) (length_bytes w x) (length_row ws xs f.1)

-- the fields of bytes fit their widths
from_fit : (ws s : List ℕ) (at k : ℕ) → Bytes s → FitsRow ws (fields_from ws s at k)
from_fit [] s at k t = tt
from_fit (w ∷ ws) s at k t = (field_fits w s (at + k) t, from_fit ws s at (k + w) t)

pub fields_fit : (ws s : List ℕ) (at : ℕ) → Bytes s → FitsRow ws (fields_of ws s at)
fields_fit [] s at t = tt
fields_fit (w ∷ ws) s at t = (field_fits w s at t, from_fit ws s at w t)

-- the first field stands at at itself
from_start : (ws s : List ℕ) (at : ℕ) → fields_of ws s at ≡ fields_from ws s at 0
from_start [] s at = refl
from_start (w ∷ ws) s at =
    ap₂ (λ (i k : ℕ). field_of s i w ∷ fields_from ws s at k) (sym (add-zero at)) (sym (zero-add w))

-- reading what was written gives the numbers: p stands before the row, and rest after it
from_row : (ws xs p rest : List ℕ) (at k : ℕ) → length p ≡ at + k → FitsRow ws xs → fields_from ws (p ++ (row_of ws xs ++ rest)) at k ≡ xs
from_row [] [] p rest at k e f = refl
from_row [] (x ∷ xs) p rest at k e f = absurd f
from_row (w ∷ ws) [] p rest at k e f = absurd f
from_row (w ∷ ws) (x ∷ xs) p rest at k e f =
    let tail : List ℕ = row_of ws xs ++ rest in
    let all : List ℕ = p ++ ((bytes_of w x ++ row_of ws xs) ++ rest) in
    let split : all ≡ p ++ (bytes_of w x ++ tail) = ap (λ (l : List ℕ). p ++ l) (append_assoc (bytes_of w x) (row_of ws xs) rest) in
    let on : all ≡ (p ++ bytes_of w x) ++ tail = split ∙ sym (append_assoc p (bytes_of w x) tail) in
    ap₂ (λ (y : ℕ) (ys : List ℕ). y ∷ ys)
    (ap (λ (l : List ℕ). field_of l (at + k) w) split ∙ ap (λ (i : ℕ). field_of (p ++ (bytes_of w x ++ tail)) i w) (sym (add-zero (at + k))) ∙ field_past p (bytes_of w x ++ tail) 0 (at + k) w e ∙ field_of_bytes w x tail f.0)
    (ap (λ (l : List ℕ). fields_from ws l at (k + w)) on
    ∙ from_row ws xs (p ++ bytes_of w x) rest at (k + w) (length-append p (bytes_of w x) ∙ omega (arith, length_bytes w x)) f.1)

pub fields_of_row : (ws xs p rest : List ℕ) (at : ℕ) → length p ≡ at → FitsRow ws xs → fields_of ws (p ++ (row_of ws xs ++ rest)) at ≡ xs
fields_of_row ws xs p rest at e f = from_start ws (p ++ (row_of ws xs ++ rest)) at ∙ from_row ws xs p rest at 0 (e ∙ sym (add-zero at)) f

-- writing what was read gives the bytes
row_from : (ws s : List ℕ) (at k : ℕ) → Bytes s → at + k + width_of ws ≤ length s → row_of ws (fields_from ws s at k) ≡ take (width_of ws) (drop (at + k) s)
row_from [] s at k t h = refl
row_from (w ∷ ws) s at k t h =
    ap₂ (λ (a b : List ℕ). a ++ b)
    (bytes_of_field w s (at + k) t (omega arith))
    (row_from ws s at (k + w) t (omega arith) ∙ ap (λ (n : ℕ). take (width_of ws) (drop n s)) (sym (add_assoc at k w)) ∙ ap (take (width_of ws)) (sym (drop-drop w (at + k) s)))
    ∙ sym (take-add w (width_of ws) (drop (at + k) s))

pub row_of_fields : (ws s : List ℕ) (at : ℕ) → Bytes s → at + width_of ws ≤ length s → row_of ws (fields_of ws s at) ≡ take (width_of ws) (drop at s)
row_of_fields ws s at t h =
    ap (row_of ws) (from_start ws s at)
    ∙ row_from ws s at 0 t (omega arith)
    ∙ ap (λ (n : ℕ). take (width_of ws) (drop n s)) (add-zero at)
