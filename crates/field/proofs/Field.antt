-- Big-endian fields, over the width: what is written is read, what is read is written, and other bytes stay.
-- Assumes nothing.
use Prim.Native.Nat.{ℕ, zero, suc, ◌+◌, ◌*◌, ◌/◌, ◌%◌, ◌^◌, ◌<◌, ◌≤◌}
use mathlib.Core.Path.{◌≡◌, refl, ap, ap₂, ◌∙◌, sym}
use mathlib.Core.List.{List, [], ◌∷◌, ◌++◌, append_assoc}
use mathlib.Core.Logic.{◌⊎◌, inl, inr, ⊎_elim}
use native.Mathlib.Omega.{arith}
use native.Mathlib.Nat.{pow-suc, add-zero}
use lib.Arith.{digits_lt}
use lib.Dec.{lit<}
use lib.ListN.{length, take, drop, set, get_or, length-append, length-drop, take-append-drop}
use lib.Seq.{sets, sets-eq, take-suc, take-add, length-take-le, get_or-drop, get_or-append-add, get_or-append_seam, get_or-set_other}
use Rattle.field.specs.Field.{field_of, bytes_of}
use Rattle.field.specs.Row.{Bytes}

pub length_bytes : (w x : ℕ) → length (bytes_of w x) ≡ w
unfolding bytes_of
length_bytes zero x = refl
length_bytes (suc w) x = simp (length-append, length_bytes w (x / 256)) (omega arith)

pub bytes_append : (a b : List ℕ) → Bytes a → Bytes b → Bytes (a ++ b)
bytes_append [] b s t = t
bytes_append (x ∷ a) b s t = (s.0, bytes_append a b s.1 t)

pub bytes_are : (w x : ℕ) → Bytes (bytes_of w x)
unfolding bytes_of
bytes_are zero x = tt
bytes_are (suc w) x = search (bytes_append, bytes_are w (x / 256), below x)
  where
    below : (x : ℕ) → (x % 256 < 256) × Unit {0}
    below x = (omega arith, tt)

-- a field of one list lies in the other where their bytes agree
pub field_same : (s t : List ℕ) (at bt w : ℕ) → ((k : ℕ) → k < w → get_or s (at + k) 0 ≡ get_or t (bt + k) 0) → field_of s at w ≡ field_of t bt w
unfolding field_of
field_same s t at bt zero h = refl
field_same s t at bt (suc w) h = simp (field_same s t at bt w (λ k l. h k (omega arith)), h w (omega arith))

-- a field past what stands in front
pub field_past : (p s : List ℕ) (at n w : ℕ) → length p ≡ n → field_of (p ++ s) (n + at) w ≡ field_of s at w
field_past p s at n w e =
    field_same (p ++ s) s (n + at) at w (λ k l. ap (λ (i : ℕ). get_or (p ++ s) i 0) (omega arith) ∙ get_or-append-add p s (at + k) 0)

-- reading what was written gives the number, at any width
pub field_of_bytes : (w x : ℕ) (rest : List ℕ) → x < 256 ^ w → field_of (bytes_of w x ++ rest) 0 w ≡ x
unfolding field_of bytes_of
field_of_bytes zero x rest h = omega arith
field_of_bytes (suc w) x rest h =
    let k : x < 256 ^ w * 256 = rw pow-suc at h in
    let small : x / 256 < 256 ^ w = omega arith in
    let e : (bytes_of w (x / 256) ++ (x % 256 ∷ [])) ++ rest ≡ bytes_of w (x / 256) ++ (x % 256 ∷ rest) = append_assoc (bytes_of w (x / 256)) (x % 256 ∷ []) rest in
    ap (λ (l : List ℕ). field_of l 0 w * 256 + get_or l (0 + w) 0) e
    ∙ ap₂ (λ (a b : ℕ). a * 256 + b) (field_of_bytes w (x / 256) (x % 256 ∷ rest) small) (last w)
    ∙ omega arith
  where
    last : (w : ℕ) → get_or (bytes_of w (x / 256) ++ (x % 256 ∷ rest)) (0 + w) 0 ≡ x % 256
    last w =
        ap (λ (i : ℕ). get_or (bytes_of w (x / 256) ++ (x % 256 ∷ rest)) i 0) (omega (arith, length_bytes w (x / 256)))
        ∙ get_or-append_seam (bytes_of w (x / 256)) (x % 256) rest 0

-- a byte of the list is below 256
pub byte_at : (s : List ℕ) (i : ℕ) → Bytes s → get_or s i 0 < 256
byte_at [] i t = omega arith
byte_at (b ∷ s) zero t = t.0
byte_at (b ∷ s) (suc i) t = byte_at s i t.1

-- writing what was read gives the bytes, at any width
pub bytes_of_field : (w : ℕ) (s : List ℕ) (at : ℕ) → Bytes s → at + w ≤ length s → bytes_of w (field_of s at w) ≡ take w (drop at s)
unfolding field_of bytes_of
bytes_of_field zero s at t h = refl
bytes_of_field (suc w) s at t h =
    let b : get_or s (at + w) 0 < 256 = byte_at s (at + w) t in
    let q : (field_of s at w * 256 + get_or s (at + w) 0) / 256 ≡ field_of s at w = omega arith in
    let r : (field_of s at w * 256 + get_or s (at + w) 0) % 256 ≡ get_or s (at + w) 0 = omega arith in
    ap₂ (λ (x y : ℕ). bytes_of w x ++ (y ∷ [])) q r
    ∙ ap (λ (l : List ℕ). l ++ (get_or s (at + w) 0 ∷ [])) (bytes_of_field w s at t (omega arith))
    ∙ sym (take-suc (drop at s) w 0 (omega (arith, length-drop at s)) ∙ ap (λ (x : ℕ). take w (drop at s) ++ (x ∷ [])) (get_or-drop at s w 0))

-- a field of bytes fits its width
pub field_fits : (w : ℕ) (s : List ℕ) (at : ℕ) → Bytes s → field_of s at w < 256 ^ w
unfolding field_of
field_fits zero s at t = lit< tt
field_fits (suc w) s at t = rw pow-suc (digits_lt (field_fits w s at t) (byte_at s (at + w) t))

-- ---- in a buffer: what `field::write` leaves

-- after a write the field reads as the number
pub written_read : (w x : ℕ) (l : List ℕ) (at : ℕ) → at + w ≤ length l → x < 256 ^ w → field_of (sets l at (bytes_of w x)) at w ≡ x
written_read w x l at h k =
    let n : length (bytes_of w x) ≡ w = length_bytes w x in
    let rest : List ℕ = drop (at + length (bytes_of w x)) l in
    ap (λ (s : List ℕ). field_of s at w) (sets-eq (bytes_of w x) l at (omega arith) ∙ append_assoc (take at l) (bytes_of w x) rest)
    ∙ ap (λ (i : ℕ). field_of (take at l ++ (bytes_of w x ++ rest)) i w) (sym (add-zero at))
    ∙ field_past (take at l) (bytes_of w x ++ rest) 0 at w (length-take-le at l (omega arith))
    ∙ field_of_bytes w x rest k

-- writing the number that stands there changes nothing
pub read_written : (w : ℕ) (l : List ℕ) (at : ℕ) → Bytes l → at + w ≤ length l → sets l at (bytes_of w (field_of l at w)) ≡ l
read_written w l at t h =
    let n : length (take w (drop at l)) ≡ w = length-take-le w (drop at l) (omega (arith, length-drop at l)) in
    let e : at + length (take w (drop at l)) ≡ at + w = omega arith in
    ap (sets l at) (bytes_of_field w l at t h)
    ∙ sets-eq (take w (drop at l)) l at (omega arith)
    ∙ ap₂ (λ (x y : List ℕ). x ++ y) (sym (take-add at w l)) (ap (λ (k : ℕ). drop k l) e)
    ∙ take-append-drop (at + w) l

-- the bytes before it and past it stay
pub others_stay : (vs l : List ℕ) (at k : ℕ) → (k < at) ⊎ (at + length vs ≤ k) → get_or (sets l at vs) k 0 ≡ get_or l k 0
others_stay [] l at k o = refl
others_stay (v ∷ vs) l at k o =
    others_stay vs (set l at v) (suc at) k (⊎_elim (λ h. inl (omega arith)) (λ h. inr (omega arith)) o)
    ∙ get_or-set_other l at k v 0 (λ e. ⊎_elim (λ h. omega arith) (λ h. omega arith) o)
