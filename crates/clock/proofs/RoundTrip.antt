-- An offset as a message carries it, and a number in two's complement, there and back.
-- Assumes nothing.
use Rattle.std.proofs.Common.{◌≡◌, ℕ, zero, suc, ◌^◌, ◌<◌, ◌≤◌, Bool, true, false, ◌&&◌, T, eqb, ltb, leb, ℤ, pos, negsuc, ◌-ℤ◌, neg_ℤ, sym, refl, ap, ◌∙◌, subst, arith, lt-ltb, eqb-true, le-leb, leb-true}
use lib.Signed.{mag}
use Rattle.rules.specs.Rows.{when◌answer◌else◌}
use Rattle.rules.proofs.Integers.{less_is}
use Rattle.clock.specs.Clock.{wrapped, centred, sign_magnitude_of, offset_read}
use Rattle.clock.specs.declared.Offset.{Offset}
use Rattle.std.specs.Prelude.{Some, None}
use Rattle.clock.proofs.Cases.{signed_as, offset}
use Rattle.clock.proofs.Wrapped.{◌≈◌, ≈-sym, ≈-trans, wrapped_lt, wrapped-≈, centred-≈, centred_is}

-- the sign and magnitude of an offset read as that offset
pub offset_there : (z : ℤ) → mag z < 2 ^ 31 → offset_read (sign_magnitude_of z).sign (sign_magnitude_of z).magnitude ≡ Some (offset z)
unfolding sign_magnitude_of offset_read
offset_there (pos n) h = simp (lt-ltb n (2 ^ 31) h)
offset_there (negsuc n) h =
    let k : 1 ≤ suc n = omega arith in
    let l : suc n ≤ 2 ^ 31 = omega arith in
    simp (le-leb 1 (suc n) k, le-leb (suc n) (2 ^ 31) l)

and_left : (a b : Bool) → a && b ≡ true → a ≡ true
and_left true b e = refl
and_left false b e = e

and_right : (a b : Bool) → a && b ≡ true → b ≡ true
and_right true b e = e
and_right false b e = absurd (subst T (sym e) tt)

minus_as : (n : ℕ) → 1 ≤ n → sign_magnitude_of (neg_ℤ (pos n)) ≡ signed_as 1 n
unfolding sign_magnitude_of
minus_as zero h = let z : ⊥ = omega arith in absurd z
minus_as (suc n) h = refl

-- what is read as an offset has that sign and magnitude
pub offset_back : (s n : ℕ) (x : Offset) → offset_read s n ≡ Some x → sign_magnitude_of x.0 ≡ signed_as s n
unfolding offset_read sign_magnitude_of
offset_back s n x e = go (eqb s 0 && ltb n (2 ^ 31)) (eqb s 1 && leb 1 n && leb n (2 ^ 31)) refl refl e
  where
    go : (a b : Bool) → eqb s 0 && ltb n (2 ^ 31) ≡ a → eqb s 1 && leb 1 n && leb n (2 ^ 31) ≡ b
        → (when a answer Some (offset (pos n)) else when b answer Some (offset (neg_ℤ (pos n))) else None) ≡ Some x
        → sign_magnitude_of x.0 ≡ signed_as s n
    go true b p q k =
        let o : offset (pos n) ≡ x = cc in
        let z : s ≡ 0 = eqb-true s 0 (and_left (eqb s 0) (ltb n (2 ^ 31)) p) in
        ap (λ (y : Offset). sign_magnitude_of y.0) (sym o) ∙ ap (λ (t : ℕ). signed_as t n) (sym z)
    go false true p q k =
        let o : offset (neg_ℤ (pos n)) ≡ x = cc in
        let l : eqb s 1 && leb 1 n ≡ true = and_left (eqb s 1 && leb 1 n) (leb n (2 ^ 31)) q in
        let z : s ≡ 1 = eqb-true s 1 (and_left (eqb s 1) (leb 1 n) l) in
        ap (λ (y : Offset). sign_magnitude_of y.0) (sym o)
        ∙ minus_as n (leb-true 1 n (and_right (eqb s 1) (leb 1 n) l))
        ∙ ap (λ (t : ℕ). signed_as t n) (sym z)
    go false false p q k = let c : ◌≡◌ {A = ℕ} 0 1 = cc in let z : ⊥ = omega arith in absurd z

-- ---- two's complement

less_nothing : (z : ℤ) → z -ℤ pos 0 ≈ z
less_nothing z = record { on = 0; off = 0; apart = omega (arith, less_is z (pos 0)) }

-- a number in range is its two's complement, centred
pub bits_there : (z : ℤ) → mag z < 2 ^ 31 → centred (pos (wrapped z) -ℤ pos 0) ≡ z
bits_there z r = centred_is (pos (wrapped z) -ℤ pos 0) z (≈-sym (≈-trans (less_nothing (pos (wrapped z))) (wrapped-≈ z))) r

-- and 32 bits, centred, have these bits again
pub bits_back : (n : ℕ) → n < 2 ^ 32 → wrapped (centred (pos n -ℤ pos 0)) ≡ n
bits_back n h = one_count (wrapped (centred (pos n -ℤ pos 0))) n (wrapped_lt _) h (≈-trans (wrapped-≈ _) (≈-trans (centred-≈ _) (less_nothing (pos n))))
  where
    one_count : (a b : ℕ) → a < 2 ^ 32 → b < 2 ^ 32 → pos a ≈ pos b → a ≡ b
    one_count a b k l e = omega (arith, e.apart)
