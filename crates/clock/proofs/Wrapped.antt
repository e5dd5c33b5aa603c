-- Numbers mod 2^32: what is apart by a multiple of it, and what centres a number.
-- Assumes nothing.
use Rattle.std.proofs.Common.{◌≡◌, ℕ, zero, suc, ◌+◌, ◌-◌, ◌*◌, ◌/◌, ◌%◌, ◌^◌, ◌<◌, ◌≤◌, Bool, true, false, not, T, ltb, leb, ℤ, pos, negsuc, ◌+ℤ◌, ◌-ℤ◌, neg_ℤ, nat_abs, sym, refl, ap, ◌∙◌, subst, arith, ltb→lt, nltb→le, w32, SFits, to_z, of_z, ltb-false, ltb-true, le-ltb, lt-ltb, le-leb}
use borrow.Author.Tests.{lt-leb}
use lib.IntN.{pos-ne-negsuc}
use lib.Signed.{mag, lt_z}
use Rattle.std.specs.Int.{int_wrap, int_rem_euclid}
use mir.Val.{sel}
use Rattle.rules.specs.Modulo.{modulo}
use Rattle.rules.specs.Rows.{when◌answer◌else◌}
use Rattle.rules.proofs.Integers.{up, dn, same, sum_is, less_is, neg_up, neg_dn, less_pos}
use Rattle.clock.specs.Clock.{wrapped, centred, goes_back, wait_of}

-- in range: -2^31 ≤ z < 2^31
pub range_up : (z : ℤ) → mag z < 2 ^ 31 → up z < 2 ^ 31
range_up (pos n) h = omega arith
range_up (negsuc n) h = omega arith

pub range_dn : (z : ℤ) → mag z < 2 ^ 31 → dn z ≤ 2 ^ 31
range_dn (pos n) h = omega arith
range_dn (negsuc n) h = omega arith

pub in_range : (z : ℤ) → up z < 2 ^ 31 → dn z ≤ 2 ^ 31 → mag z < 2 ^ 31
in_range (pos n) h k = omega arith
in_range (negsuc n) h k = omega arith

-- ---- two numbers that differ by a multiple of 2^32
pub record ◌≈◌ (a b : ℤ) : Type 0 where
  pub on : ℕ
  pub off : ℕ
  pub apart : up a + dn b + on * 2 ^ 32 ≡ dn a + up b + off * 2 ^ 32

infix 4 ◌≈◌
pub ≈-refl : (a : ℤ) → a ≈ a
≈-refl a = record { on = 0; off = 0; apart = omega arith }

pub ≈-sym : {a b : ℤ} → a ≈ b → b ≈ a
≈-sym e = record { on = e.off; off = e.on; apart = omega arith }

pub ≈-trans : {a b c : ℤ} → a ≈ b → b ≈ c → a ≈ c
≈-trans e f = record { on = e.on + f.on; off = e.off + f.off; apart = omega arith }

pub ≈-sum : {a b c d : ℤ} → a ≈ b → c ≈ d → a +ℤ c ≈ b +ℤ d
≈-sum {a} {b} {c} {d} e f =
    record { on = e.on + f.on; off = e.off + f.off; apart = omega (arith, sum_is a c, sum_is b d) }

pub ≈-less : {a b c d : ℤ} → a ≈ b → c ≈ d → a -ℤ c ≈ b -ℤ d
≈-less {a} {b} {c} {d} e f =
    record { on = e.on + f.off; off = e.off + f.on; apart = omega (arith, less_is a c, less_is b d) }

pub ≈-neg : {a b : ℤ} → a ≈ b → neg_ℤ a ≈ neg_ℤ b
≈-neg {a} {b} e =
    record { on = e.off; off = e.on; apart = omega (arith, neg_up a, neg_dn a, neg_up b, neg_dn b) }

-- two numbers in range that differ by a multiple of 2^32 are one
pub one_of : (a b : ℤ) → a ≈ b → mag a < 2 ^ 31 → mag b < 2 ^ 31 → a ≡ b
one_of a b e h k = same a b (omega (arith, range_up a h, range_dn a h, range_up b k, range_dn b k))

-- ---- the readings mod 2^32
pub wrapped_lt : (z : ℤ) → wrapped z < 2 ^ 32
unfolding wrapped modulo
wrapped_lt (pos n) = omega arith
wrapped_lt (negsuc n) = omega arith

pub wrapped-≈ : (z : ℤ) → pos (wrapped z) ≈ z
unfolding wrapped modulo
wrapped-≈ (pos n) = record { on = n / 2 ^ 32; off = 0; apart = omega arith }
wrapped-≈ (negsuc n) = record { on = 0; off = suc (n / 2 ^ 32); apart = omega arith }

sel_both : (c : Bool) (x y : ℤ) (P : ℤ → Type 0) → (T c → P x) → (T (not c) → P y) → P (sel c x y)
sel_both true x y P f g = f tt
sel_both false x y P f g = g tt

pub to_z-≈ : (n : ℕ) → n < 2 ^ 32 → to_z w32 n ≈ pos n
to_z-≈ n h = sel_both (ltb n (2 ^ 31)) (pos n) (negsuc (2 ^ 32 - suc n)) (λ z. z ≈ pos n)
    (λ t. ≈-refl (pos n)) (λ t. record { on = 1; off = 0; apart = omega arith })

pub to_z_range : (n : ℕ) → n < 2 ^ 32 → mag (to_z w32 n) < 2 ^ 31
to_z_range n h = sel_both (ltb n (2 ^ 31)) (pos n) (negsuc (2 ^ 32 - suc n)) (λ z. mag z < 2 ^ 31)
    (λ t. ltb→lt n (2 ^ 31) t) (λ t. omega (arith, nltb→le n (2 ^ 31) t))

-- the upper half, down by 2^32
lower_half : (n : ℕ) → n < 2 ^ 32 → pos n -ℤ pos (2 ^ 32) ≡ negsuc (2 ^ 32 - suc n)
lower_half n h = less_pos n (2 ^ 32) ∙ simp (lt-ltb n (2 ^ 32) h)

pub centred_to_z : (z : ℤ) → centred z ≡ to_z w32 (wrapped z)
unfolding centred
centred_to_z z = by (ltb (wrapped z) (2 ^ 31))
  where
    by : (t : Bool) → (when t answer pos (wrapped z) else (pos (wrapped z) -ℤ pos (2 ^ 32))) ≡ sel t (pos (wrapped z)) (negsuc (2 ^ 32 - suc (wrapped z)))
    by true = refl
    by false = lower_half (wrapped z) (wrapped_lt z)

pub centred-≈ : (z : ℤ) → centred z ≈ z
centred-≈ z = rw (centred_to_z z) (≈-trans (to_z-≈ (wrapped z) (wrapped_lt z)) (wrapped-≈ z))

pub centred_range : (z : ℤ) → mag (centred z) < 2 ^ 31
centred_range z = rw (centred_to_z z) (to_z_range (wrapped z) (wrapped_lt z))

-- a centred number is negative where the number mod 2^32 is in the upper half
pub centred_negative : (z : ℤ) → leb (2 ^ 31) (wrapped z) ≡ lt_z (centred z) (pos 0)
unfolding centred
centred_negative z = by (ltb (wrapped z) (2 ^ 31)) refl
  where
    by : (t : Bool) → ltb (wrapped z) (2 ^ 31) ≡ t → leb (2 ^ 31) (wrapped z) ≡ lt_z (when t answer pos (wrapped z) else (pos (wrapped z) -ℤ pos (2 ^ 32))) (pos 0)
    by true e = lt-leb (2 ^ 31) (wrapped z) (ltb-true (wrapped z) (2 ^ 31) e) ∙ sym (le-ltb (wrapped z) 0 (omega arith))
    by false e = le-leb (2 ^ 31) (wrapped z) (ltb-false (wrapped z) (2 ^ 31) e) ∙ ap (λ (x : ℤ). lt_z x (pos 0)) (sym (lower_half (wrapped z) (wrapped_lt z)))

-- what centres a number: in range, and apart from it by a multiple of 2^32
pub centred_is : (z w : ℤ) → w ≈ z → mag w < 2 ^ 31 → centred z ≡ w
centred_is z w e h = one_of (centred z) w (≈-trans (centred-≈ z) (≈-sym e)) (centred_range z) h

-- ---- what the machine's signed operations give
pub to_z_small : (n : ℕ) → n < 2 ^ 31 → to_z w32 n ≡ pos n
to_z_small n h = one_of (to_z w32 n) (pos n) (to_z-≈ n (omega arith)) (to_z_range n (omega arith)) h

pub centred_bits : (n : ℕ) → n < 2 ^ 32 → centred (pos n) ≡ to_z w32 n
centred_bits n h = centred_is (pos n) (to_z w32 n) (to_z-≈ n h) (to_z_range n h)

pub centred_small : (n : ℕ) → n < 2 ^ 31 → centred (pos n) ≡ pos n
centred_small n h = centred_bits n (omega arith) ∙ to_z_small n h

pub below_zero : (z : ℤ) → lt_z z (pos 0) ≡ true → z ≡ negsuc (mag z)
below_zero (pos n) e = let h : n < 0 = ltb-true n 0 e in let x : ⊥ = omega arith in absurd x
below_zero (negsuc n) e = refl

pub from_zero : (z : ℤ) → lt_z z (pos 0) ≡ false → z ≡ pos (mag z)
from_zero (pos n) e = refl
from_zero (negsuc n) e = absurd (subst T e tt)

-- ---- what the functions of the crate ensure, as steps mod 2^32
pub centred_same : {x y : ℤ} → x ≈ y → centred x ≡ centred y
centred_same {x} {y} e = centred_is x (centred y) (≈-trans (centred-≈ y) (≈-sym e)) (centred_range y)

pub wrapped_of : {r : ℕ} {z : ℤ} → r ≡ wrapped z → pos r ≈ z
wrapped_of {r} {z} e = rw e (wrapped-≈ z)

pub wrap_add : {a b : ℕ} {x y : ℤ} → pos a ≈ x → pos b ≈ y → pos ((a + b) % 2 ^ 32) ≈ x +ℤ y
wrap_add {a} {b} f g =
    ≈-trans (record { on = (a + b) / 2 ^ 32; off = 0; apart = omega (arith, sum_is (pos a) (pos b)) }) (≈-sum f g)

pub wrap_sub : {a b r : ℕ} {x y : ℤ} → (r + b) % 2 ^ 32 ≡ a → pos a ≈ x → pos b ≈ y → pos r ≈ x -ℤ y
wrap_sub {a} {b} {r} e f g =
    ≈-trans {b = pos a -ℤ pos b} (record { on = 0; off = (r + b) / 2 ^ 32; apart = omega (arith, less_is (pos a) (pos b)) }) (≈-less f g)

rest_≈ : (a : ℕ) → pos (a % 2 ^ 32) ≈ pos a
rest_≈ a = record { on = a / 2 ^ 32; off = 0; apart = omega arith }

-- the same of the difference as the machine wraps it
pub wrap_less : {a b : ℕ} {x y : ℤ} → b < 2 ^ 32 → pos a ≈ x → pos b ≈ y → pos ((a + (2 ^ 32 - b)) % 2 ^ 32) ≈ x -ℤ y
wrap_less {a} {b} h f g = wrap_sub {a = a % 2 ^ 32} (omega arith) (≈-trans (rest_≈ a) f) g

rest_is : (z : ℤ) → nat_abs (int_rem_euclid z (pos (2 ^ 32))) ≡ wrapped z
unfolding wrapped modulo
rest_is (pos n) = refl
rest_is (negsuc n) = omega arith

-- the machine's wrapping is what centres a number
pub centred_wraps : (z : ℤ) → int_wrap w32 z ≡ centred z
unfolding int_wrap
centred_wraps z = ap (to_z w32) (rest_is z) ∙ sym (centred_to_z z)

-- two's complement of a number in range
pub wrapped_in : (z : ℤ) → mag z < 2 ^ 31 → of_z w32 z ≡ wrapped z
unfolding wrapped modulo
wrapped_in (pos n) h = omega arith
wrapped_in (negsuc n) h = omega arith

-- the negation of a magnitude up to 2^31 is an i32
pub neg_fits : (m : ℕ) → m ≤ 2 ^ 31 → SFits w32 (neg_ℤ (pos m))
neg_fits zero h = record { sfits = omega arith }
neg_fits (suc m) h = record { sfits = omega arith }

-- the number of 0 .. 2^32-1 that differs from another by a multiple of 2^32
pub wrapped_is : (z : ℤ) (n : ℕ) → pos n ≈ z → n < 2 ^ 32 → wrapped z ≡ n
wrapped_is z n e h = let f : pos (wrapped z) ≈ pos n = ≈-trans (wrapped-≈ z) (≈-sym e) in omega (arith, wrapped_lt z, f.apart)

-- the bits of a number from 0 on, and of a negative one's negation, are its size, up to 2^31
pub wrapped_from : (z : ℤ) → mag z < 2 ^ 31 → z ≡ pos (mag z) → nat_abs z ≡ wrapped z
unfolding wrapped modulo
wrapped_from (pos n) h e = omega arith
wrapped_from (negsuc n) h e = absurd (pos-ne-negsuc n n (sym e))

pub wrapped_negation : (z : ℤ) → mag z < 2 ^ 31 → z ≡ negsuc (mag z) → wrapped (centred (neg_ℤ z)) ≡ nat_abs z
wrapped_negation (pos n) h e = absurd (pos-ne-negsuc n n e)
wrapped_negation (negsuc n) h e = wrapped_is (centred (pos (suc n))) (suc n) (≈-sym (centred-≈ (pos (suc n)))) (omega arith)

-- the negation of a magnitude, down to -2^31
pub centred_negation : (m : ℕ) → m ≤ 2 ^ 31 → centred (neg_ℤ (centred (pos m))) ≡ neg_ℤ (pos m)
centred_negation m h = centred_is (neg_ℤ (centred (pos m))) (neg_ℤ (pos m)) (≈-neg (≈-sym (centred-≈ (pos m)))) (neg_fits m h).sfits

-- ---- a clock that went on by less than 2^31 does not go back
pub waited_goes_on : (now since : ℕ) → wait_of now since < 2 ^ 31 → goes_back now since ≡ false
unfolding wait_of goes_back
waited_goes_on now since h = sym (centred_negative (pos now -ℤ pos since)) ∙ lt-leb (2 ^ 31) (wrapped (pos now -ℤ pos since)) h
