-- Integers as differences of two naturals, so that `omega`, which reads ℕ alone, proves what is linear in them.
-- z is up z - dn z. Each law states an operation by its parts; a proof lists the laws at its terms and calls `omega`.
-- Assumes nothing.
use Prim.Native.Nat.{ℕ, zero, suc, ◌+◌, ◌-◌, ◌≤◌, ◌<◌}
use mathlib.Core.Path.{◌≡◌, refl, ap}
use mathlib.Core.Bool.{Bool, true, false, not, cond}
use native.Mathlib.Omega.{arith}
use lib.Dec.{T, ltb, ltb→lt, nltb→le, leb→le, le→leb}
use lib.IntN.{ℤ, pos, negsuc, neg_ℤ, sub_ℕ, ◌+ℤ◌, ◌-ℤ◌}
use lib.Signed.{◌≤ℤ◌}

abbrev pub up : ℤ → ℕ
up (pos n) = n
up (negsuc n) = 0

abbrev pub dn : ℤ → ℕ
dn (pos n) = 0
dn (negsuc n) = suc n

-- the two parts make the number
pub same : (a b : ℤ) → up a + dn b ≡ up b + dn a → a ≡ b
same (pos a) (pos b) e = let h : a ≡ b = omega arith in ap pos h
same (pos a) (negsuc b) e = let h : ⊥ = omega arith in absurd h
same (negsuc a) (pos b) e = let h : ⊥ = omega arith in absurd h
same (negsuc a) (negsuc b) e = let h : a ≡ b = omega arith in ap negsuc h

pub cond_both : (c : Bool) (x y : ℤ) (P : ℤ → Type 0) → (T c → P x) → (T (not c) → P y) → P (cond c x y)
cond_both true x y P f g = f tt
cond_both false x y P f g = g tt

-- a - b for naturals
pub sub_is : (a b : ℕ) → up (sub_ℕ a b) + b ≡ dn (sub_ℕ a b) + a
sub_is a b = cond_both (ltb a b) (negsuc (b - suc a)) (pos (a - b)) (λ z. up z + b ≡ dn z + a)
    (λ t. lo (ltb→lt a b t)) (λ t. hi (nltb→le a b t))
  where
    lo : a < b → up (negsuc (b - suc a)) + b ≡ dn (negsuc (b - suc a)) + a
    lo h = omega arith

    hi : b ≤ a → up (pos (a - b)) + b ≡ dn (pos (a - b)) + a
    hi h = omega arith

pub sum_is : (a b : ℤ) → up (a +ℤ b) + (dn a + dn b) ≡ dn (a +ℤ b) + (up a + up b)
sum_is (pos a) (pos b) = omega arith
sum_is (pos a) (negsuc b) = omega (arith, sub_is a (suc b))
sum_is (negsuc a) (pos b) = omega (arith, sub_is b (suc a))
sum_is (negsuc a) (negsuc b) = omega arith

pub neg_up : (a : ℤ) → up (neg_ℤ a) ≡ dn a
neg_up (pos zero) = refl
neg_up (pos (suc n)) = refl
neg_up (negsuc n) = refl

pub neg_dn : (a : ℤ) → dn (neg_ℤ a) ≡ up a
neg_dn (pos zero) = refl
neg_dn (pos (suc n)) = refl
neg_dn (negsuc n) = refl

pub less_is : (a b : ℤ) → up (a -ℤ b) + (dn a + up b) ≡ dn (a -ℤ b) + (up a + dn b)
less_is a b = omega (arith, sum_is a (neg_ℤ b), neg_up b, neg_dn b)

-- the order
pub is_le : (a b : ℤ) → up a + dn b ≤ up b + dn a → a ≤ℤ b
is_le (pos a) (pos b) h = record { le = le→leb a b (omega arith) }
is_le (pos a) (negsuc b) h = let z : ⊥ = omega arith in absurd z
is_le (negsuc a) (pos b) h = record { le = tt }
is_le (negsuc a) (negsuc b) h = record { le = le→leb b a (omega arith) }

pub le_is : (a b : ℤ) → a ≤ℤ b → up a + dn b ≤ up b + dn a
le_is (pos a) (pos b) h = omega (arith, leb→le a b h.le)
le_is (pos a) (negsuc b) h = absurd h.le
le_is (negsuc a) (pos b) h = omega arith
le_is (negsuc a) (negsuc b) h = omega (arith, leb→le b a h.le)

-- the difference of two naturals, by the test that decides its sign
pub less_pos : (a b : ℕ) → pos a -ℤ pos b ≡ sub_ℕ a b
less_pos a b = same (pos a -ℤ pos b) (sub_ℕ a b) (omega (arith, less_is (pos a) (pos b), sub_is a b))
