-- When open, what an answer says of the verdict on the age that is reported with it: 0 and 204 fresh, 205 late, 206 future.
-- Assumes nothing.
use Prim.Native.Nat.{ℕ}
use mathlib.Core.Path.{◌≡◌, refl, sym, ap, subst, ◌∙◌}
use mathlib.Core.Bool.{Bool, true, false, ◌&&◌, ◌||◌}
use borrow.Author.Tests.{eqb-true}
use lib.Dec.{T, eqb}
use lib.IntN.{ℤ}
use Rattle.clock.specs.Clock.{verdict_of}
use Rattle.clock.specs.declared.Verdict.TheVariants.{Future, Late, Fresh}
use Rattle.connection.specs.declared.Connection.{Connection}
use Rattle.connection.specs.Connection.{opened}
use Rattle.peer_faults.specs.Faults.{reports_age}
use Rattle.promises.specs.Promises.{delivers_to, tells_age, GoesByAge}
use Rattle.promises.proofs.Opening.{and_both}

-- ---- an age is reported with them

pub delivers_tells : (c : Connection) (k : ℕ) → delivers_to c k ≡ true → tells_age c k ≡ true
unfolding delivers_to tells_age reports_age
delivers_tells c k e = go (eqb c.phase opened) (eqb k 0) (eqb k 204) (eqb k 205) (eqb k 206) e
  where
    go : (o a b l f : Bool) → o && (a || b) ≡ true → o && (a || b || l || f) ≡ true
    go true true b l f e = refl
    go true false true l f e = refl
    go true false false l f e = absurd (subst T (sym e) tt)
    go false a b l f e = e

pub late_tells : (c : Connection) → c.phase ≡ opened → (k : ℕ) → k ≡ 205 → tells_age c k ≡ true
unfolding tells_age reports_age
late_tells c o k e = rw (e, o) refl

pub future_tells : (c : Connection) → c.phase ≡ opened → (k : ℕ) → k ≡ 206 → tells_age c k ≡ true
unfolding tells_age reports_age
future_tells c o k e = rw (e, o) refl

-- ---- and it has their verdict

-- a 0 or a 204 is neither of the other two
not_these : (k : ℕ) → eqb k 0 || eqb k 204 ≡ true → (eqb k 206 ≡ false) × (eqb k 205 ≡ false)
not_these k = go (eqb k 0) (eqb k 204) refl refl
  where
    go : (a b : Bool) → eqb k 0 ≡ a → eqb k 204 ≡ b → a || b ≡ true → (eqb k 206 ≡ false) × (eqb k 205 ≡ false)
    go true b p q e = (rw (eqb-true k 0 p) refl, rw (eqb-true k 0 p) refl)
    go false true p q e = (rw (eqb-true k 204 q) refl, rw (eqb-true k 204 q) refl)
    go false false p q e = absurd (subst T (sym e) tt)

module _ (t_max_lem : ℕ) (age : ℤ) (k : ℕ) (goes : GoesByAge t_max_lem age k) where
  pub fresh_verdict : (c : Connection) → delivers_to c k ≡ true → verdict_of age t_max_lem ≡ Fresh
  unfolding verdict_of delivers_to
  fresh_verdict c e = rw (sym goes.future ∙ (not_these k delivered).0, sym goes.late ∙ (not_these k delivered).1) refl
    where
      delivered : eqb k 0 || eqb k 204 ≡ true
      delivered = (and_both (eqb c.phase opened) (eqb k 0 || eqb k 204) e).1

  pub late_verdict : k ≡ 205 → verdict_of age t_max_lem ≡ Late
  unfolding verdict_of
  late_verdict e = rw (sym goes.future ∙ ap (λ (n : ℕ). eqb n 206) e, sym goes.late ∙ ap (λ (n : ℕ). eqb n 205) e) refl

  pub future_verdict : k ≡ 206 → verdict_of age t_max_lem ≡ Future
  unfolding verdict_of
  future_verdict e = rw (sym goes.future ∙ ap (λ (n : ℕ). eqb n 206) e) refl
