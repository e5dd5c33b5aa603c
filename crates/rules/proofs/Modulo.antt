-- What the machine's wrapping difference is, at any width: the difference of the two numbers, mod m.
-- Assumes nothing.
use Prim.Native.Nat.{ℕ, suc, ◌+◌, ◌-◌, ◌%◌, ◌≤◌, ◌<◌}
use mathlib.Core.Path.{◌≡◌, sym, ap, ◌∙◌}
use mathlib.Core.Bool.{Bool, true, false, not}
use mathlib.Core.Logic.{◌⊎◌, inl, inr, ⊎_elim}
use native.Mathlib.Nat.{mod-eq_of_lt, add-mod_left}
use native.Mathlib.Omega.{arith}
use lib.Dec.{T, ltb, ltb→lt, nltb→le}
use lib.IntN.{ℤ, pos, negsuc, ◌-ℤ◌}
use Rattle.rules.specs.Modulo.{modulo}
use Rattle.rules.proofs.Integers.{cond_both, less_pos}

by_test : {A B : Type 0} (t : Bool) → (T t → A) → (T (not t) → B) → A ⊎ B
by_test true f g = inl (f tt)
by_test false f g = inr (g tt)

mod_once : (n m : ℕ) → m ≤ n → n - m < m → n % m ≡ n - m
mod_once n m h k =
    let e : n ≡ m + (n - m) = omega arith in
    ap (λ (x : ℕ). x % m) e ∙ add-mod_left m (n - m) ∙ mod-eq_of_lt k

module _ (a b r m : ℕ) (ra : r < m) (am : a < m) (bm : b < m) (wraps : (r + b) % m ≡ a) where
  -- r + b wraps at most once
  once : ((r + b ≡ a) ⊎ (r + b ≡ m + a))
  once =
      by_test (ltb (r + b) m) (λ t. sym (mod-eq_of_lt (ltb→lt (r + b) m t)) ∙ wraps) (λ t. over (nltb→le (r + b) m t))
    where
      over : m ≤ r + b → r + b ≡ m + a
      over h = let k : r + b - m < m = omega arith in omega (arith, mod_once (r + b) m h k, wraps)

  below : a < b → r ≡ modulo (negsuc (b - suc a)) m
  unfolding modulo
  below h =
      let k : b - suc a < m = omega arith in
      let e : (b - suc a) % m ≡ b - suc a = mod-eq_of_lt k in
      ⊎_elim (λ p. omega arith) (λ p. omega arith) once

  above : b ≤ a → r ≡ modulo (pos (a - b)) m
  unfolding modulo
  above h =
      let k : a - b < m = omega arith in
      let e : (a - b) % m ≡ a - b = mod-eq_of_lt k in
      ⊎_elim (λ p. omega arith) (λ p. omega arith) once

  pub wrapping_sub : r ≡ modulo (pos a -ℤ pos b) m
  wrapping_sub =
      cond_both (ltb a b) (negsuc (b - suc a)) (pos (a - b)) (λ z. r ≡ modulo z m) (λ t. below (ltb→lt a b t))
      (λ t. above (nltb→le a b t))
      ∙ ap (λ (z : ℤ). modulo z m) (sym (less_pos a b))
