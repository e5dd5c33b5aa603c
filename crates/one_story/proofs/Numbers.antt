-- The distance of the numbers at two places of a sequence that is numbered by ones from 0 with wrap.
-- Assumes nothing.
use Prim.Native.Nat.{ℕ, ◌+◌, ◌-◌, ◌%◌, ◌≤◌, ◌<◌}
use mathlib.Core.Path.{◌≡◌, ap, ◌∙◌}
use native.Mathlib.Omega.{arith}
use lib.Dec.{ltb, ltb→lt, nltb→le}
use lib.IntN.{ℤ}
use Rattle.rules.specs.Modulo.{modulo}
use Rattle.rules.proofs.Integers.{cond_both, less_pos}
use Rattle.number.specs.Number.{numbers, distance_of}

-- a place that is not behind
pub distance_ahead : (place last : ℕ) → last ≤ place → place < last + numbers → distance_of (place % numbers) (last % numbers) ≡ place - last
unfolding distance_of modulo
distance_ahead place last h l =
    ap (λ (z : ℤ). modulo z numbers) (less_pos (place % numbers) (last % numbers))
    ∙ cond_both (ltb (place % numbers) (last % numbers)) _ _ (λ z. modulo z numbers ≡ place - last)
    (λ t. omega (arith, ltb→lt (place % numbers) (last % numbers) t)) (λ t. omega (arith, nltb→le (place % numbers) (last % numbers) t))

-- and one that is
pub distance_behind : (place last : ℕ) → place < last → last < place + numbers → distance_of (place % numbers) (last % numbers) ≡ place + numbers - last
unfolding distance_of modulo
distance_behind place last h l =
    ap (λ (z : ℤ). modulo z numbers) (less_pos (place % numbers) (last % numbers))
    ∙ cond_both (ltb (place % numbers) (last % numbers)) _ _ (λ z. modulo z numbers ≡ place + numbers - last)
    (λ t. omega (arith, ltb→lt (place % numbers) (last % numbers) t)) (λ t. omega (arith, nltb→le (place % numbers) (last % numbers) t))
