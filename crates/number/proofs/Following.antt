-- The number that follows one: it fits, and it is 1 on from it, over the wrap too.
-- Assumes nothing.
use Rattle.std.proofs.Common.{◌≡◌, ℕ, ◌+◌, ◌%◌, ◌^◌, ◌<◌, ltb, ℤ, ap, ◌∙◌, arith, ltb→lt, nltb→le}
use Rattle.rules.specs.Modulo.{modulo}
use Rattle.rules.proofs.Integers.{cond_both, less_pos}
use Rattle.number.specs.Number.{distance_of, next_of}

pub next_fits : (n : ℕ) → next_of n < 2 ^ 16
unfolding next_of modulo
next_fits n = omega arith

pub distance_next : (n : ℕ) → distance_of (next_of n) n ≡ 1
unfolding distance_of next_of modulo
distance_next n =
    ap (λ (z : ℤ). modulo z 65536) (less_pos ((n + 1) % 65536) n)
    ∙ cond_both (ltb ((n + 1) % 65536) n) _ _ (λ z. modulo z 65536 ≡ 1) (λ t. omega (arith, ltb→lt ((n + 1) % 65536) n t)) (λ t. omega (arith, nltb→le ((n + 1) % 65536) n t))
