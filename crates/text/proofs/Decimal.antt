-- A number in decimal in at most so many digits: none, its one digit, or those of a tenth of it and the last.
-- Assumes nothing.
use Rattle.std.proofs.Common.{ℕ, zero, suc, ◌-◌, ◌/◌, ◌%◌, ◌<◌, ◌≤◌, ◌≡◌, refl, ap, [], ◌∷◌, ◌++◌, arith}
use borrow.Author.Tests.{lt-ltb, le-ltb}
use Rattle.text.specs.Text.{digit, decimal_in}

pub no_digit : (most n : ℕ) → most ≡ 0 → decimal_in most n ≡ []
unfolding decimal_in
no_digit zero n e = refl
no_digit (suc most) n e = absurd (omega arith)

pub one_digit : (most n : ℕ) → (most ≡ 0 → ⊥) → n < 10 → decimal_in most n ≡ digit n ∷ []
unfolding decimal_in
one_digit zero n e h = absurd (e refl)
one_digit (suc most) n e h = rw (lt-ltb n 10 h)

pub more_digits : (most n : ℕ) → (most ≡ 0 → ⊥) → 10 ≤ n → decimal_in most n ≡ decimal_in (most - 1) (n / 10) ++ (digit (n % 10) ∷ [])
unfolding decimal_in
more_digits zero n e h = absurd (e refl)
more_digits (suc most) n e h =
    let same : most ≡ suc most - 1 = omega arith in
    rw (le-ltb n 10 h) (ap (λ (k : ℕ). decimal_in k (n / 10) ++ (digit (n % 10) ∷ [])) same)
