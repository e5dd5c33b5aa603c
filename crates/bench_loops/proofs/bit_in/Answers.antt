-- `bench_loops::bit_in` meets its contract: where the two bits are the same nothing is taken away, and where they differ the polynomial is.
-- Assumes nothing.
use Rattle.std.proofs.Common.{◌≡◌, ℕ, ◌+◌, ◌*◌, ◌/◌, ◌%◌, sym, ap, ◌∙◌, arith}
use lib.Bits.{bit_xor, xor_zero_r}
use Rattle.packet.specs.Check.{polynomial, bit_in}
use Rattle.bench_loops.proofs.bit_in.Goals as goal

same : (r d : ℕ) → r % 2 ≡ d % 2 → r / 2 ≡ bit_in r d
unfolding bit_in
same r d e = sym (ap (λ (x : ℕ). bit_xor (r / 2) (x * polynomial)) (even r d e) ∙ xor_zero_r (r / 2))
  where
    even : (a b : ℕ) → a % 2 ≡ b % 2 → (a + b) % 2 ≡ 0
    even a b e = omega arith

other : (r d : ℕ) → (r % 2 ≡ d % 2 → ⊥) → bit_xor (r / 2) 0x8408 ≡ bit_in r d
unfolding bit_in
other r d n = sym (ap (λ (x : ℕ). bit_xor (r / 2) (x * polynomial)) (odd r d n))
  where
    odd : (a b : ℕ) → (a % 2 ≡ b % 2 → ⊥) → (a + b) % 2 ≡ 1
    odd a b n = omega arith

pub returns-then-register-from : goal.returns-then-register-from
returns-then-register-from c = same c.args.register c.args.bit (c.if-register-from.true ∙ c.from.ensures)

pub returns-else-register-from : goal.returns-else-register-from
returns-else-register-from c = other c.args.register c.args.bit (λ e. c.if-register-from.false (e ∙ sym c.from.ensures))
