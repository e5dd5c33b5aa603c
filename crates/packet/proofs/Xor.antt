-- Exclusive or: its halves, its lowest bit, and that it is associative.
-- Assumes nothing.
use mathlib.Core.Path.{◌≡◌, refl, sym, ap, ◌∙◌}
use Prim.Native.Nat.{ℕ, ◌+◌, ◌/◌, ◌%◌}
use native.Mathlib.Nat.{add_assoc}
use native.Mathlib.Omega.{arith}
use lib.Arith.{bin_ind}
use lib.Bits.{bit_xor, xor_add_and, xor_shr, xor_comm}

-- the lowest bit is that of the sum
pub xor_odd : (a b : ℕ) → bit_xor a b % 2 ≡ (a + b) % 2
xor_odd a b = omega (arith, xor_add_and a b)

pub xor_half : (a b : ℕ) → bit_xor a b / 2 ≡ bit_xor (a / 2) (b / 2)
xor_half a b = xor_shr a b 1

-- two numbers are equal where their halves and their lowest bits are
by_digits : (a b : ℕ) → a / 2 ≡ b / 2 → a % 2 ≡ b % 2 → a ≡ b
by_digits a b p q = omega arith

odd_left : (a b c : ℕ) → a % 2 ≡ b % 2 → (a + c) % 2 ≡ (b + c) % 2
odd_left a b c e = omega arith

odd_right : (a b c : ℕ) → a % 2 ≡ b % 2 → (c + a) % 2 ≡ (c + b) % 2
odd_right a b c e = omega arith

odd_assoc : (a b c : ℕ) → bit_xor (bit_xor a b) c % 2 ≡ bit_xor a (bit_xor b c) % 2
odd_assoc a b c =
    xor_odd (bit_xor a b) c ∙ odd_left (bit_xor a b) (a + b) c (xor_odd a b) ∙ ap (λ (x : ℕ). x % 2) (add_assoc a b c)
    ∙ sym (xor_odd a (bit_xor b c) ∙ odd_right (bit_xor b c) (b + c) a (xor_odd b c))

pub xor_assoc : (a b c : ℕ) → bit_xor (bit_xor a b) c ≡ bit_xor a (bit_xor b c)
xor_assoc =
    bin_ind (λ (n : ℕ). (b c : ℕ) → bit_xor (bit_xor n b) c ≡ bit_xor n (bit_xor b c)) (λ b c. refl)
    (λ n ih b c. by_digits (bit_xor (bit_xor n b) c) (bit_xor n (bit_xor b c))
    (xor_half (bit_xor n b) c ∙ ap (λ (x : ℕ). bit_xor x (c / 2)) (xor_half n b) ∙ ih (b / 2) (c / 2)
    ∙ sym (xor_half n (bit_xor b c) ∙ ap (bit_xor (n / 2)) (xor_half b c)))
    (odd_assoc n b c))

-- the two last operands change places
pub xor_swap : (a b c : ℕ) → bit_xor (bit_xor a b) c ≡ bit_xor (bit_xor a c) b
xor_swap a b c = xor_assoc a b c ∙ ap (bit_xor a) (xor_comm b c) ∙ sym (xor_assoc a c b)

-- the two in the middle of four change places
pub xor_four : (a b c d : ℕ) → bit_xor (bit_xor a b) (bit_xor c d) ≡ bit_xor (bit_xor a c) (bit_xor b d)
xor_four a b c d =
    sym (xor_assoc (bit_xor a b) c d) ∙ ap (λ (x : ℕ). bit_xor x d) (xor_swap a b c) ∙ xor_assoc (bit_xor a c) b d
