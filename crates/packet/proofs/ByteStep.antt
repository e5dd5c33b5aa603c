-- PKT-CHECK: eight bit steps of the register are one byte step, for every register and byte. Both pass through exclusive or, so that they are
-- alike where they are alike at the powers of two, sixteen for the register and eight for the byte, which antt computes.
-- Assumes nothing.
use mathlib.Core.Path.{◌≡◌, refl, sym, ap, ap₂, ◌∙◌}
use Prim.Native.Nat.{ℕ, zero, suc, ◌+◌, ◌*◌, ◌/◌, ◌%◌, ◌^◌, ◌<◌}
use native.Mathlib.Omega.{arith}
use lib.Bits.{bit_xor, xor_zero_l, xor_mod, xor_shr}
use Rattle.packet.specs.Check.{polynomial, bit_in, bits_in, byte_in}
use Rattle.packet.proofs.Xor.{xor_odd, xor_half, xor_four}
use Rattle.packet.proofs.Linear.{Linear, linear_same, linear_xor, linear_after, linear_right, linear_left, linear_lowest, agree}

-- ---- the byte step, in the words of the code, each with its law
-- how far above the byte's bits x^0 and x^5 come to stand, and how far below them x^12; how many bits later x^12 asks for the polynomial once more
abbrev x0 : ℕ
x0 = 8

abbrev x5 : ℕ
x5 = 3

abbrev x12 : ℕ
x12 = 4

abbrev again : ℕ
again = 4

-- a register and a byte as one number, the byte above
abbrev register_of : ℕ → ℕ
register_of w = w % 2 ^ 16

abbrev byte_of : ℕ → ℕ
byte_of w = w / 2 ^ 16

-- at which of the eight bits the register's lowest byte and the byte ask for the polynomial
abbrev asked : ℕ → ℕ → ℕ
asked register byte = bit_xor (register % 2 ^ 8) byte

linear_asked : Linear (λ w. asked (register_of w) (byte_of w))
linear_asked =
    linear_xor (λ w. register_of w % 2 ^ 8) byte_of (linear_after (λ x. x % 2 ^ 8) register_of (linear_lowest 8) (linear_lowest 16)) (linear_right 16)

-- at which of them it is taken away
abbrev taken : ℕ → ℕ
taken a = bit_xor a ((a * 2 ^ again) % 2 ^ 8)

linear_taken : Linear taken
linear_taken = linear_xor (λ x. x) (λ x. (x * 2 ^ again) % 2 ^ 8) linear_same (linear_left 8 again)

-- what is left of the register
abbrev pub left : ℕ → ℕ
left register = register / 2 ^ 8

linear_rest : Linear left
linear_rest = linear_right 8

-- and with it the polynomial's three terms where they came down to
abbrev pub come_down : ℕ → ℕ → ℕ
come_down l t = bit_xor (bit_xor (bit_xor l ((t * 2 ^ x0) % 2 ^ 16)) ((t * 2 ^ x5) % 2 ^ 16)) (t / 2 ^ x12)

linear_down : (f g : ℕ → ℕ) → Linear f → Linear g → Linear (λ w. come_down (f w) (g w))
linear_down f g p q =
    linear_xor (λ w. bit_xor (bit_xor (f w) (up x0 w)) (up x5 w)) (λ w. g w / 2 ^ x12)
    (linear_xor (λ w. bit_xor (f w) (up x0 w)) (up x5) (linear_xor f (up x0) p (linear_up x0)) (linear_up x5))
    (linear_after (λ x. x / 2 ^ x12) g (linear_right x12) q)
  where
    up : ℕ → ℕ → ℕ
    up k w = (g w * 2 ^ k) % 2 ^ 16

    linear_up : (k : ℕ) → Linear (up k)
    linear_up k = linear_after (λ x. (x * 2 ^ k) % 2 ^ 16) g (linear_left 16 k) q

abbrev pub byte_step : ℕ → ℕ → ℕ
byte_step register byte = come_down (left register) (taken (asked register byte))

linear_step : Linear (λ w. byte_step (register_of w) (byte_of w))
linear_step =
    linear_down (λ w. left (register_of w)) (λ w. taken (asked (register_of w) (byte_of w)))
    (linear_after left register_of linear_rest (linear_lowest 16))
    (linear_after taken (λ w. asked (register_of w) (byte_of w)) linear_taken linear_asked)

-- ---- the bit steps
parities : (p q : ℕ) → p < 2 → q < 2 → ((p + q) % 2) * polynomial ≡ bit_xor (p * polynomial) (q * polynomial)
parities zero q h k = ap (λ (x : ℕ). x * polynomial) (omega arith) ∙ sym (xor_zero_l (q * polynomial))
parities (suc zero) zero h k = refl
parities (suc zero) (suc zero) h k = refl
parities (suc zero) (suc (suc q)) h k = absurd (omega arith)
parities (suc (suc p)) q h k = absurd (omega arith)

bit_through : (r s b c : ℕ) → bit_in (bit_xor r s) (bit_xor b c % 2) ≡ bit_xor (bit_in r (b % 2)) (bit_in s (c % 2))
unfolding bit_in
bit_through r s b c =
    ap₂ bit_xor (xor_half r s)
    (ap (λ (x : ℕ). x * polynomial) (two (bit_xor r s) (bit_xor b c) (r + s) (b + c) (xor_odd r s) (xor_odd b c) ∙ four r b s c ∙ pair (r + b % 2) (s + c % 2))
    ∙ parities ((r + b % 2) % 2) ((s + c % 2) % 2) (omega arith) (omega arith))
    ∙ xor_four (r / 2) (s / 2) (((r + b % 2) % 2) * polynomial) (((s + c % 2) % 2) * polynomial)
  where
    two : (x y u v : ℕ) → x % 2 ≡ u % 2 → y % 2 ≡ v % 2 → (x + y % 2) % 2 ≡ (u + v) % 2
    two x y u v d e = omega arith

    pair : (p q : ℕ) → (p + q) % 2 ≡ (p % 2 + q % 2) % 2
    pair p q = omega arith

    four : (r b s c : ℕ) → (r + s + (b + c)) % 2 ≡ (r + b % 2 + (s + c % 2)) % 2
    four r b s c = omega arith

bits_through : (n r s b c : ℕ) → bits_in n (bit_xor r s) (bit_xor b c) ≡ bit_xor (bits_in n r b) (bits_in n s c)
unfolding bits_in
bits_through zero r s b c = refl
bits_through (suc n) r s b c =
    ap₂ (bits_in n) (bit_through r s b c) (xor_half b c)
    ∙ bits_through n (bit_in r (b % 2)) (bit_in s (c % 2)) (b / 2) (c / 2)

linear_bits : Linear (λ w. byte_in (register_of w) (byte_of w))
linear_bits v w =
    ap₂ byte_in (xor_mod v w 16) (xor_shr v w 16)
    ∙ bits_through 8 (register_of v) (register_of w) (byte_of v) (byte_of w)

-- ---- PKT-CHECK: the law
pub eight_bits_are_one_byte : (register byte : ℕ) → register < 2 ^ 16 → byte < 2 ^ 8 → byte_step register byte ≡ byte_in register byte
unfolding bit_in bits_in
eight_bits_are_one_byte r b h k =
    sym (ap₂ byte_step low high)
    ∙ agree (λ w. byte_step (register_of w) (byte_of w)) (λ w. byte_in (register_of w) (byte_of w)) linear_step linear_bits 24 refl
    (b * 2 ^ 16 + r) (omega arith)
    ∙ ap₂ byte_in low high
  where
    low : register_of (b * 2 ^ 16 + r) ≡ r
    low = omega arith

    high : byte_of (b * 2 ^ 16 + r) ≡ b
    high = omega arith
