-- The check of a packet's header: PKT-CHECK. PKT-ANNEX: it is not the check of 004's annex.
-- Assumes nothing.
use Rattle.std.specs.Prelude.{ℕ, zero, suc, ◌+◌, ◌-◌, ◌*◌, ◌/◌, ◌%◌, ◌^◌, List, [], ◌∷◌}
use Rattle.std.specs.Int.Bits.{bit_xor}

-- PKT-CHECK: the register holds the terms x^15 .. x^0, with x^15 in bit 0 and x^0 in bit 15.
abbrev pub term : ℕ → ℕ
term power = 2 ^ (15 - power)

-- PKT-CHECK: x^16+x^12+x^5+1. Of its powers, x^16 is the term that leaves the register at each step; the other three are these.
abbrev pub polynomial : ℕ
polynomial = term 12 + term 5 + term 0

-- PKT-CHECK: one bit goes in: the register moves one place towards the highest term, and where the bit that leaves it and the bit
-- that goes in differ, the polynomial is taken away, which is exclusive or.
unfoldable pub bit_in : ℕ → ℕ → ℕ
bit_in register bit = bit_xor (register / 2) (((register + bit) % 2) * polynomial)

-- PKT-CHECK: the lowest n bits of a byte go in, the lowest of them first.
unfoldable pub bits_in : ℕ → ℕ → ℕ → ℕ
bits_in zero register byte = register
bits_in (suc n) register byte = bits_in n (bit_in register (byte % 2)) (byte / 2)

-- PKT-CHECK: all bits of a byte go in
abbrev pub byte_in : ℕ → ℕ → ℕ
byte_in register byte = bits_in 8 register byte

-- PKT-CHECK: the bytes go in, the first of them first. What the register holds at the end is the check: it is not inverted.
unfoldable pub bytes_in : ℕ → List ℕ → ℕ
bytes_in register [] = register
bytes_in register (byte ∷ bytes) = bytes_in (byte_in register byte) bytes

-- PKT-CHECK: what the register holds at first
abbrev pub all_ones : ℕ
all_ones = 2 ^ 16 - 1

-- PKT-CHECK: the check of bytes; PKT-ANNEX: by the clause, so not what the annex gives for its examples
abbrev pub check_of : List ℕ → ℕ
check_of bytes = bytes_in all_ones bytes
