-- The distance of two 16-bit numbers, and the number that follows one.
use Rattle.std.specs.Prelude.{ℕ, ◌+◌, pos, ◌-ℤ◌}
use Rattle.rules.specs.Modulo.{modulo}

-- NUMBER-1: how many numbers there are, 0 to 65535
abbrev pub numbers : ℕ
numbers = 65536

-- LINK-D: how far a number is past the last one, of packets and of messages; SLIP-2: over the wrap
unfoldable pub distance_of : ℕ → ℕ → ℕ
distance_of number last = modulo (pos number -ℤ pos last) numbers

-- LINK-306, PEER-202: from this d on a number lies behind, half of all numbers away
abbrev pub behind_from : ℕ
behind_from = 32768

-- NUMBER-1: the number that follows, by ones, and 0 after the last
unfoldable pub next_of : ℕ → ℕ
next_of number = modulo (pos (number + 1)) numbers
