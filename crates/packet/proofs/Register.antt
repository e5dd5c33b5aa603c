-- The register of the check: the bytes that go in are a fold over them, and it keeps to its 16 bits. And what a loop that counts up to m has left.
-- Assumes nothing.
use mathlib.Core.Path.{◌≡◌, refl}
use Prim.Native.Nat.{ℕ, zero, suc, ◌+◌, ◌-◌, ◌*◌, ◌/◌, ◌%◌, ◌^◌, ◌≤◌, ◌<◌}
use native.Mathlib.Omega.{arith}
use mathlib.Core.List.{List, [], ◌∷◌}
use lib.Bits.{xor_lt}
use lib.Dec.{lit<}
use Rattle.std.specs.List.{fold}
use Rattle.packet.specs.Check.{polynomial, bit_in, bits_in, byte_in, bytes_in, all_ones, check_of}

pub one_less : (m k : ℕ) → k < m → m - k ≡ suc (m - (k + 1))
one_less m k h = omega arith

pub none_left : (m k : ℕ) → m ≤ k → m - k ≡ 0
none_left m k h = omega arith

-- the bytes go in one after the other: a fold over them
pub folds_in : (r : ℕ) (bytes : List ℕ) → bytes_in r bytes ≡ fold byte_in r bytes
unfolding bytes_in
folds_in r [] = refl
folds_in r (byte ∷ bytes) = folds_in (byte_in r byte) bytes

-- the register keeps to its 16 bits
bit_fits : (r b : ℕ) → r < 2 ^ 16 → bit_in r b < 2 ^ 16
unfolding bit_in
bit_fits r b h = xor_lt 16 (r / 2) (((r + b) % 2) * polynomial) (omega arith) (omega arith)

bits_fit : (n r b : ℕ) → r < 2 ^ 16 → bits_in n r b < 2 ^ 16
unfolding bits_in
bits_fit zero r b h = h
bits_fit (suc n) r b h = bits_fit n (bit_in r (b % 2)) (b / 2) (bit_fits r (b % 2) h)

bytes_fit : (r : ℕ) (bs : List ℕ) → r < 2 ^ 16 → bytes_in r bs < 2 ^ 16
unfolding bytes_in
bytes_fit r [] h = h
bytes_fit r (b ∷ bs) h = bytes_fit (bits_in 8 r b) bs (bits_fit 8 r b h)

pub check_fits : (bs : List ℕ) → check_of bs < 2 ^ 16
check_fits bs = bytes_fit all_ones bs (lit< tt)
