-- The register of the check, as a loop that counts up to m has it: one more bit, and none left.
-- Assumes nothing.
use Rattle.std.proofs.Common.{◌≡◌, ℕ, ◌+◌, ◌-◌, ◌/◌, ◌%◌, ◌<◌, ◌≤◌, ap}
use Rattle.packet.specs.Check.{bit_in, bits_in}
use Rattle.packet.proofs.Register.{one_less, none_left}

pub bit_more : (m k r b : ℕ) → k < m → bits_in (m - k) r b ≡ bits_in (m - (k + 1)) (bit_in r (b % 2)) (b / 2)
unfolding bits_in
bit_more m k r b h = ap (λ (n : ℕ). bits_in n r b) (one_less m k h)

pub bit_end : (m k r b : ℕ) → m ≤ k → bits_in (m - k) r b ≡ r
unfolding bits_in
bit_end m k r b h = ap (λ (n : ℕ). bits_in n r b) (none_left m k h)
