-- The digest of the checks, as a loop that counts up to m has it: one more header, and none left.
-- Assumes nothing.
use Rattle.std.proofs.Common.{◌≡◌, ℕ, ◌+◌, ◌-◌, ◌<◌, ◌≤◌, List, ap}
use Rattle.packet.specs.Sizes.{packet_header_size}
use Rattle.packet.specs.Packet.{check_at}
use Rattle.packet.proofs.Register.{one_less, none_left}
use Rattle.bench_loops.specs.Digest.{checks_from, fold_of, digest_from}

pub header_more : (m k : ℕ) (s : List ℕ) (at digest : ℕ) → k < m
    → digest_from digest (checks_from (m - k) s at)
    ≡ digest_from (fold_of digest (check_at s at)) (checks_from (m - (k + 1)) s (at + packet_header_size))
unfolding checks_from digest_from
header_more m k s at digest h = ap (λ (n : ℕ). digest_from digest (checks_from n s at)) (one_less m k h)

pub header_end : (m k : ℕ) (s : List ℕ) (at digest : ℕ) → m ≤ k → digest_from digest (checks_from (m - k) s at) ≡ digest
unfolding checks_from digest_from
header_end m k s at digest h = ap (λ (n : ℕ). digest_from digest (checks_from n s at)) (none_left m k h)
