-- What the loops that bench/ times give: no rule of the gateway, a number by which two ways to the same checks can be compared.
-- Assumes nothing.
use Rattle.std.specs.Prelude.{ℕ, zero, suc, ◌+◌, ◌*◌, ◌/◌, ◌%◌, ◌^◌, List, [], ◌∷◌, length}
use Rattle.packet.specs.Sizes.{packet_header_size}
use Rattle.packet.specs.Packet.{check_at}

-- PKT-CHECK: the checks of n headers that stand one behind another from a place on
unfoldable pub checks_from : ℕ → List ℕ → ℕ → List ℕ
checks_from zero s at = []
checks_from (suc n) s at = check_at s at ∷ checks_from n s (at + packet_header_size)

-- a check is folded into a number of 64 bits
abbrev pub fold_of : ℕ → ℕ → ℕ
fold_of digest check = (3 * digest + check) % 2 ^ 64

-- so are many, in their order
unfoldable pub digest_from : ℕ → List ℕ → ℕ
digest_from digest [] = digest
digest_from digest (check ∷ checks) = digest_from (fold_of digest check) checks

-- PKT-CHECK: the checks of as many headers as bytes hold, folded into one number
abbrev pub digest_of_checks : List ℕ → ℕ
digest_of_checks s = digest_from 0 (checks_from (length s / packet_header_size) s 0)
