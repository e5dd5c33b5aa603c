-- `field::read` meets its contract: after i bytes r is their number, below 256 ^ i. Assumes nothing.
use Rattle.std.proofs.Common.{◌≡◌, ℕ, ◌+◌, ◌^◌, ◌<◌, ◌≤◌, length, rules}
use Rattle.field.specs.Field.{field_of}
use Rattle.field.proofs.read.Given as goal

abbrev pub invariant-loop-byte : goal.invariant-loop-byte
invariant-loop-byte l = (l.r ≡ field_of l.s l.at l.byte-index) × (l.r < 256 ^ l.byte-index)
