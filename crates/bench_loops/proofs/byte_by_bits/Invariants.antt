-- `bench_loops::byte_by_bits` meets its contract: the bits that are left, put into the register as it is, give the answer.
-- Assumes nothing.
use Rattle.std.proofs.Common.{◌≡◌, ◌-◌}
use Rattle.packet.specs.Check.{bits_in}
use Rattle.bench_loops.proofs.byte_by_bits.Given as goal

abbrev pub invariant-loop : goal.invariant-loop
invariant-loop l = bits_in (8 - l.counter) l.q l.left ≡ bits_in 8 l.register l.byte
