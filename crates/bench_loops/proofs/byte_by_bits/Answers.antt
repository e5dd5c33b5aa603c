-- `bench_loops::byte_by_bits` meets its contract: the bits that are left, put into the register as it is, give the answer.
-- Assumes nothing.
use Rattle.std.proofs.Common.{ℕ, ◌+◌, ◌-◌, ◌/◌, sym, ap, ◌∙◌, arith}
use Rattle.packet.specs.Check.{bits_in}
use Rattle.bench_loops.proofs.Bits.{bit_more, bit_end}
use Rattle.bench_loops.proofs.byte_by_bits.Goals as goal

pub loop-preserved : goal.loop-preserved
loop-preserved c =
    let l = c.loop in
    ap (λ (x : ℕ). bits_in (8 - (l.counter + 1)) x (l.left / 2)) c.bit_in-q.ensures
    ∙ sym (bit_more 8 l.counter l.q l.left (omega arith))
    ∙ l.invariant

pub returns : goal.returns
returns c = let l = c.loop in sym (bit_end 8 l.counter l.q l.left (omega arith)) ∙ l.invariant
