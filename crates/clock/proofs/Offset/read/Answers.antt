-- `clock::Offset::read` meets its contract. Assumes nothing.
use Rattle.std.proofs.Common.{◌≤◌, ◌^◌, ℤ, neg_ℤ, ap, ◌∙◌, arith}
use Rattle.clock.specs.Clock.{centred}
use Rattle.clock.proofs.Wrapped.{centred_negation}
use Rattle.clock.proofs.Cases.{read_plus, read_minus, read_big, read_out, read_sign}
use Rattle.clock.proofs.Offset.read.Goals as goal

pub returns-in-0 : goal.returns-in-0
returns-in-0 c = read_plus _ _ (omega arith) (omega arith) _ c.of_bits.ensures

pub returns-in-1 : goal.returns-in-1
returns-in-1 c =
    let h : 1 ≤ c.args.magnitude = grind arith in
    let k : c.args.magnitude ≤ 2 ^ 31 = grind arith in
    read_minus _ _ (omega arith) h k _
    (c.negated.ensures ∙ ap (λ (z : ℤ). centred (neg_ℤ z)) c.of_bits-in-1.ensures ∙ centred_negation c.args.magnitude k)

pub returns-in_default : goal.returns-in_default
returns-in_default c = read_big _ _ (omega arith) (omega arith)

pub returns-in_default-2 : goal.returns-in_default-2
returns-in_default-2 c = read_out _ _ (omega arith) (grind arith)

pub returns-in_default-3 : goal.returns-in_default-3
returns-in_default-3 c = read_sign _ _ (λ e. grind arith) (λ e. grind arith)
