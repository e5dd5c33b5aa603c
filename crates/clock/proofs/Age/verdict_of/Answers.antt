-- `clock::Age::verdict_of` meets its contract. Assumes nothing.
use Rattle.std.proofs.Common.{◌∙◌, sym, arith}
use Rattle.clock.proofs.Wrapped.{below_zero, from_zero}
use Rattle.clock.proofs.Cases.{verdict_future, verdict_late, verdict_fresh}
use Rattle.clock.proofs.Age.verdict_of.Goals as goal

pub returns-then-negative : goal.returns-then-negative
returns-then-negative c = sym (verdict_future _ _ (below_zero _ (sym c.negative.ensures ∙ c.if-negative.true)))

pub returns-then-t_max-size : goal.returns-then-t_max-size
returns-then-t_max-size c =
    sym (verdict_late _ _ (from_zero _ (sym c.negative.ensures ∙ c.if-negative.false)) (omega (arith, c.size.ensures, c.if-t_max-size.true)))

pub returns-else-t_max-size : goal.returns-else-t_max-size
returns-else-t_max-size c =
    sym (verdict_fresh _ _ (from_zero _ (sym c.negative.ensures ∙ c.if-negative.false)) (omega (arith, c.size.ensures, c.if-t_max-size.false)))
