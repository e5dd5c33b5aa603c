-- `clock::Offset::sign_magnitude` meets its contract: of a negative offset, by what its negation is. Assumes nothing.
use Rattle.std.proofs.Common.{ℤ, sym, ap, ◌∙◌, w32, SFits, rules}
use mir.Val.{bool_byte}
use Rattle.clock.proofs.Wrapped.{below_zero, from_zero, wrapped_negation, wrapped_from}
use Rattle.clock.proofs.Cases.{sign_as}
use Rattle.clock.proofs.Offset.sign_magnitude.Goals as goal

pub returns-then-negative : goal.returns-then-negative
returns-then-negative c =
    let z : ℤ = c.args.self.0 in
    let f : SFits w32 z = search rules in
    let below = below_zero z (sym c.negative-negative.ensures ∙ c.if-negative.true) in
    sign_as _ _ _ (c.from.ensures ∙ ap bool_byte c.negative-negative.ensures)
    (let size = wrapped_negation z f.sfits below in cc)

pub returns-else-negative : goal.returns-else-negative
returns-else-negative c =
    let z : ℤ = c.args.self.0 in
    let f : SFits w32 z = search rules in
    let from = from_zero z (sym c.negative-negative.ensures ∙ c.if-negative.false) in
    sign_as _ _ _ (c.from.ensures ∙ ap bool_byte c.negative-negative.ensures)
    (let size = wrapped_from z f.sfits from in cc)
