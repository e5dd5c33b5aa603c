-- `clock::Offset::negated` meets its contract: wrapped is centred. Assumes nothing.
use Rattle.std.proofs.Common.{ℤ, ◌∙◌, neg_ℤ, w32, SFits, to_z-of_z, ap, rules}
use Rattle.std.specs.Int.{int_wrapping_neg}
use Rattle.std.proofs.lemmas.Int.{wrapping_neg_is}
use Rattle.clock.proofs.Wrapped.{centred_wraps}
use Rattle.clock.proofs.Offset.negated.Goals as goal

pub returns : goal.returns
returns c =
    let z : ℤ = c.args.self.0 in
    let f : SFits w32 z = search rules in
    to_z-of_z {w = w32} (record { sfits = c.wrapping_neg.type_inv })
    ∙ c.wrapping_neg.ensures
    ∙ ap (int_wrapping_neg w32) (to_z-of_z f)
    ∙ wrapping_neg_is w32 z f
    ∙ centred_wraps (neg_ℤ z)
