-- `clock::Offset::minus` meets its contract: wrapped is centred. Assumes nothing.
use Rattle.std.proofs.Common.{◌∙◌, ◌-ℤ◌, w32, SFits, rules}
use Rattle.std.proofs.lemmas.Int.{wrapping_sub_is}
use Rattle.clock.proofs.Wrapped.{centred_wraps}
use Rattle.clock.proofs.Offset.minus.Goals as goal

pub returns : goal.returns
returns c =
    let a = c.args in
    let f : SFits w32 a.self.0 = search rules in
    let g : SFits w32 a.other.0 = search rules in
    wrapping_sub_is w32 a.self.0 a.other.0 f g ∙ centred_wraps (a.self.0 -ℤ a.other.0)
