-- `clock::Offset::between` meets its contract: a step mod 2^32, centred. Assumes nothing.
use Rattle.std.proofs.Common.{◌∙◌, arith}
use Rattle.clock.proofs.Wrapped.{centred_same, wrap_less, ≈-refl}
use Rattle.clock.proofs.Offset.between.Goals as goal

pub returns : goal.returns
returns c = c.of_bits.ensures ∙ centred_same (wrap_less (omega arith) (≈-refl _) (≈-refl _))
