-- `clock::Age::of` meets its contract: three steps mod 2^32, centred. Assumes nothing.
use Rattle.std.proofs.Common.{◌∙◌, arith}
use Rattle.clock.specs.Clock.{age_of}
use Rattle.clock.proofs.Wrapped.{centred_same, wrap_less, wrap_add, wrapped_of, ≈-refl}
use Rattle.clock.proofs.Age.of.Goals as goal

pub returns : goal.returns
unfolding age_of
returns c =
    c.of_bits.ensures
    ∙ centred_same
    (wrap_less (omega arith)
    (wrap_add
    (wrap_less (omega arith) (≈-refl _) (≈-refl _))
    (≈-refl _))
    (wrapped_of c.bits.ensures))
