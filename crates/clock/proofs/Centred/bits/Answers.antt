-- `clock::Centred::bits` meets its contract: two's complement. Assumes nothing.
use Rattle.std.proofs.Common.{◌∙◌, ap, of_z, w32, to_z-of_z}
use Rattle.clock.specs.Clock.{wrapped}
use Rattle.clock.proofs.Wrapped.{wrapped_in}
use Rattle.clock.proofs.Centred.bits.Goals as goal

pub returns : goal.returns
returns g c =
    let n = c.number.result in
    c.cast_unsigned.ensures
    ∙ ap (of_z w32) (to_z-of_z {w = w32} {z = n} (record { sfits = c.number.type_inv }))
    ∙ wrapped_in n c.number.type_inv
    ∙ ap wrapped c.number.ensures
