-- `clock::Centred::of_bits` meets its contract. Assumes nothing.
use Rattle.std.proofs.Common.{◌∙◌, sym, arith, w32, to_z-of_z}
use Rattle.clock.proofs.Wrapped.{centred_bits}
use Rattle.clock.proofs.Centred.of_bits.Goals as goal

pub returns : goal.returns
returns g c =
    c.of_number.ensures
    ∙ to_z-of_z {w = w32} (record { sfits = c.cast_signed.type_inv })
    ∙ c.cast_signed.ensures
    ∙ sym (centred_bits c.args.x (omega arith))
