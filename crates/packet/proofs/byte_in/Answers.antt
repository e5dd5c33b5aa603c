-- `packet::byte_in` meets its contract: it is the byte step.
-- Assumes nothing.
use mathlib.Core.Path.{ap, ◌∙◌}
use Rattle.packet.proofs.ByteStep.{left, come_down, eight_bits_are_one_byte}
use Rattle.packet.proofs.byte_in.Goals as goal

pub returns : goal.returns
returns c =
    let a = c.args in
    let f = c.ranges in
    ap (come_down (left a.register)) c.from-taken.ensures ∙ eight_bits_are_one_byte a.register a.byte f.register.fits f.byte.fits
