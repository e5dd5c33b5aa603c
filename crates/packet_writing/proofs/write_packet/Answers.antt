-- `packet_writing::write_packet` meets its contract: the fields, their check and the user data are stored one after the other.
-- Assumes nothing.
use mathlib.Core.Path.{ap, ◌∙◌}
use Prim.Native.Nat.{ℕ, ◌+◌}
use native.Mathlib.Omega.{arith}
use lib.ListN.{length}
use lib.Seq.{sets}
use Rattle.packet.specs.Sizes.{least_length}
use Rattle.packet.specs.Packet.{flag_of}
use Rattle.packet_writing.proofs.Bytes.{stored, put_as}
use Rattle.packet_writing.specs.Writing.{checked_row}
use Rattle.packet_writing.proofs.write_packet.Goals as goal

pub returns : goal.returns
returns c =
    let a = c.args in
    let counted = least_length + length a.«data».now in
    stored counted a.given.version a.given.application a.given.number (flag_of a.normal) a.given.kind
    a.out.now c.write_checked.new.out c.write.new.out c.copy.new.out
    c.check_at-right.result a.«data».now (omega arith)
    (c.write_checked.ensures
    ∙ ap (λ (f : ℕ). sets a.out.now 0 (checked_row counted a.given.version a.given.application a.given.number f a.given.kind)) c.flag_of.ensures)
    c.check_at-right.ensures (put_as _ _ 8 2 _ _ c.write.ensures c.from.ensures) c.copy.ensures
