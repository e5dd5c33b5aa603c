-- `packet_writing::write` meets its contract: a refusal leaves the out buffer as it is, and else `write_packet` writes the packet.
-- Assumes nothing.
use Rattle.std.proofs.Common.{◌≡◌, ◌∙◌, sym, ap, length}
use lib.Seq.{sets}
use Rattle.packet_writing.specs.Writing.{answer_of, write_answer}
use Rattle.packet_writing.proofs.Answers.{short_enough, room_enough, says_all, all_written, says_why, none_written}
use Rattle.packet_writing.proofs.write.Goals as goal

pub returns-in-Some : goal.returns-in-Some
returns-in-Some c =
    let a = c.args in
    let e = sym (ap answer_of c.in-Some.is) ∙ c.refusal_of.ensures in (
      says_why (length a.out.now) a.number a.kind a.«data».now c.in-Some.refusal e c.number.result c.number.ensures,
      sym (ap (sets a.out.now 0) (none_written (length a.out.now) a.number a.kind a.«data».now c.in-Some.refusal e a.normal a.version a.application)),
    )

pub write_packet-requires : goal.write_packet-requires
write_packet-requires c =
    let a = c.args in
    let z : write_answer (length a.out.now) a.number a.kind a.«data».now ≡ 0 = sym c.refusal_of.ensures ∙ ap answer_of c.in_default.is in (
      short_enough (length a.out.now) a.number a.kind a.«data».now z,
      room_enough (length a.out.now) a.number a.kind a.«data».now z,
    )

pub returns : goal.returns
returns c =
    let a = c.args in
    let z : write_answer (length a.out.now) a.number a.kind a.«data».now ≡ 0 = sym c.refusal_of.ensures ∙ ap answer_of c.in_default.is in (
      says_all (length a.out.now) a.number a.kind a.«data».now z,
      c.write_packet.ensures
          ∙ ap (sets a.out.now 0) (all_written (length a.out.now) a.number a.kind a.«data».now z a.normal a.version a.application),
    )
