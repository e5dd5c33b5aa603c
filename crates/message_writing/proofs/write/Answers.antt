-- `message_writing::write` meets its contract: nothing is written where the out buffer is short or the message is not allowed, else
-- the header and what follows it. Assumes nothing.
use native.Mathlib.Omega.{arith}
use mathlib.Core.Path.{sym, ◌∙◌}
use Rattle.message_writing.proofs.Steps.{Ready, room_for, no_room, not_allowed_lem, after_fits, written}
use Rattle.message_writing.proofs.write.Goals.{then-out-total-via-then-out-total, then-out-total-via-else-out-total+then-not-allowed_of}
use Rattle.message_writing.proofs.write.Goals as goal

pub total_of-total-requires : goal.total_of-total-requires
total_of-total-requires c = room_for _ _ _ c.table_of-row.ensures (omega arith)

pub returns-then-out-total : goal.returns-then-out-total
returns-then-out-total c =
    let m = c.args.message in
    elim c.then-out-total.branch [
      | then-out-total-via-then-out-total w ↦
          no_room c.args.out.now m.header m.tail c.args.«data».now _ _ c.table_of-row.ensures c.total_of-total.ensures w.if-out-total.true
      | then-out-total-via-else-out-total+then-not-allowed_of w ↦
          not_allowed_lem c.args.out.now m.header m.tail c.args.«data».now (sym w.allowed_of.ensures ∙ w.if-not-allowed_of.true)
    ]

pub write_header-requires : goal.write_header-requires
write_header-requires c =
    omega (
      arith,
      after_fits c.args.out.now _ _ _
          (record {
            row_is = c.table_of-row.ensures;
            total_is = c.total_of-total.ensures;
            allowed = sym c.allowed_of.ensures ∙ c.if-not-allowed_of.false;
            room = c.if-out-total.false;
          }),
    )

pub write_after-requires : goal.write_after-requires
write_after-requires c =
    omega (
      arith,
      c.write_header.auto.out,
      after_fits c.args.out.now _ _ _
          (record {
            row_is = c.table_of-row.ensures;
            total_is = c.total_of-total.ensures;
            allowed = sym c.allowed_of.ensures ∙ c.if-not-allowed_of.false;
            room = c.if-out-total.false;
          }),
    )

pub returns : goal.returns
returns c =
    written _ _ _ _
    (record {
      row_is = c.table_of-row.ensures;
      total_is = c.total_of-total.ensures;
      allowed = sym c.allowed_of.ensures ∙ c.if-not-allowed_of.false;
      room = c.if-out-total.false;
    })
    c.write_header.ensures c.write_after.ensures
