-- A turn of the replay is the machine's: at a whole record its call on the table and its line. Assumes nothing.
use Rattle.std.proofs.Common.{sym, ◌∙◌, arith}
use Rattle.text.proofs.Puts.{text_after, put_by}
use Rattle.trace.proofs.Records.{whole_fits}
use Rattle.replay_lines.proofs.Slots.{slot_turn}
use Rattle.replay_lines.proofs.ProgressTakesTurnsIn.turn.Goals as goal

pub made_on-answer-requires : goal.made_on-answer-requires
made_on-answer-requires g c = whole_fits c.args.s.now c.in-Whole.r (sym c.record_of.ensures ∙ c.in-Whole.is)

pub overflow_add-self : goal.overflow_add-self
overflow_add-self g c =
    let fits = whole_fits c.args.s.now c.in-Whole.r (sym c.record_of.ensures ∙ c.in-Whole.is) in
    omega (arith, fits, c.requires.counts)

pub returns-in-Whole : goal.returns-in-Whole
returns-in-Whole g c =
    let a = c.args in
    let held = g.O.Holds.held a.out.now in
    let after = g.O.Holds.held c.put_line.new.out in
    let line = c.put_line.ensures.put in
    let taken =
    slot_turn a.self.now a.s.now a.lent.now held.text c.in-Whole.r (sym c.record_of.ensures ∙ c.in-Whole.is)
    c.requires.lent_len c.requires.goes (cc) c.made_on-answer.ensures (text_after held after _ line) in
    record { taken = taken; put = put_by held after _ _ line taken.put }
