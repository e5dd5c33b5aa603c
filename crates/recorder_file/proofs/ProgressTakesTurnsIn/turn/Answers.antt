-- The turn of `recorder_file` is that of its machine. Assumes nothing.
use mathlib.Core.Path.{sym, ap, ◌∙◌}
use native.Mathlib.Omega.{arith}
use Rattle.text.proofs.Puts.{text_after, put_by}
use Rattle.trace.proofs.Records.{whole_fits}
use Rattle.recorder_file.proofs.Turns.{end_turn, bad_turn}
use Rattle.recorder_file.proofs.ProgressTakesTurnsIn.turn.Goals as goal
use Rattle.recorder_file.proofs.ProgressTakesTurnsIn.turn.Goals.{in-End, in-Bad}

pub judged-requires : goal.judged-requires
judged-requires g c = (
  c.requires.goes,
  whole_fits c.args.s.now c.in-Whole.r (sym c.in-Whole.ensures),
  c.requires.lent_len,
  c.requires.room,
  omega (arith, c.requires.counts),
)

pub returns : goal.returns
returns g c =
    let a = c.args in
    let held = g.O.Holds.held in
    let was = held a.out.now in
    elim c.match-record_of.branch [
      | in-End w ↦
          let put = ap held w.out-is ∙ w.put_verdict.ensures.put in
          let taken = end_turn a.self.now a.s.now a.lent.now was.text (sym w.in-End.ensures) (text_after was (held c.match-record_of.out) _ put) in
          record { taken = taken; put = put_by was (held c.match-record_of.out) _ _ put taken.put }
      | in-Bad w ↦
          let put = ap held w.out-is ∙ w.put_bad.ensures.put in
          let taken = bad_turn a.self.now a.s.now a.lent.now was.text (sym w.in-Bad.ensures) (text_after was (held c.match-record_of.out) _ put) in
          record { taken = taken; put = put_by was (held c.match-record_of.out) _ _ put taken.put }
    ]
