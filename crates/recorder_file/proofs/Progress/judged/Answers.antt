-- `recorder_file::Progress::judged` meets its contract: the call alone, the call with its answer, or the difference. Assumes nothing.
use Prim.Native.Nat.{ℕ}
use mathlib.Core.Path.{◌≡◌, sym, ap, ◌∙◌}
use mathlib.Core.List.{List}
use native.Mathlib.Omega.{arith}
use lib.ListN.{length, drop, length-drop}
use mathlib.Core.Bool.{true}
use Rattle.std.specs.Prelude.{Option, None}
use Rattle.std.specs.Option.{unwrap_or}
use Rattle.connection.specs.Connection.{all_zero}
use Rattle.connection.specs.declared.Connection.{Connection}
use Rattle.table.specs.Table.{LeftAt}
use Rattle.recorder_file.specs.declared.Progress.{Progress}
use Rattle.trace.specs.Record.{size_of, record_bytes}
use Rattle.recorded_answer.specs.Answer.{behind_of}
use Rattle.recorded_answer.proofs.Answers.{behind_is}
use Rattle.text.proofs.Puts.{text_after, put_by, put_none_by}
use Rattle.recorder_file.proofs.Turns.{rest_is, answer_there, recorded_is, recorded_size, progress_of, none_at, stored_again, none_stored, writes_within, alone_turn, right_turn, wrong_turn}
use Rattle.recorder_file.proofs.Progress.judged.Goals as goal
use Rattle.recorder_file.proofs.Progress.judged.Goals.{in-Some-before, in_default-before}

pub returns-in_default : goal.returns-in_default
returns-in_default g c =
    let a = c.args in
    let none : behind_of a.r (drop (size_of a.r) a.s.now) ≡ None =
    ap (behind_of a.r) (sym (rest_is a.s.now (size_of a.r))) ∙ sym c.in_default.ensures in
    let held = g.O.Holds.held a.out.now in
    let taken = alone_turn a.self.now a.r a.s.now a.lent.now c.requires.2 c.made_on-answer.ensures none (cc) in
    record { taken = taken; put = put_none_by held _ taken.put }

pub slice_bounds-recorded-end : goal.slice_bounds-recorded-end
slice_bounds-recorded-end g c = omega (arith, (behind_is c.args.r _ c.in-Some.a (sym c.in-Some.ensures)).fits)

pub is_right-requires : goal.is_right-requires
is_right-requires g c =
    let a = c.args in
    writes_within a.self.now a.r a.s.now a.lent.now c.requires.2 c.made_on-answer.ensures

pub by-self-requires-then-is_right : goal.by-self-requires-then-is_right
by-self-requires-then-is_right g c =
    let a = c.args in
    let there = answer_there a.r a.s.now (sym c.in-Some.ensures) in
    omega (arith, (behind_is a.r (drop (size_of a.r) a.s.now) c.in-Some.a there).fits, length-drop (size_of a.r) a.s.now, c.requires.1, c.requires.4)

pub returns-then-is_right : goal.returns-then-is_right
returns-then-is_right g c =
    let a = c.args in
    let there = answer_there a.r a.s.now (sym c.in-Some.ensures) in
    let held = g.O.Holds.held a.out.now in
    let taken =
    right_turn a.self.now a.r a.s.now a.lent.now c.requires.2 c.made_on-answer.ensures c.in-Some.a there _
    (recorded_is a.s.now (size_of a.r) c.in-Some.a) (sym c.is_right.ensures ∙ c.if-is_right.true) (cc) in
    record { taken = taken; put = put_none_by held _ taken.put }

pub put_difference-requires : goal.put_difference-requires
put_difference-requires g c =
    let a = c.args in
    let there = answer_there a.r a.s.now (sym c.in-Some.ensures) in
    let fits = behind_is a.r (drop (size_of a.r) a.s.now) c.in-Some.a there in
    let left = length-drop (size_of a.r) a.s.now in
    let size = ap (λ (l : List ℕ). length l) (recorded_is a.s.now (size_of a.r) c.in-Some.a) ∙ recorded_size a.r c.in-Some.a (drop (size_of a.r) a.s.now) there in (
      c.requires.3,
      omega (arith, size, fits.answering.least),
      omega (arith, size, fits.answering.most),
      writes_within a.self.now a.r a.s.now a.lent.now c.requires.2 c.made_on-answer.ensures,
      c.made_on-answer.auto.lent ∙ c.requires.2,
      omega (arith, c.requires.1, c.requires.4),
    )

pub returns : goal.returns
returns g c =
    let a = c.args in
    let bytes = record_bytes a.s.now a.r in
    let made = ap (λ (l : LeftAt). l.table) c.made_on-answer.ensures in
    let looked = c.get.ensures.lookup in
    let is = c.copied-before.ensures in
    let there = answer_there a.r a.s.now (sym c.in-Some.ensures) in
    let held = g.O.Holds.held a.out.now in
    let after = g.O.Holds.held c.put_difference.new.out in
    let put = c.put_difference.ensures.put in
    let taken =
    wrong_turn a.self.now a.r a.s.now a.lent.now c.requires.2 c.made_on-answer.ensures c.in-Some.a there _
    (recorded_is a.s.now (size_of a.r) c.in-Some.a) (sym c.is_right.ensures ∙ c.if-is_right.false)
    (elim c.match-before.branch [
      | in-Some-before w ↦ ap (λ (q : Progress). progress_of q.table q.passed true) w.self-is
          ∙ ap (λ (t : List Connection). progress_of t a.self.now.passed true) (stored_again a.self.now.table a.r bytes a.lent.now made
          (sym (looked.4 (omega arith) all_zero) ∙ ap (λ (k : Option Connection). unwrap_or k all_zero) (sym is ∙ w.in-Some-before.is)))
      | in_default-before w ↦ ap (λ (q : Progress). progress_of q.table q.passed true) w.self-is
          ∙ ap (λ (t : List Connection). progress_of t a.self.now.passed true) (none_stored a.self.now.table a.r bytes a.lent.now made
          (none_at _ _ c.get.result (sym is ∙ w.in_default-before.is) looked.3))
    ])
    (text_after held after _ put) in
    record { taken = taken; put = put_by held after _ _ put taken.put }
