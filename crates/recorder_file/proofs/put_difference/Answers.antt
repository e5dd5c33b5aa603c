-- `recorder_file::put_difference` meets its contract: the verdict, the place, and both answers. Assumes nothing.
use Prim.Native.Nat.{ℕ, ◌+◌, ◌-◌}
use mathlib.Core.Path.{ap, ◌∙◌}
use mathlib.Core.List.{List, ◌++◌}
use lib.ListN.{length, take, drop}
use Rattle.text.specs.Ascii.{ascii}
use Rattle.text.specs.Text.{put}
use Rattle.text.proofs.Puts.{held_and_then}
use Rattle.recorded_answer.specs.Answer.{answer_fields_size, recorded_fields}
use Rattle.recorded_answer.specs.declared.Fields.{Fields}
use Rattle.recorder_file.specs.Said.{line_of, place_line, answer_words, recorded_line, rules_line}
use Rattle.recorder_file.specs.Check.{nth}
use Rattle.recorder_file.specs.declared.Verdict.TheVariants.{Differs}
use Rattle.recorder_file.proofs.Turns.{rest_is}
use Rattle.recorder_file.proofs.put_difference.Goals as goal

pub returns-clause-put : goal.returns-clause-put
returns-clause-put g c =
    let a = c.args in
    let held = g.O.Holds.held in
    let out = held c.put_verdict.new.out in
    let offset = a.passed.offset + a.used in
    let place = place_line (nth a.passed + 1) offset in
    let why = place ++ ascii ": not the answer that the rules give\n" in
    let told = why ++ recorded_line a.recorded.now in
    let placed = c.put_place.ensures.put ∙ ap (λ (n : ℕ). put (place_line (n + 1) offset) out) c.nth.ensures in
    let behind = take (length a.recorded.now - answer_fields_size) (drop answer_fields_size a.recorded.now) in
    let answered =
    c.put_answer.ensures.put
    ∙ ap (λ (f : Fields). put (ascii "recorded:" ++ answer_words f.number f.released f.age behind) (held c.put.new.out)) c.fields_of-fields.ensures
    ∙ ap (λ (l : List ℕ). put (ascii "recorded:" ++ answer_words (recorded_fields a.recorded.now).number
    (recorded_fields a.recorded.now).released (recorded_fields a.recorded.now).age l) (held c.put.new.out)) (rest_is a.recorded.now answer_fields_size) in
    let ruled =
    c.put_answer-2.ensures.put
    ∙ ap (λ (f : Fields). put (ascii "the rules:" ++ answer_words f.number f.released f.age (take a.answer.written a.lent.now)) (held c.put_answer.new.out)) c.from-right.ensures in
    held_and_then (held a.out.now) (line_of (Differs (a.passed.calls + 1))) (told ++ rules_line a.answer a.lent.now) c.put_verdict.ensures.put
    (held_and_then out told (rules_line a.answer a.lent.now)
    (held_and_then out why (recorded_line a.recorded.now)
    (held_and_then out place (ascii ": not the answer that the rules give\n") placed c.put.ensures.put) answered) ruled)
