-- `recorder_file::put_bad` meets its contract: the verdict, the place, and the reason, which has room. Assumes nothing.
use Rattle.std.proofs.Common.{ℕ, List, arith, ap, ◌∙◌, length}
use Rattle.text.specs.Text.{put}
use Rattle.text.proofs.Puts.{held_and_then}
use Rattle.recorder_file.specs.Said.{line_of, place_line, why_bad, bad_told}
use Rattle.recorder_file.specs.Check.{nth}
use Rattle.recorder_file.specs.declared.Verdict.TheVariants.{Bad}
use Rattle.recorder_file.specs.Sizes.{why_fits}
use Rattle.recorder_file.proofs.put_bad.Goals as goal

pub put-requires : goal.put-requires
put-requires g c = omega (arith, why_fits c.args.s.now, ap length c.why_bad.ensures)

pub returns-clause-put : goal.returns-clause-put
returns-clause-put g c =
    let a = c.args in
    let held = g.O.Holds.held in
    let out = held c.put_verdict.new.out in
    let offset = a.passed.offset in
    let placed = c.put_place.ensures.put ∙ ap (λ (n : ℕ). put (place_line n offset) out) c.nth.ensures in
    let told = c.put.ensures.put ∙ ap (λ (l : List ℕ). put l (held c.put_place.new.out)) c.why_bad.ensures in
    held_and_then (held a.out.now) (line_of Bad) (bad_told (nth a.passed) offset a.s.now) c.put_verdict.ensures.put
    (held_and_then out (place_line (nth a.passed) offset) (why_bad a.s.now) placed told)
