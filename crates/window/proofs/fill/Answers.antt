-- `window::fill` meets its contract: a read that gave nothing is the last, and it failed or ended the file. Assumes nothing.
use Rattle.std.proofs.Common.{sym, ◌∙◌, inr, arith}
use Rattle.std.proofs.lemmas.Bool.{false≢true}
use Rattle.window.proofs.Moved.{shorter_part}
use Rattle.window.proofs.LastRead.{none_came, at_most, unwrapped}
use Rattle.window.proofs.fill.Goals as goal

pub returns-then-count-eq0 : goal.returns-then-count-eq0
returns-then-count-eq0 g c =
    let read = c.read_behind-last in
    let l = c.loop-to in
    let came = unwrapped read.result.got read.result.room read.ensures.1 in
    let room = read.ensures.0 in
    let none = sym came ∙ sym c.unwrap_or-count.ensures ∙ c.if-count-eq0.true in
    record {
      more = l.invariant.0;
      within = l.invariant.1;
      kept = shorter_part c.args.at l.to l.buffer read.new.buffer l.invariant.0 read.ensures.2 ∙ l.invariant.3;
      moved = read.ensures.1;
      asked = omega (arith, none, room, l.invariant.1, l.invariant.2);
      full = λ ok more. absurd (false≢true (sym more ∙ none_came read.result (omega (arith, room, c.loop-to-test.true)) none ok));
    }

pub loop-to-preserved : goal.loop-to-preserved
loop-to-preserved g c =
    let read = c.read_behind-last in
    let l = c.loop-to in
    let few = at_most read.result in
    let came = c.unwrap_or-count.ensures ∙ unwrapped read.result.got read.result.room read.ensures.1 in (
      omega (arith, l.invariant.0),
      omega (arith, came, read.ensures.0, few, l.invariant.1, l.invariant.2),
      omega arith,
      shorter_part c.args.at l.to l.buffer read.new.buffer l.invariant.0 read.ensures.2 ∙ l.invariant.3,
      read.ensures.1,
      inr (omega (arith, came, read.ensures.0, few, l.invariant.1, l.invariant.2)),
    )
