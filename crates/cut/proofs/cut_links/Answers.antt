-- `cut::cut_links` is safe, and what it prints is what `cut` prints for the bytes that it read: each turn carries the cutting on. Assumes nothing.
use Rattle.std.proofs.Common.{ℕ, ◌≡◌, ap, arith, rules}
use Rattle.window.proofs.Empty.{none_within}
use Rattle.recording.specs.declared.Progress.{Progress}
use Rattle.recording.specs.Whole.{BothMovedNoMore}
use Rattle.recording.proofs.Turns.{cutting_first, moved_first, turn_cuts, printed_to_the_end}
use Rattle.cut.proofs.cut_links.Goals as goal

-- buffers of the same lengths
as_long : (p : Progress) {normal normal' redundant redundant' : ℕ} → normal' ≡ normal → redundant' ≡ redundant → BothMovedNoMore p normal redundant
    → BothMovedNoMore p normal' redundant'
as_long p n r moved = rw (n, r) moved

pub loop-init : goal.loop-init
loop-init g c =
    let first = c.start-progress.ensures in
    let a = c.args in record {
      lies = (none_within _ _ (ap (λ (p : Progress). p.normal) first), none_within _ _ (ap (λ (p : Progress). p.redundant) first));
      handed_up = omega (arith, ap (λ (p : Progress). p.handed_up) first);
      goes = ap (λ (p : Progress). p.last) first;
      cutting = cutting_first a.told.callers.now a.told.ours a.told.state a.normal.now a.redundant.now first c.requires.2;
      moved = moved_first a.told.state _ _ first;
    }

pub put_last-requires : goal.put_last-requires
put_last-requires g c =
    let a = c.args in
    let at = c.loop in
    let after = c.in_ok-progress.progress in
    let new = c.turn.new in
    let turned = c.in_ok-progress.ensures in
    let carried =
    turn_cuts a.told.callers.now a.told.ours a.told.state at.normal at.redundant at.progress g.row.N at.out.items new.normal new.redundant new.out.items after turned.0
    (omega arith) (omega arith) at.invariant.goes at.invariant.cutting in
    let printed = printed_to_the_end a.told.callers.now a.told.ours a.told.state new.normal new.redundant after new.out.items carried c.if-progress.true in
    (search rules, (c.requires.1, printed))

pub loop-preserved : goal.loop-preserved
loop-preserved g c =
    let a = c.args in
    let at = c.loop in
    let after = c.in_ok-progress.progress in
    let new = c.turn.new in
    let turned = c.in_ok-progress.ensures in
    let lies = turned.1 in record {
      lies = ((lies.0.0, omega (arith, lies.0.1)), (lies.1.0, omega (arith, lies.1.1)));
      handed_up = omega (arith, turned.2, at.invariant.handed_up);
      goes = c.if-progress.false;
      cutting =
          turn_cuts a.told.callers.now a.told.ours a.told.state at.normal at.redundant at.progress g.row.N at.out.items new.normal new.redundant new.out.items after turned.0
          (omega arith) (omega arith) at.invariant.goes at.invariant.cutting;
      moved = as_long after (omega arith) (omega arith) turned.3;
    }
