-- `cut::turn` meets its contract: the windows that are lent to the step are not low. Assumes nothing.
use Rattle.std.proofs.Common.{ℕ, List, ap, subst, arith}
use Rattle.recording.specs.Progress.{windowed, AdvancedTo}
use Rattle.recording.specs.Whole.{TurnOf}
use Rattle.recording.specs.declared.Progress.{Progress}
use Rattle.recording.proofs.Turns.{turn_moves}
use Rattle.cut.proofs.turn.Goals as goal

pub returns : goal.returns
returns g c =
    let advance = c.advance in
    let a = c.args in
    let windows = c.both_topped_up in
    let made = c.in_ok-lent.ensures.0 in
    let first = made.first in
    let second = made.second in
    let lent = made.with_them in
    let after = advance.ensures.lies_2 in
    let held = c.make_room_in.ensures.text in
    let turned : TurnOf a.normal.now a.redundant.now a.told.callers.now a.told.ours a.p g.row.N a.out.now.items windows.new.normal windows.new.redundant advance.new.out.items advance.result = record {
      first = first;
      second = second;
      up = made.up;
      advanced =
          subst (λ (l : List ℕ).
          AdvancedTo windows.new.normal windows.new.redundant a.told.callers.now a.told.ours (windowed first.window second.window a.p) l advance.new.out.items advance.result)
          held
          (subst (λ (q : Progress). AdvancedTo windows.new.normal windows.new.redundant a.told.callers.now a.told.ours q c.make_room_in.new.out.items advance.new.out.items advance.result) lent
          advance.ensures.advanced_to);
    } in (
      turned,
      ((after.0.0.0, omega (arith, after.0.0.1)), (after.0.1.0, omega (arith, after.0.1.1))),
      omega (arith, after.1, ap (λ (q : Progress). q.handed_up) lent),
      turn_moves a.told.callers.now a.told.ours a.normal.now a.redundant.now a.p g.row.N a.out.now.items windows.new.normal windows.new.redundant advance.new.out.items advance.result turned
          (omega arith) (omega arith) c.requires.both_have_room c.requires.lies c.requires.both_moved_no_more,
    )
