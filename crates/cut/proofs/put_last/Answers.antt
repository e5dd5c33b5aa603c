-- `cut::put_last` meets its contract: the last line is put behind what the out buffer holds, and all is printed. Assumes nothing.
use Rattle.std.proofs.Common.{ℕ, List, ap, subst, sym, ◌∙◌, ◌++◌}
use Rattle.text.specs.Line.{end_of}
use Rattle.text.specs.Room.{held_in_array}
use Rattle.text.proofs.Puts.{text_after}
use Rattle.recording.specs.Whole.{PrintedWhole}
use Rattle.recording.proofs.Turns.{printed_whole}
use Rattle.cut.proofs.put_last.Goals as goal

pub finish-requires : goal.finish-requires
finish-requires g c =
    let a = c.args in
    let room = held_in_array g.row.N in
    let put =
    text_after (room c.make_room_in.new.out.items) (room c.put_end.new.out.items) (end_of a.handed_up) c.put_end.ensures.put
    ∙ ap (λ (l : List ℕ). l ++ end_of a.handed_up) c.make_room_in.ensures.text in
    subst (λ (l : List ℕ). PrintedWhole a.told.callers.now a.told.ours a.told.state l) (sym c.as_slice.ensures.value)
    (printed_whole a.told.callers.now a.told.ours a.told.state g.row.N a.out.now.items a.handed_up c.put_end.new.out.items c.requires.printed_to_the_end put)
