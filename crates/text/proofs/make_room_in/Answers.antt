-- `text::make_room_in` meets its contract: there is room, or the text is written. Assumes nothing.
use Rattle.std.proofs.Common.{sym, ◌∙◌, ◌≤◌, ◌<◌, arith}
use Rattle.text.specs.Text.{left}
use Rattle.text.proofs.Places.{room_here, room_none, text_here, text_none, all_left}
use Rattle.text.proofs.make_room_in.Goals as goal

pub returns-then-most-left-clause-value : goal.returns-then-most-left-clause-value
returns-then-most-left-clause-value g c =
    let room = g.O.Holds in
    let held = room.held c.args.out.now in
    sym (room_here c.args.most (room.emptied c.args.out.now) held (omega (arith, c.left.ensures, c.if-most-left.true)))

pub returns-then-most-left-clause-text : goal.returns-then-most-left-clause-text
returns-then-most-left-clause-text g c = text_here c.args.most (g.O.Holds.held c.args.out.now) (omega (arith, c.left.ensures, c.if-most-left.true))

pub returns-clause-value : goal.returns-clause-value
returns-clause-value g c =
    let room = g.O.Holds in
    let held = room.held c.args.out.now in
    c.empty.ensures.emptied ∙ sym (room_none c.args.most (room.emptied c.args.out.now) held (omega (arith, c.left.ensures, c.if-most-left.false)))

pub returns-clause-text : goal.returns-clause-text
returns-clause-text g c =
    let room = g.O.Holds in
    text_none c.args.most (room.held c.empty.new.self) (room.held c.args.out.now) (omega (arith, c.left.ensures, c.if-most-left.false)) c.empty.ensures.text

pub returns-clause-most_in_bounds : goal.returns-clause-most_in_bounds
returns-clause-most_in_bounds g c =
    let room = g.O.Holds in
    all_left c.args.most (room.held c.empty.new.self) (room.held c.args.out.now) c.empty.ensures.text c.empty.ensures.same c.requires
