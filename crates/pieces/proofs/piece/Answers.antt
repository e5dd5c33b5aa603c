-- `pieces::piece` meets its contract: room, the input topped up, and turns. Assumes nothing.
use Rattle.std.proofs.Common.{sym, ◌∙◌}
use Rattle.text.proofs.Puts.{same_size}
use Rattle.pieces.proofs.OnePiece.{piece_of}
use Rattle.pieces.proofs.piece.Goals as goal

pub returns-clause-piece : goal.returns-clause-piece
returns-clause-piece g c =
    let m = g.M.TakesTurnsIn in
    let laws = g.met.M.TakesTurnsIn in
    let a = c.args in
    let held = g.O.Holds.held in
    let room = c.make_room_in in
    let up = c.top_up in
    let n = c.advance.new in
    piece_of m.machine (held a.out.now).size a.input.now.buffer a.input.now.window a.state.now a.lent.now (held a.out.now).text
    (held room.new.out).size (held room.new.out).text up.new.self.buffer n.input.buffer (record { window = up.new.self.window; last = up.result })
    c.MOST_TEXT.result c.MOST_SEEN.result n.lent (held n.out).text n.state n.input.window
    (same_size (held room.new.out) (held a.out.now) room.ensures.same) room.ensures.text
    (c.MOST_TEXT.ensures ∙ sym laws.prints) (c.MOST_SEEN.ensures ∙ sym laws.sees) c.advance.ensures.buffer up.ensures.topped_up c.advance.ensures.advanced
