-- The replay of lent bytes, with its text in a lent buffer at a place. Assumes nothing.
use Rattle.std.proofs.Common.{ℕ, ◌≡◌, sym, subst, ◌∙◌, rules}
use Rattle.text.specs.Text.{put}
use Rattle.text.specs.Room.{held_in_part}
use Rattle.text.proofs.Rooms.{part_left, part_is_in_place}
use Rattle.pieces.specs.Pieces.{piece_from}
use Rattle.replay_lines.specs.Replay.{replay}
use Rattle.replay_lines.proofs.tests.advance.Goals as goal

pub returns-clause-put : goal.returns-clause-put
returns-clause-put c =
    let a = c.args in
    let made = c.new-part in
    let part = c.advance.new.out in
    let within = c.requires.2 in
    let put_there =
    subst
    (λ (room : ℕ). held_in_part part.buffer part.at
    ≡ put (piece_from replay room a.buffer.now a.p.now a.window a.lent.now).text (held_in_part made.result.buffer made.result.at))
    (part_left a.out.now a.at made.result.buffer made.result.at made.ensures.buffer made.ensures.place within) c.advance.ensures.put in
    part_is_in_place a.out.now a.at made.result.buffer made.result.at made.ensures.buffer made.ensures.place part.buffer part.at _ _
    within part.within put_there (λ e. search (rules, sym made.ensures.same_reference ∙ e))
