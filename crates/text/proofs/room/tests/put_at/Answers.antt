-- Text put into a lent buffer at a place, by a part of it. Assumes nothing.
use Rattle.std.proofs.Common.{rules, arith, length, ◌∙◌, sym}
use Rattle.text.proofs.Rooms.{part_has_room, part_is_in_place}
use Rattle.text.proofs.room.tests.put_at.Goals as goal

pub put-requires : goal.put-requires
put-requires c =
    let made = c.new-part in
    part_has_room c.args.out.now c.args.at made.result.buffer made.result.at made.ensures.buffer made.ensures.place (length c.args.s.now) c.requires

pub returns : goal.returns
returns c =
    let made = c.new-part in
    let part = c.put.new.out in
    part_is_in_place c.args.out.now c.args.at made.result.buffer made.result.at made.ensures.buffer made.ensures.place
    part.buffer part.at c.args.s.now _ (omega (arith, c.requires)) part.within c.put.ensures.put (λ e. search (rules, sym made.ensures.same_reference ∙ e))
