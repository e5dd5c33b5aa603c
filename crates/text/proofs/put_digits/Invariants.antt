-- `text::put_digits`: the digits of the bytes that are left come behind what was put, in the same room.
use Rattle.std.proofs.Common.{◌≡◌, ◌+◌, ◌*◌, length}
use Rattle.text.specs.Text.{put, left, room_of}
use Rattle.text.specs.Line.{digits_of}
use Rattle.text.proofs.put_digits.Given as goal

abbrev pub invariant-loop-part : goal.invariant-loop-part
invariant-loop-part g l =
    let held = g.O.Holds.held in
    record {
      room : left (held l.initial.out) + 2 * length l.rest ≡ left (held l.out) + 2 * length l.s;
      text : length (held l.out).text + 2 * length l.rest ≡ length (held l.initial.out).text + 2 * length l.s;
      put : put (digits_of l.rest) (held l.out) ≡ put (digits_of l.s) (held l.initial.out);
      same : room_of (held l.out) ≡ room_of (held l.initial.out);
    }

abbrev pub decreases-loop-part : goal.decreases-loop-part
decreases-loop-part g l = length l.rest
