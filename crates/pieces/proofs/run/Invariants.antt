-- `pieces::run`: what holds between the pieces.
use Rattle.std.proofs.Common.{◌≡◌, length}
use Rattle.text.specs.Text.{room_of}
use Rattle.pieces.proofs.Between.{Carries}
use Rattle.pieces.proofs.run.Given as goal

abbrev pub invariant-loop : goal.invariant-loop
invariant-loop g l =
    let m = g.M.TakesTurnsIn in
    let held = g.O.Holds.held in
    record {
      lent : length l.lent ≡ length l.initial.lent;
      same : room_of (held l.out) ≡ room_of (held l.initial.out);
      carries : Carries m.machine g.met.M.TakesTurnsIn.lawful m.counted m.for_each (held l.initial.out).size g.row.B (m.counted l.initial.state)
          l.input.buffer (held l.out).text l.input.window l.state l.counter;
    }
