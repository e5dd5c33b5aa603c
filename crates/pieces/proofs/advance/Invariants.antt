-- `pieces::advance`: turns until it waits, each with its text put into the same room. The measure is how many turns are left.
use Rattle.std.proofs.Common.{◌≡◌}
use Rattle.text.specs.Text.{room_of}
use Rattle.text.proofs.Puts.{Grown}
use Rattle.window.specs.Window.{left_of}
use Rattle.pieces.proofs.Turns.{turns_left}
use Rattle.pieces.proofs.Loop.{Keeps}
use Rattle.pieces.proofs.advance.Given as goal

abbrev pub invariant-loop-state : goal.invariant-loop-state
invariant-loop-state g l =
    let m = g.M.TakesTurnsIn in
    let laws = g.met.M.TakesTurnsIn in
    let hand = g.I.AtHand in
    let held = g.O.Holds.held in
    let was = l.initial in
    record {
      kept : Keeps m.machine laws.lawful m.counted m.for_each laws.counts_on (held was.out).size (hand.buffer was.input) was.state (hand.window was.input)
          was.lent (held was.out).text l.lent (held l.out).text (hand.window l.input) l.state;
      buffer : hand.buffer l.input ≡ hand.buffer was.input;
      grown : Grown (held was.out) (held l.out);
      same : room_of (held l.out) ≡ room_of (held was.out);
    }

abbrev pub decreases-loop-state : goal.decreases-loop-state
decreases-loop-state g l = turns_left (g.M.TakesTurnsIn.machine.stopped l.state) (left_of (g.I.AtHand.window l.input))
