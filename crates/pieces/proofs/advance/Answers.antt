-- `pieces::advance` meets its contract: turns until it waits. Assumes nothing.
use Rattle.std.proofs.Common.{List, ℕ, refl, ap, ◌∙◌, arith, rules}
use Rattle.text.specs.Text.{put, left, room_of}
use Rattle.text.proofs.Puts.{room_put, left_by_text, grown_first, grown_on, grown_by}
use Rattle.window.specs.Window.{unread}
use Rattle.pieces.proofs.Loop.{keeps_first, keeps_last, asks, used_fits, keeps_on, fewer_left}
use Rattle.pieces.proofs.advance.Goals as goal

pub loop-state-init : goal.loop-state-init
loop-state-init g c =
    let m = g.M.TakesTurnsIn in
    let laws = g.met.M.TakesTurnsIn in
    let a = c.args in
    let held = g.O.Holds.held a.out.now in
    record {
      kept =
          keeps_first m.machine laws.lawful m.counted m.for_each laws.counts_on held.size (g.I.AtHand.buffer a.input.now) a.state.now
          (g.I.AtHand.window a.input.now) a.lent.now held.text (g.met.I.AtHand.lies a.input.now);
      buffer = refl;
      grown = grown_first held;
      same = refl;
    }

pub turn-used-requires : goal.turn-used-requires
turn-used-requires g c =
    let m = g.M.TakesTurnsIn in
    let laws = g.met.M.TakesTurnsIn in
    let a = c.args in
    let buffer = g.I.AtHand.buffer a.input.now in
    let window = g.I.AtHand.window a.input.now in
    let held = g.O.Holds.held a.out.now in
    let l = c.loop-state in
    let room = c.left.ensures ∙ left_by_text (g.O.Holds.held l.out) held l.invariant.same in
    let hand = c.unread.ensures.value ∙ ap (λ (b : List ℕ). unread b (g.I.AtHand.window l.input)) l.invariant.buffer in
    let asked =
    asks m.machine laws.lawful m.counted m.for_each laws.counts_on held.size buffer a.state.now window a.lent.now held.text
    l.invariant.kept _ room c.waits.ensures c.loop-state-test.true c.unread.result.now hand m.lent_size c.requires.lent_len c.requires.counts in
    record { goes = asked.0; counts = omega (arith, asked.1); lent_len = asked.2; room = omega (arith, asked.3, c.left.ensures) }

pub use_up-requires : goal.use_up-requires
use_up-requires g c =
    let m = g.M.TakesTurnsIn in
    let laws = g.met.M.TakesTurnsIn in
    let a = c.args in
    let buffer = g.I.AtHand.buffer a.input.now in
    let window = g.I.AtHand.window a.input.now in
    let held = g.O.Holds.held a.out.now in
    let l = c.loop-state in
    let room = c.left.ensures ∙ left_by_text (g.O.Holds.held l.out) held l.invariant.same in
    let hand = c.unread.ensures.value ∙ ap (λ (b : List ℕ). unread b (g.I.AtHand.window l.input)) l.invariant.buffer in
    used_fits m.machine laws.lawful m.counted m.for_each laws.counts_on held.size buffer a.state.now window a.lent.now held.text
    l.invariant.kept _ room c.waits.ensures c.loop-state-test.true c.unread.result.now hand c.turn-used.ensures.taken

pub loop-state-smaller : goal.loop-state-smaller
loop-state-smaller g c =
    let m = g.M.TakesTurnsIn in
    let laws = g.met.M.TakesTurnsIn in
    let a = c.args in
    let buffer = g.I.AtHand.buffer a.input.now in
    let window = g.I.AtHand.window a.input.now in
    let held = g.O.Holds.held a.out.now in
    let l = c.loop-state in
    let room = c.left.ensures ∙ left_by_text (g.O.Holds.held l.out) held l.invariant.same in
    let hand = c.unread.ensures.value ∙ ap (λ (b : List ℕ). unread b (g.I.AtHand.window l.input)) l.invariant.buffer in
    fewer_left m.machine laws.lawful m.counted m.for_each laws.counts_on held.size buffer a.state.now window a.lent.now held.text
    l.invariant.kept _ room c.waits.ensures c.loop-state-test.true c.unread.result.now hand c.turn-used.ensures.taken c.use_up.ensures.window

pub loop-state-preserved : goal.loop-state-preserved
loop-state-preserved g c =
    let m = g.M.TakesTurnsIn in
    let laws = g.met.M.TakesTurnsIn in
    let a = c.args in
    let buffer = g.I.AtHand.buffer a.input.now in
    let window = g.I.AtHand.window a.input.now in
    let held = g.O.Holds.held a.out.now in
    let l = c.loop-state in
    let room = c.left.ensures ∙ left_by_text (g.O.Holds.held l.out) held l.invariant.same in
    let hand = c.unread.ensures.value ∙ ap (λ (b : List ℕ). unread b (g.I.AtHand.window l.input)) l.invariant.buffer in
    record {
      kept =
          keeps_on m.machine laws.lawful m.counted m.for_each laws.counts_on held.size buffer a.state.now window a.lent.now held.text
          l.invariant.kept _ room c.waits.ensures c.loop-state-test.true c.unread.result.now hand c.turn-used.ensures.taken
          (omega arith) c.use_up.ensures.window;
      buffer = c.use_up.ensures.buffer ∙ l.invariant.buffer;
      grown = grown_on held (g.O.Holds.held l.out) (g.O.Holds.held c.turn-used.new.out) _ l.invariant.grown c.turn-used.ensures.put;
      same = ap room_of c.turn-used.ensures.put ∙ room_put _ (g.O.Holds.held l.out) ∙ l.invariant.same;
    }

pub returns-clause-advanced : goal.returns-clause-advanced
returns-clause-advanced g c =
    let m = g.M.TakesTurnsIn in
    let laws = g.met.M.TakesTurnsIn in
    let a = c.args in
    let buffer = g.I.AtHand.buffer a.input.now in
    let window = g.I.AtHand.window a.input.now in
    let held = g.O.Holds.held a.out.now in
    let l = c.loop-state in
    let room = c.left.ensures ∙ left_by_text (g.O.Holds.held l.out) held l.invariant.same in
    keeps_last m.machine laws.lawful m.counted m.for_each laws.counts_on held.size buffer a.state.now window a.lent.now held.text
    l.invariant.kept _ room c.waits.ensures c.loop-state-test.false

pub returns-clause-put : goal.returns-clause-put
unfolding left
returns-clause-put g c =
    let m = g.M.TakesTurnsIn in
    let laws = g.met.M.TakesTurnsIn in
    let a = c.args in
    let buffer = g.I.AtHand.buffer a.input.now in
    let window = g.I.AtHand.window a.input.now in
    let held = g.O.Holds.held a.out.now in
    let l = c.loop-state in
    let room = c.left.ensures ∙ left_by_text (g.O.Holds.held l.out) held l.invariant.same in
    let advanced =
    keeps_last m.machine laws.lawful m.counted m.for_each laws.counts_on held.size buffer a.state.now window a.lent.now held.text
    l.invariant.kept _ room c.waits.ensures c.loop-state-test.false in
    grown_by held (g.O.Holds.held l.out) _ l.invariant.grown advanced.put
