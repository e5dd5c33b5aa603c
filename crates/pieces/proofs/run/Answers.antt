-- `pieces::run` meets its contract: each piece carries the run on. Assumes nothing.
use Rattle.std.proofs.Common.{ℕ, ◌+◌, ◌*◌, ◌≤◌, refl, sym, subst, ◌∙◌, arith, rules}
use Rattle.text.proofs.Puts.{same_size}
use Rattle.pieces.specs.Pieces.{PieceOf}
use Rattle.pieces.proofs.Between.{of_ok, carries_first, counts_fit, carries_on, all_printed, printed_then}
use Rattle.pieces.proofs.run.Goals as goal

pub loop-init : goal.loop-init
loop-init g c =
    let m = g.M.TakesTurnsIn in
    let a = c.args in
    let held = g.O.Holds.held in
    let room = (held a.out.now).size in
    let i = a.input.now in
    record {
      lent = refl;
      same = refl;
      carries =
          carries_first m.machine g.met.M.TakesTurnsIn.lawful m.counted m.for_each room g.row.B (m.counted a.state.now) i.buffer i.size
          c.requires.starts.1 c.requires.starts.0 c.requires.starts.2 refl;
    }

pub piece-requires : goal.piece-requires
piece-requires g c =
    let m = g.M.TakesTurnsIn in
    let a = c.args in
    let held = g.O.Holds.held in
    let room = (held a.out.now).size in
    let l = c.loop in
    let counts =
    counts_fit m.machine g.met.M.TakesTurnsIn.lawful m.counted m.for_each room g.row.B (m.counted a.state.now) a.most_pieces l.invariant.carries c.loop-test.true
    c.requires.counts in
    (search rules, ((c.requires.sizes.0, omega (arith, c.requires.sizes.1, same_size (held l.out) (held a.out.now) l.invariant.same)), (omega (arith, counts), l.invariant.lent ∙ c.requires.lent_len)))

pub returns-then-stopped-clause-whole : goal.returns-then-stopped-clause-whole
returns-then-stopped-clause-whole g c =
    let m = g.M.TakesTurnsIn in
    let a = c.args in
    let held = g.O.Holds.held in
    let room = (held a.out.now).size in
    let l = c.loop in
    let n = c.piece.new in
    let ok = sym c.ok.ensures.value ∙ c.in_ok-ok.was in
    let made =
    subst
    (λ (size : ℕ). PieceOf m.machine size l.input.buffer l.input.window l.state l.lent (held l.out).text n.input.buffer n.lent (held n.out).text n.state n.input.window)
    (same_size (held l.out) (held a.out.now) l.invariant.same)
    (of_ok c.piece.result
    (λ _. PieceOf m.machine (held l.out).size l.input.buffer l.input.window l.state l.lent (held l.out).text n.input.buffer n.lent (held n.out).text n.state n.input.window)
    c.piece.ensures.piece ok) in
    all_printed m.machine g.met.M.TakesTurnsIn.lawful m.counted m.for_each room g.row.B (m.counted a.state.now) l.input.buffer l.input.window l.state l.lent
    (held l.out).text n.input.buffer n.lent (held n.out).text n.state n.input.window l.invariant.carries (n.input.size ∙ sym l.input.size) made (sym c.stopped.ensures ∙ c.if-stopped.true)

pub returns-then-stopped-clause-at_once : goal.returns-then-stopped-clause-at_once
returns-then-stopped-clause-at_once g c =
    let m = g.M.TakesTurnsIn in
    let a = c.args in
    let held = g.O.Holds.held in
    let room = (held a.out.now).size in
    let l = c.loop in
    let n = c.piece.new in
    let ok = sym c.ok.ensures.value ∙ c.in_ok-ok.was in
    let made =
    subst
    (λ (size : ℕ). PieceOf m.machine size l.input.buffer l.input.window l.state l.lent (held l.out).text n.input.buffer n.lent (held n.out).text n.state n.input.window)
    (same_size (held l.out) (held a.out.now) l.invariant.same)
    (of_ok c.piece.result
    (λ _. PieceOf m.machine (held l.out).size l.input.buffer l.input.window l.state l.lent (held l.out).text n.input.buffer n.lent (held n.out).text n.state n.input.window)
    c.piece.ensures.piece ok) in
    printed_then m.machine g.met.M.TakesTurnsIn.lawful m.counted m.for_each room g.row.B (m.counted a.state.now) l.input.buffer l.input.window l.state l.lent
    (held l.out).text n.input.buffer n.lent (held n.out).text n.state n.input.window l.invariant.carries (n.input.size ∙ sym l.input.size) made c.requires.sizes.1 (sym c.stopped.ensures ∙ c.if-stopped.true)

pub loop-preserved : goal.loop-preserved
loop-preserved g c =
    let m = g.M.TakesTurnsIn in
    let a = c.args in
    let held = g.O.Holds.held in
    let room = (held a.out.now).size in
    let l = c.loop in
    let n = c.piece.new in
    let ok = sym c.ok.ensures.value ∙ c.in_ok-ok.was in
    let made =
    subst
    (λ (size : ℕ). PieceOf m.machine size l.input.buffer l.input.window l.state l.lent (held l.out).text n.input.buffer n.lent (held n.out).text n.state n.input.window)
    (same_size (held l.out) (held a.out.now) l.invariant.same)
    (of_ok c.piece.result
    (λ _. PieceOf m.machine (held l.out).size l.input.buffer l.input.window l.state l.lent (held l.out).text n.input.buffer n.lent (held n.out).text n.state n.input.window)
    c.piece.ensures.piece ok) in
    let counts = of_ok c.piece.result (λ _. m.counted n.state ≤ m.counted l.state + m.for_each * g.row.B) c.piece.ensures.counts ok in
    record {
      lent = omega (arith, l.invariant.lent);
      same = c.piece.ensures.same ∙ l.invariant.same;
      carries = carries_on m.machine g.met.M.TakesTurnsIn.lawful m.counted m.for_each room g.row.B (m.counted a.state.now) l.input.buffer l.input.window l.state l.lent
          (held l.out).text n.input.buffer n.lent (held n.out).text n.state n.input.window l.invariant.carries (n.input.size ∙ sym l.input.size) made c.requires.sizes.1 counts (sym c.stopped.ensures ∙ c.if-stopped.false);
    }
