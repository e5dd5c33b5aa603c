-- `text::put_decimal_in` meets its contract: each branch puts what the definition says there. Assumes nothing.
use Rattle.std.proofs.Common.{ℕ, ◌-◌, ◌/◌, List, ◌++◌, ◌∷◌, [], ap, sym, ◌∙◌, arith}
use Rattle.text.specs.Text.{put, decimal_in}
use Rattle.text.proofs.Decimal.{no_digit, one_digit, more_digits}
use Rattle.text.proofs.Puts.{put_none, held_and_then, longer_put}
use Rattle.text.proofs.+put_decimal_in.Goals as goal

pub returns-then-most-eq0-clause-put : goal.returns-then-most-eq0-clause-put
returns-then-most-eq0-clause-put g t c =
    let held = g.O.Holds.held c.args.out.now in
    sym (ap (λ (l : List ℕ). put l held) (no_digit c.args.most c.args.n c.if-most-eq0.true) ∙ put_none held)

pub returns-then-n-lt10-clause-put : goal.returns-then-n-lt10-clause-put
returns-then-n-lt10-clause-put g t c =
    let a = c.args in
    let held = g.O.Holds.held a.out.now in
    c.put_byte.ensures ∙ ap (λ (d : ℕ). put (d ∷ []) held) c.digit.ensures
    ∙ ap (λ (l : List ℕ). put l held) (sym (one_digit a.most a.n c.if-most-eq0.false c.if-n-lt10.true))

pub returns-else-n-lt10-clause-put : goal.returns-else-n-lt10-clause-put
returns-else-n-lt10-clause-put g t c =
    let a = c.args in
    let room = g.O.Holds in
    let held = room.held a.out.now in
    held_and_then held (decimal_in (a.most - 1) (a.n / 10)) _ c.put_decimal_in.ensures.put
    (c.put_byte-else-n-lt10.ensures ∙ ap (λ (d : ℕ). put (d ∷ []) (room.held c.put_decimal_in.new.out)) c.digit-else-n-lt10.ensures)
    ∙ ap (λ (l : List ℕ). put l held) (sym (more_digits a.most a.n c.if-most-eq0.false c.if-n-lt10.false))

pub returns-then-n-lt10-clause-text_bound : goal.returns-then-n-lt10-clause-text_bound
returns-then-n-lt10-clause-text_bound g t c =
    let room = g.O.Holds in
    let longer = longer_put _ (room.held c.args.out.now) (room.held c.put_byte.new.self) c.put_byte.ensures in
    omega (arith, longer, c.if-most-eq0.false)

pub returns-else-n-lt10-clause-text_bound : goal.returns-else-n-lt10-clause-text_bound
returns-else-n-lt10-clause-text_bound g t c =
    let room = g.O.Holds in
    let last = c.put_byte-else-n-lt10 in
    let longer = longer_put _ (room.held c.put_decimal_in.new.out) (room.held last.new.self) last.ensures in
    omega (arith, longer, c.put_decimal_in.ensures.text_bound, c.if-most-eq0.false)
