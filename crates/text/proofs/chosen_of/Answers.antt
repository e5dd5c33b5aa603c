-- `text::chosen_of` meets its contract. Assumes nothing.
use Rattle.std.proofs.Common.{ℕ, ◌≡◌, ◌∙◌, sym, ap, true, false, drop, arith, List, None, nat_eq, drop_of_length-le}
use lib.Pointwise.{pointwise}
use Rattle.text.specs.Text.{same_word, chosen_of}
use Rattle.text.proofs.Words.{compared, chosen_here, chosen_later}
use Rattle.text.proofs.chosen_of.Goals as goal

pub returns-then-eq : goal.returns-then-eq
returns-then-eq g c =
    let item = c.loop-other-item in
    let same : same_word c.args.word.now item.result.0.now ≡ true =
    sym (compared c.args.word.now item.result.0.now) ∙ sym c.eq.ensures ∙ c.if-eq.true in
    sym (chosen_here c.args.word.now c.args.words.now c.loop-other.other-index item.result c.loop-other-test.true item.is same)
    ∙ c.loop-other.invariant

pub loop-other-preserved : goal.loop-other-preserved
loop-other-preserved g c =
    let item = c.loop-other-item in
    let other : same_word c.args.word.now item.result.0.now ≡ false =
    sym (compared c.args.word.now item.result.0.now) ∙ sym c.eq.ensures ∙ c.if-eq.false in
    sym (chosen_later c.args.word.now c.args.words.now c.loop-other.other-index item.result c.loop-other-test.true item.is other)
    ∙ c.loop-other.invariant

pub returns : goal.returns
unfolding chosen_of
returns g c =
    let a = c.args in
    sym (ap (chosen_of a.word.now) (drop_of_length-le a.words.now {i = c.loop-other.other-index} (omega arith))) ∙ c.loop-other.invariant
