-- `text::digits_of` meets its contract: the digits of each byte come behind those of the bytes before it. Assumes nothing.
use Rattle.std.proofs.Common.{◌+◌, ◌*◌, sym, ◌∙◌, arith, length-set, set, get_or}
use Rattle.text.proofs.Line.{made_more, one_more_lem, no_more_lem}
use Rattle.text.proofs.digits_of.Goals as goal

pub loop-i-preserved : goal.loop-i-preserved
loop-i-preserved c =
    let l = c.loop-i in
    let high = c.digit.result in
    let low = c.digit-in-loop-i.result in
    let were = l.invariant in (
      length-set l.high l.i high ∙ were.0,
      (
        length-set l.low l.i low ∙ were.1.0,
        made_more c.args.s.now l.high l.low l.i high low (omega (arith, were.0)) (omega (arith, were.1.0)) c.digit.ensures c.digit-in-loop-i.ensures were.1.1,
      ),
    )

pub loop-place-preserved : goal.loop-place-preserved
loop-place-preserved c =
    let l = c.loop-place in
    let high = get_or c.loop-i.high l.place 0 in
    let low = get_or c.loop-i.low l.place 0 in
    let made = c.loop-i.invariant.1.1 l.place (omega arith) in (
      length-set (set l.digits (2 * l.place) high) (2 * l.place + 1) low ∙ length-set l.digits (2 * l.place) high ∙ l.invariant.0,
      one_more_lem c.args.s.now l.digits l.place high low (omega arith) (omega (arith, l.invariant.0)) made.0 made.1 ∙ l.invariant.1,
    )

pub returns : goal.returns
returns c =
    let l = c.loop-place in
    sym (no_more_lem c.args.s.now l.digits l.place (omega arith) (omega (arith, l.invariant.0))) ∙ l.invariant.1
