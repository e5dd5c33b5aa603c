-- `recording::id_of` meets its contract: after so many digits the id is their number, below 16 ^ that, and the digits left decide.
-- Assumes nothing.
use Rattle.std.proofs.Common.{◌≡◌, ◌≤◌, ◌∙◌, ap, length, get_or, arith}
use Rattle.std.specs.Prelude.{None, Some}
use lib.ListN.{drop_of_length-le}
use Rattle.recording.specs.Ids.{digit_value}
use Rattle.recording.proofs.Ids.{value_below, low, no_digit, a_digit, not_eight, eight, digits}
use Rattle.recording.proofs.id_of.Goals as goal

pub returns-then-word-ne-ID_DIGITS : goal.returns-then-word-ne-ID_DIGITS
returns-then-word-ne-ID_DIGITS c = not_eight c.args.word.now c.if-word-ne-ID_DIGITS.true

pub overflow_mul-id : goal.overflow_mul-id
overflow_mul-id c = omega (arith, low c.loop-byte.byte-index (omega arith), c.loop-byte.invariant.0)

pub returns-in_err-digit_value : goal.returns-in_err-digit_value
returns-in_err-digit_value c =
    let word = c.args.word.now in
    let l = c.loop-byte in
    let none : None ≡ digit_value (get_or word l.byte-index 0) = c.in_err-digit_value.ensures in
    c.from_residual.ensures ∙ no_digit word l.byte-index l.id (omega arith) none ∙ l.invariant.1 ∙ eight word c.if-word-ne-ID_DIGITS.false

pub overflow_add-id : goal.overflow_add-id
overflow_add-id c =
    let l = c.loop-byte in
    let value : Some c.from.result ≡ digit_value (get_or c.args.word.now l.byte-index 0) = ap Some c.from.ensures ∙ c.in_ok-digit_value.ensures in
    omega (arith, low l.byte-index (omega arith), l.invariant.0, value_below (get_or c.args.word.now l.byte-index 0) c.from.result value)

pub loop-byte-preserved : goal.loop-byte-preserved
loop-byte-preserved c =
    let word = c.args.word.now in
    let l = c.loop-byte in
    let value : Some c.from.result ≡ digit_value (get_or word l.byte-index 0) = ap Some c.from.ensures ∙ c.in_ok-digit_value.ensures in
    let more = a_digit word l.byte-index l.id (omega arith) c.from.result value l.invariant.0 in
    (more.0, more.1 ∙ l.invariant.1)

pub returns : goal.returns
returns c =
    let word = c.args.word.now in
    let l = c.loop-byte in
    let past : length word ≤ l.byte-index = omega arith in
    digits word c.if-word-ne-ID_DIGITS.false l.id (rw drop_of_length-le at l.invariant.1)
