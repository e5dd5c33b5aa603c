-- `text::digits_of`: the digits of the first bytes are made, each at the place of its byte; then those that are left come behind those that are there.
use Rattle.std.proofs.Common.{◌≡◌, ◌++◌, ◌*◌, length, take, drop}
use Rattle.text.specs.Line.{digits_of}
use Rattle.text.proofs.Line.{MadeTo}
use Rattle.text.proofs.digits_of.Given as goal

abbrev pub invariant-loop-i : goal.invariant-loop-i
invariant-loop-i l = (length l.high ≡ length l.s) × ((length l.low ≡ length l.s) × MadeTo l.s l.high l.low l.i)

abbrev pub invariant-loop-place : goal.invariant-loop-place
invariant-loop-place l =
    (length l.digits ≡ 2 * length l.s)
    × (take (2 * l.place) l.digits ++ digits_of (drop l.place l.s) ≡ digits_of l.s)
