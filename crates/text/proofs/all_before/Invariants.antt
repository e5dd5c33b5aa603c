-- `text::all_before`: the bytes that were passed are as they were before, so the answer is that of the bytes left.
use Rattle.std.proofs.Common.{◌≡◌, drop}
use Rattle.text.specs.Line.{all_before}
use Rattle.text.proofs.all_before.Given as goal

abbrev pub invariant-loop-b : goal.invariant-loop-b
invariant-loop-b l = all_before (drop l.b-index l.rest) ≡ all_before l.rest
