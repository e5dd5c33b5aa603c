-- `trace::call_of` meets its contract, a kind after the other. Assumes nothing.
use Rattle.std.proofs.Common.{arith}
use Rattle.std.proofs.lemmas.Bool.Decides.{nat_tests}
use Rattle.trace.specs.Call.{call_of}
use Rattle.trace.proofs.call_of.Goals as goal

pub returns-in-1 : goal.returns-in-1
unfolding call_of
returns-in-1 c = grind (arith, nat_tests)

pub returns-in-2 : goal.returns-in-2
unfolding call_of
returns-in-2 c = grind (arith, nat_tests)

pub returns-in-3 : goal.returns-in-3
unfolding call_of
returns-in-3 c = grind (arith, nat_tests)

pub returns-in-4 : goal.returns-in-4
unfolding call_of
returns-in-4 c = grind (arith, nat_tests)

pub returns-in_default : goal.returns-in_default
unfolding call_of
returns-in_default c = grind (arith, nat_tests)
