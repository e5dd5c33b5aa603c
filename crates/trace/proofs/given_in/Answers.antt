-- `trace::given_in` meets its contract: each part is read where the layout has it. Assumes nothing.
use Rattle.std.proofs.Common.{arith}
use Rattle.std.proofs.lemmas.Bool.Decides.{nat_tests}
use Rattle.trace.specs.Call.{given_in}
use Rattle.trace.proofs.given_in.Goals as goal

pub returns-then-bytes-eq-BEGIN_SIZE : goal.returns-then-bytes-eq-BEGIN_SIZE
unfolding given_in
returns-then-bytes-eq-BEGIN_SIZE c = grind (arith, nat_tests)

pub returns-else-bytes-eq-BEGIN_SIZE : goal.returns-else-bytes-eq-BEGIN_SIZE
unfolding given_in
returns-else-bytes-eq-BEGIN_SIZE c = grind (arith, nat_tests)
