-- `trace::record_of` meets its contract. Assumes nothing.
use Rattle.std.proofs.Common.{arith}
use Rattle.std.proofs.lemmas.Bool.Decides.{nat_tests}
use Rattle.trace.specs.Record.{cut_record, record_of}
use Rattle.trace.proofs.record_of.Goals as goal

pub returns-then-is_empty : goal.returns-then-is_empty
unfolding record_of
returns-then-is_empty c = grind (arith, nat_tests)

pub returns-then-s-lt-FIELDS_SIZE : goal.returns-then-s-lt-FIELDS_SIZE
unfolding cut_record record_of
returns-then-s-lt-FIELDS_SIZE c = grind (arith, nat_tests)

pub returns-then-s-r : goal.returns-then-s-r
unfolding cut_record record_of
returns-then-s-r c = grind (arith, nat_tests)

pub returns-else-s-r : goal.returns-else-s-r
unfolding cut_record record_of
returns-else-s-r c = grind (arith, nat_tests)
