-- `recorded_answer::answer_behind` meets its contract. Assumes nothing.
use Rattle.std.proofs.Common.{arith}
use Rattle.std.proofs.lemmas.Bool.Decides.{nat_tests}
use Rattle.trace.specs.Record.{cut_record}
use Rattle.recorded_answer.specs.Answer.{behind_of}
use Rattle.recorded_answer.proofs.answer_behind.Goals as goal

pub returns-then-s-lt-FIELDS_SIZE : goal.returns-then-s-lt-FIELDS_SIZE
unfolding behind_of cut_record
returns-then-s-lt-FIELDS_SIZE c = grind (arith, nat_tests)

pub returns-then-a-s : goal.returns-then-a-s
unfolding behind_of cut_record
returns-then-a-s c = grind (arith, nat_tests)

pub returns-else-answers_to : goal.returns-else-answers_to
unfolding behind_of cut_record
returns-else-answers_to c = grind (arith, nat_tests)
