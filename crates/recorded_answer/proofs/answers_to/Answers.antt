-- `recorded_answer::answers_to` meets its contract. Assumes nothing.
use Rattle.std.proofs.Common.{arith}
use Rattle.std.proofs.lemmas.Bool.Decides.{nat_tests}
use Rattle.connection.specs.Connection.{◌outside◌to◌}
use Rattle.trace.specs.Record.{wrong_mark}
use Rattle.recorded_answer.specs.Answer.{answers_to}
use Rattle.recorded_answer.proofs.answers_to.Goals as goal

pub returns-then-eq : goal.returns-then-eq
unfolding answers_to wrong_mark ◌outside◌to◌
returns-then-eq c = grind (arith, nat_tests)

pub returns-else-eq : goal.returns-else-eq
unfolding answers_to wrong_mark ◌outside◌to◌
returns-else-eq c = grind (arith, nat_tests)
