-- trace/proofs/bad_fields/Answers.antt
-- `trace::bad_fields` meets its contract. Assumes nothing.
use Rattle.std.proofs.Common.{arith}
use Rattle.std.proofs.lemmas.Bool.Decides.{nat_tests}
use Rattle.connection.specs.Connection.{◌outside◌to◌}
use Rattle.trace.specs.Record.{wrong_mark, unknown_kind, length_over}
use Rattle.trace.proofs.bad_fields.Goals as goal

pub returns-then-not-contains : goal.returns-then-not-contains
unfolding wrong_mark unknown_kind length_over ◌outside◌to◌
returns-then-not-contains c = grind (arith, nat_tests)

pub returns-else-not-contains : goal.returns-else-not-contains
unfolding wrong_mark unknown_kind length_over ◌outside◌to◌
returns-else-not-contains c = grind (arith, nat_tests)
