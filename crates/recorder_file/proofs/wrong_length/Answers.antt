-- `recorder_file::wrong_length` meets its contract. Assumes nothing.
use Rattle.std.proofs.Common.{arith}
use Rattle.std.proofs.lemmas.Bool.Decides.{nat_tests}
use Rattle.connection.specs.Connection.{◌outside◌to◌}
use Rattle.trace.specs.Record.{length_over}
use Rattle.recorder_file.specs.Said.{wrong_length}
use Rattle.recorder_file.proofs.wrong_length.Goals as goal

pub returns-in-6 : goal.returns-in-6
unfolding wrong_length length_over ◌outside◌to◌
returns-in-6 c = grind (arith, nat_tests)

pub returns-in_default : goal.returns-in_default
unfolding wrong_length length_over ◌outside◌to◌
returns-in_default c = grind (arith, nat_tests)
