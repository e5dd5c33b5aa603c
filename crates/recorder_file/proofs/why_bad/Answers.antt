-- `recorder_file::why_bad` meets its contract: a test after the other. Assumes nothing.
use Rattle.std.proofs.Common.{arith}
use Rattle.std.proofs.lemmas.Bool.Decides.{nat_tests}
use Rattle.connection.specs.Connection.{◌outside◌to◌}
use Rattle.trace.specs.Record.{wrong_mark, cut_record}
use Rattle.recorder_file.specs.Said.{why_bad}
use Rattle.recorder_file.proofs.why_bad.Goals as goal

pub returns-then-s-lt-FIELDS_SIZE : goal.returns-then-s-lt-FIELDS_SIZE
unfolding why_bad wrong_mark cut_record ◌outside◌to◌
returns-then-s-lt-FIELDS_SIZE c = grind (arith, nat_tests)

pub returns-then-r-ne-MARK : goal.returns-then-r-ne-MARK
unfolding why_bad wrong_mark cut_record ◌outside◌to◌
returns-then-r-ne-MARK c = grind (arith, nat_tests)

pub returns-then-not-contains : goal.returns-then-not-contains
unfolding why_bad wrong_mark cut_record ◌outside◌to◌
returns-then-not-contains c = grind (arith, nat_tests)

pub returns-then-wrong_length : goal.returns-then-wrong_length
unfolding why_bad wrong_mark cut_record ◌outside◌to◌
returns-then-wrong_length c = grind (arith, nat_tests)

pub returns-then-s-r : goal.returns-then-s-r
unfolding why_bad wrong_mark cut_record ◌outside◌to◌
returns-then-s-r c = grind (arith, nat_tests)

pub returns-else-s-r : goal.returns-else-s-r
unfolding why_bad wrong_mark cut_record ◌outside◌to◌
returns-else-s-r c = grind (arith, nat_tests)
