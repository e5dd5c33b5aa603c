-- `recorder_file::line_size` meets its contract: the first line ends behind the first byte 10. Assumes nothing.
use Rattle.std.proofs.Common.{arith, sym}
use Rattle.recorder_file.proofs.Checks.{ends_at, never_ends}
use Rattle.recorder_file.proofs.line_size.Goals as goal

pub returns-in-Some : goal.returns-in-Some
returns-in-Some c = ends_at c.args.said.now c.in-Some.end (sym c.in-Some.ensures)

pub returns-in-None : goal.returns-in-None
returns-in-None c = (never_ends c.args.said.now (sym c.in-None.ensures), omega arith)
