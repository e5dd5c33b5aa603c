-- `bench_loops::check_by_bits` meets its contract: the bytes go in one after the other. Assumes nothing.
use Rattle.std.proofs.Common.{rules}
use Rattle.packet.proofs.Register.{folds_in}
use Rattle.bench_loops.proofs.check_by_bits.Goals as goal

pub returns : goal.returns
returns c = search (rules, folds_in)
