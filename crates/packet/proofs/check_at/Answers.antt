-- `packet::check_at` meets its contract: the bytes go in one after the other. Assumes nothing.
use Rattle.std.proofs.Common.{rules}
use Rattle.packet.proofs.Register.{folds_in}
use Rattle.packet.proofs.check_at.Goals as goal

pub returns : goal.returns
returns c = search (rules, folds_in)
