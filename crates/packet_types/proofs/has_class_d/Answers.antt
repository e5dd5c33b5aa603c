-- `packet_types::has_class_d` meets its contract: the cell of class D.
-- Assumes nothing.
use borrow.Author.Rules.{rules}
use Rattle.packet_types.specs.Types.{classes_of}
use Rattle.packet_types.proofs.has_class_d.Goals as goal

pub returns : goal.returns
unfolding classes_of
returns c = search rules
