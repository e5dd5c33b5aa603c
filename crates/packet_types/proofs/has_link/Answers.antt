-- `packet_types::has_link` meets its contract: the cell of the link. Assumes nothing.
use Rattle.std.proofs.Common.{rules}
use Rattle.packet_types.specs.Types.{links_of}
use Rattle.packet_types.proofs.has_link.Goals as goal
use Rattle.packet_types.proofs.has_link.Goals.{then-normal, else-normal}

pub returns : goal.returns
unfolding links_of
returns c = elim c.if-normal.branch [ then-normal w ↦ search rules | else-normal w ↦ search rules ]
