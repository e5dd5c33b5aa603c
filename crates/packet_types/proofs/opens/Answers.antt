-- `packet_types::opens` meets its contract: what the row of the type says.
-- Assumes nothing.
use mathlib.Core.Path.{ap, ◌∙◌}
use Rattle.packet_types.specs.Types.{numbered_zero, opens}
use Rattle.packet_types.proofs.opens.Goals as goal

pub returns : goal.returns
unfolding opens
returns c = c.numbered_zero.ensures ∙ ap numbered_zero c.type_row.ensures
