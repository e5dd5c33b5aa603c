-- `packet_types::in_class_d` meets its contract: what the row of the type says.
-- Assumes nothing.
use mathlib.Core.Path.{ap, ◌∙◌}
use Rattle.packet_types.specs.Types.{has_class_d, in_class_d}
use Rattle.packet_types.proofs.in_class_d.Goals as goal

pub returns : goal.returns
unfolding in_class_d
returns c = c.has_class_d.ensures ∙ ap has_class_d c.type_row.ensures
