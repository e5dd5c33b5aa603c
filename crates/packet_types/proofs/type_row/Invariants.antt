-- `packet_types::type_row` meets its contract: of the rows that were looked at, the first of the type is kept.
-- Assumes nothing.
use Rattle.std.proofs.Common.{◌≡◌, map, reverse}
use Rattle.packet_types.specs.Types.{row_in}
use Rattle.packet_types.proofs.type_row.Given as goal

abbrev pub invariant-loop-row : goal.invariant-loop-row
invariant-loop-row l = l.found ≡ row_in l.kind (reverse (map (λ row. row.now) l.yielded))
