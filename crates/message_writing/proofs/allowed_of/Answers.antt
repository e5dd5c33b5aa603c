-- `message_writing::allowed_of` meets its contract: a total of the table is no more than usize holds.
-- Assumes nothing.
use Rattle.message_writing.proofs.Steps.{room_for}
use Rattle.message_writing.proofs.allowed_of.Goals as goal

pub total_of-requires : goal.total_of-requires
total_of-requires c = room_for _ _ _ c.table_of-row.ensures c.requires
