-- `message::parse` meets its contract: a listed total has room for what stands behind the header, and no shorter total is listed.
-- Assumes nothing.
use Rattle.std.proofs.Common.{sym, ◌∙◌}
use Rattle.message.proofs.Rows.{fields_within}
use Rattle.message.proofs.Steps.{parsed_short}
use Rattle.message.proofs.parse.Goals as goal

pub returns-then-s-lt-HEADER_SIZE : goal.returns-then-s-lt-HEADER_SIZE
returns-then-s-lt-HEADER_SIZE c = sym (parsed_short c.args.s.now c.if-s-lt-HEADER_SIZE.true)

pub tail_of-requires : goal.tail_of-requires
tail_of-requires c = fields_within _ _ _ c.table_of-row.ensures (sym c.lists.ensures ∙ c.if-lists.true)
