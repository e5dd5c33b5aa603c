-- `connection::outside` meets its contract. Assumes nothing.
use Rattle.std.proofs.Common.{rules}
use Rattle.connection.specs.Connection.{◌outside◌to◌}
use Rattle.connection.proofs.outside.Goals as goal

pub returns : goal.returns
unfolding ◌outside◌to◌
returns c = search (rules, c.contains.ensures)
