-- A table that is the first part of a slice of records.
use Rattle.std.specs.Prelude.{ℕ, List, ◌++◌}
use Rattle.connection.specs.declared.Connection.{Connection}
use Rattle.table.specs.Table.{LeftAt, leaves_at}

-- TABLE-1: the records of a program, one more than a table has at most
abbrev pub records : ℕ
records = 65

-- TABLE-3: what a call on the first records left, and behind them the others, which no call has
abbrev pub behind : LeftAt → List Connection → LeftAt
behind left others = leaves_at left.answer (left.table ++ others) left.out
