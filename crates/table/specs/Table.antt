-- The table of connections: a lent slice of 1 to 64 records, and a slot.
use Rattle.std.specs.Prelude.{ℕ, Bool, ◌||◌, List, ltb, leb, eqb, length, set, get_or}
use Rattle.rules.specs.Rows.{when◌answer◌else◌}
use Rattle.clock.specs.declared.Count.{Count}
use Rattle.connection.specs.declared.Connection.{Connection}
use Rattle.connection.specs.Connection.{all_zero}
use Rattle.calls.specs.declared.Call.{Call}
use Rattle.calls.specs.Calls.{refusal, Leaves, made}
pub use Rattle.table.specs.Left.{LeftAt, leaves_at}

-- TABLE-1: as many records a table has at most
abbrev pub most_records : ℕ
most_records = 64

-- TABLE-1, CALL-101: a table has 1 to 64 records; a slot is an index
unfoldable pub bad_slot : ℕ → ℕ → Bool
bad_slot size slot = eqb size 0 || ltb most_records size || leb size slot

-- TABLE-1: that slot's record
abbrev pub record_at : List Connection → ℕ → Connection
record_at table slot = get_or table slot all_zero

-- TABLE-2: what the call on one record left, its record stored in that slot
abbrev pub stored_at : List Connection → ℕ → Leaves → LeftAt
stored_at table slot left = leaves_at left.called.answer (set table slot left.called.next) left.out

-- TABLE-2, CALL-101: what any call on a slot leaves; a bad slot is refused, and nothing changes (CALL-KEPT)
unfoldable pub made_at : List Connection → ℕ → Call → Count → List ℕ → List ℕ → LeftAt
made_at table slot call now lent out =
    when bad_slot (length table) slot answer leaves_at (refusal 101) table out else
    stored_at table slot (made call (record_at table slot) now lent out)
