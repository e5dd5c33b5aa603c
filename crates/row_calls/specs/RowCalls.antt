-- The five calls over a connection that the host keeps as a row of bytes.
use Rattle.std.specs.Prelude.{ℕ, Bool, not, ◌||◌, List, eqb, length, Option, Some, None}
use Rattle.rules.specs.Rows.{when◌answer◌else◌}
use Rattle.clock.specs.declared.Count.{Count}
use Rattle.connection.specs.declared.Connection.{Connection}
use Rattle.connection_row.specs.Row.{stands_for, row_bytes}
use Rattle.connection_row.specs.Stored.{row_refusal}
use Rattle.calls.specs.declared.Call.{Call}
use Rattle.calls.specs.declared.Called.{Called}
use Rattle.calls.specs.Calls.{made}
use Rattle.promises.specs.Promises.{callers_fault}
use Rattle.row_calls.specs.Answer.{answer_size, answer_bytes}
pub use Rattle.row_calls.specs.Left.{StoredIn, stored, LeftIn, leaves_in}

-- CALL-109: the row is refused, or the answer row has another length (ROW-7)
unfoldable pub refused_rows : List ℕ → ℕ → Bool
refused_rows row answer_length = not (eqb (row_refusal row) 0) || not (eqb answer_length answer_size)

-- CALL-109: the record that the row stands for, where neither is
unfoldable pub rows_read : List ℕ → ℕ → Option Connection
rows_read row answer_length =
    when refused_rows row answer_length answer None else
    Some (stands_for row)

-- ROW-6, ROW-7: what is stored of what a call on the record said and left; CALL-KEPT: with a caller's fault both rows stay
unfoldable pub stored_in : List ℕ → List ℕ → Called → StoredIn
stored_in row answer_row called =
    when callers_fault called.answer.number answer stored called.answer.number row answer_row else
    stored called.answer.number (row_bytes called.next) (answer_bytes called.answer)

-- ROW-6: what any call over a row leaves: CALL-109 in CALL-101's place, and nothing changes; else it is the call on the record that the
-- row stands for
unfoldable pub made_in : Call → List ℕ → Count → List ℕ → List ℕ → List ℕ → LeftIn
made_in call row now lent out answer_row =
    when refused_rows row (length answer_row) answer leaves_in (stored 109 row answer_row) out else
    leaves_in (stored_in row answer_row (made call (stands_for row) now lent out).called) (made call (stands_for row) now lent out).out
