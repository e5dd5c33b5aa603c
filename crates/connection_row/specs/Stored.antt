-- The rows that a host stores: which are refused, and what reading and writing one leaves.
use Rattle.std.specs.Prelude.{ℕ, Bool, true, not, ◌&&◌, List, [], ◌∷◌, ltb, eqb, length, Option, Some, None}
use Rattle.std.proofs.lemmas.List.Edits.{sets}
use Rattle.rules.specs.Rows.{when◌answer◌else◌}
use Rattle.connection.specs.declared.Connection.{Connection}
use Rattle.connection.specs.Connection.{closed, unsound}
use Rattle.connection_row.specs.Row.{row_size, stands_for, row_bytes}

-- ROW-3: each byte is 0
unfoldable pub zeros : List ℕ → Bool
zeros [] = true
zeros (b ∷ s) = eqb b 0 && zeros s

-- CALL-109, a row that is refused: of another length (ROW-2); closed and not all zero (ROW-3); not closed, with a setting or the phase out
-- of range or the error counter not under its limit (ROW-4)
unfoldable pub row_refusal : List ℕ → ℕ
row_refusal row =
    when not (eqb (length row) row_size) answer 109 else
    when eqb (stands_for row).phase closed && not (zeros row) answer 109 else
    when not (eqb (stands_for row).phase closed) && unsound (stands_for row) answer 109 else
    0

-- CALL-109: reading a row gives the record that it stands for, or refuses it
unfoldable pub row_read : List ℕ → Option Connection
row_read row =
    when eqb (row_refusal row) 0 answer Some (stands_for row) else
    None

-- What writing leaves: its answer's number, and what it was lent to write to.
pub record Wrote : Type 0 where
  pub number : ℕ
  pub lent : List ℕ

-- made here, of its parts
abbrev pub wrote : ℕ → List ℕ → Wrote
wrote number lent = record { number = number; lent = lent }

-- ROW-5: storing a row: CALL-109 where it is refused, CALL-108 where there is no room; what is behind it stays
unfoldable pub row_stored : List ℕ → List ℕ → Wrote
row_stored row out =
    when not (eqb (row_refusal row) 0) answer wrote (row_refusal row) out else
    when ltb (length out) row_size answer wrote 108 out else
    wrote 0 (sets out 0 row)

-- ROW-5: writing a record: its row is stored
abbrev pub row_written : Connection → List ℕ → Wrote
row_written c out = row_stored (row_bytes c) out
