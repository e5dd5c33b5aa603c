-- The bounds of CALL-109 as rows, in one claim.
-- Assumes nothing.
use lib.Dec.{T}
use Rattle.field.specs.Field.{field_of, bytes_of}
use Rattle.connection.specs.Connection.{◌outside◌to◌, out_of_range, unsound}
use Rattle.connection_row.specs.Row.{stands_for}
use Rattle.connection_row.specs.Stored.{zeros, row_refusal}
use Rattle.row_promises.specs.Cases.{row_cases, all_get}

pub rows_on_both_sides : T (all_get row_cases)
unfolding field_of bytes_of ◌outside◌to◌ out_of_range unsound stands_for zeros row_refusal
rows_on_both_sides = tt
