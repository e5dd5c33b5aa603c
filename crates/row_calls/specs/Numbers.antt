-- A row's fields as numbers, for a host that looks into a row or makes one.
use Rattle.std.specs.Prelude.{ℕ, ◌^◌, Bool, true, false, not, ◌&&◌, List, [], ◌∷◌, ltb, eqb, length}
use Rattle.std.proofs.lemmas.List.Edits.{sets}
use Rattle.rules.specs.Rows.{when◌answer◌else◌}
use Rattle.field.specs.Row.{fields_of}
use Rattle.connection_row.specs.Row.{row_widths, connection_from}
use Rattle.connection_row.specs.Stored.{row_refusal, Wrote, wrote, row_written}

-- ROW-9: how many fields a row has
abbrev pub field_count : ℕ
field_count = length row_widths

-- ROW-9: the fields of a row as numbers; CALL-109 of the row, CALL-108 where there is no room for them
unfoldable pub fields_read : List ℕ → List ℕ → Wrote
fields_read row fields =
    when not (eqb (row_refusal row) 0) answer wrote (row_refusal row) fields else
    when ltb (length fields) field_count answer wrote 108 fields else
    wrote 0 (sets fields 0 (fields_of row_widths row 0))

-- ROW-10: a number for each field, and none too large for its bytes
unfoldable pub fits : List ℕ → List ℕ → Bool
fits [] [] = true
fits [] (x ∷ xs) = false
fits (w ∷ ws) [] = false
fits (w ∷ ws) (x ∷ xs) = ltb x (256 ^ w) && fits ws xs

-- ROW-10: the record of these numbers is written; CALL-109 also where they are not the numbers of a row
unfoldable pub fields_written : List ℕ → List ℕ → Wrote
fields_written fields row =
    when not (fits row_widths fields) answer wrote 109 row else
    row_written (connection_from fields) row
