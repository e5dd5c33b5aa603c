-- What a listed total says of the bytes: how many are written, and which stand behind the header.
-- Assumes nothing.
use Prim.Native.Nat.{ℕ, ◌+◌, ◌≤◌}
use mathlib.Core.Path.{◌≡◌, refl, ◌∙◌}
use mathlib.Core.Bool.{true}
use mathlib.Core.List.{List, [], ◌++◌, append-nil}
use native.Mathlib.Omega.{arith}
use lib.ListN.{length, take, drop, length-drop}
use lib.Seq.{take_all}
use Rattle.field.specs.Field.{bytes_of}
use Rattle.field.specs.Row.{width_of}
use Rattle.message.specs.Table.{offset_start, offset_answ1, offset_answ2, offset_est, offset_end, header_size, table_of, lists, total_of}
use Rattle.message.specs.Layout.{widths_of}
use Rattle.message.specs.declared.Listed.{Listed}
use Rattle.message.specs.declared.Tail.{Tail}
use Rattle.message.proofs.Rows.{every_row, at_least, at_most}
use Rattle.message_writing.specs.Writing.{data_in, after_bytes}

-- a message of a listed total has that many bytes
pub sized : (type : ℕ) (t : Tail) (lent : List ℕ) → lists (table_of type) (total_of (table_of type) (length lent)) ≡ true
    → header_size + length (after_bytes (table_of type).after t lent) ≡ total_of (table_of type) (length lent)
unfolding table_of total_of bytes_of
sized type t lent =
    every_row (λ row. lists row (total_of row (length lent)) ≡ true → header_size + length (after_bytes row.after t lent) ≡ total_of row (length lent))
    (λ e. refl)
    (λ e. refl)
    (λ e. refl)
    (λ e. refl)
    (λ e. refl)
    (λ e. refl)
    (λ e. omega (arith, at_least _ _ e, at_most _ _ e))
    type

-- of a listed total, what stands behind the header is the fields and the data
pub rest_there : (type : ℕ) (s : List ℕ) → lists (table_of type) (length s) ≡ true
    → take (width_of (widths_of (table_of type).after)) (drop header_size s) ++ data_in (table_of type).after (drop header_size s) ≡ drop header_size s
unfolding table_of
rest_there type s =
    every_row (λ row. lists row (length s) ≡ true → take (width_of (widths_of row.after)) (drop header_size s) ++ data_in row.after (drop header_size s) ≡ drop header_size s)
    (all_fields (table_of offset_start) (omega arith))
    (all_fields (table_of offset_answ1) (omega arith))
    (all_fields (table_of offset_answ2) (omega arith))
    (all_fields (table_of offset_est) (omega arith))
    (all_fields (table_of offset_end) (omega arith))
    (λ e. refl)
    (all_fields (table_of 0) (omega arith))
    type
  where
    all_fields : (row : Listed) → row.most ≤ header_size + width_of (widths_of row.after) → lists row (length s) ≡ true
        → take (width_of (widths_of row.after)) (drop header_size s) ++ [] ≡ drop header_size s
    all_fields row h e =
        let w = width_of (widths_of row.after) in
        append-nil (take w (drop header_size s)) ∙ take_all w (drop header_size s) (omega (arith, length-drop header_size s, at_most row (length s) e))
