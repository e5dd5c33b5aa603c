-- A call in a file of calls on tables: its layout, said once, and the most text that is put for one.
-- Assumes nothing.
use Rattle.std.specs.Prelude.{ℕ, ◌+◌, ◌*◌, List, [], ◌∷◌, get_or}
use Rattle.field.specs.Row.{width_of}
use Rattle.lent_table.specs.LentTable.{records}
use Rattle.call_lines.specs.Record.{most_record_text}
use Rattle.call_lines.specs.Call.{most_answer_text}
use Rattle.call_lines.specs.declared.one_table.OneTable.{OneTable}

-- owner, count of the records, how many of them are lent, kind, both halves of the slot, now, room, size; the records and the bytes
-- follow them
abbrev pub table_widths : List ℕ
table_widths = 1 ∷ 1 ∷ 1 ∷ 1 ∷ 4 ∷ 4 ∷ 4 ∷ 2 ∷ 2 ∷ []

-- how many bytes these fields take
abbrev pub table_fields_size : ℕ
table_fields_size = width_of table_widths

-- the call of these fields, in this order
abbrev pub table_from : List ℕ → OneTable
table_from fields =
    record {
      owner = get_or fields 0 0;
      count = get_or fields 1 0;
      lent = get_or fields 2 0;
      kind = get_or fields 3 0;
      slot_high = get_or fields 4 0;
      slot_low = get_or fields 5 0;
      now = record { 0 = get_or fields 6 0 };
      room = get_or fields 7 0;
      size = get_or fields 8 0;
    }

-- the most text of a call: the answer, the records, and the end of the line
abbrev pub most_table_text : ℕ
most_table_text = most_answer_text + records * most_record_text + 1
