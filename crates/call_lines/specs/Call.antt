-- A call in a file of calls: its layout, said once, and the most text that is put for one.
-- Assumes nothing.
use Rattle.std.specs.Prelude.{ℕ, ◌+◌, ◌≤◌, List, [], ◌∷◌, length, get_or}
use Rattle.field.specs.Row.{width_of}
use Rattle.connection_row.specs.Row.{row_size}
use Rattle.text.specs.Text.{most_digits}
use Rattle.text.specs.Line.{most_number, most_age, most_bytes_word, most_written_words}
use Rattle.call_lines.specs.Record.{most_record_text}
use Rattle.call_lines.specs.declared.one_call.OneCall.{OneCall}

-- behind the record: kind, now, room, size; the bytes follow them
abbrev pub call_widths : List ℕ
call_widths = 1 ∷ 4 ∷ 2 ∷ 2 ∷ []

-- how many bytes the record and these fields take
abbrev pub call_fields_size : ℕ
call_fields_size = row_size + width_of call_widths

-- the call of these fields, in this order
abbrev pub call_from : List ℕ → OneCall
call_from fields =
    record {
      kind = get_or fields 0 0;
      now = record { 0 = get_or fields 1 0 };
      room = get_or fields 2 0;
      size = get_or fields 3 0;
    }

-- the most bytes of a call
abbrev pub most_call_bytes : ℕ
most_call_bytes = 1024

-- the most room of an out buffer
abbrev pub most_call_room : ℕ
most_call_room = 1024

-- these bytes are no more, and this buffer has no more room
abbrev pub CallFits : List ℕ → List ℕ → Type 0
CallFits bytes lent = (length bytes ≤ most_call_bytes) × (length lent ≤ most_call_room)

-- the most text of an answer: its number and whether the slot was released
abbrev pub most_number_text : ℕ
most_number_text = most_digits + 2

-- where the part that is delivered starts, and its bytes
abbrev pub most_delivered_text : ℕ
most_delivered_text = most_number + most_bytes_word most_call_bytes

-- these, what was written between them, and the age behind them
abbrev pub most_answer_text : ℕ
most_answer_text = most_number_text + most_written_words most_call_room + most_delivered_text + most_age

-- the most text of a call: the answer, the record, and the end of the line
abbrev pub most_call_text : ℕ
most_call_text = most_answer_text + most_record_text + 1
