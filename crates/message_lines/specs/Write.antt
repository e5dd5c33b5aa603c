-- A message to be written, in a file of its fields: its layout, said once, and the most text that is put for one.
-- Assumes nothing.
use Rattle.std.specs.Prelude.{ℕ, ◌+◌, List, [], ◌∷◌, ◌++◌, get_or}
use Rattle.field.specs.Row.{width_of}
use Rattle.message.specs.Layout.{header_widths}
use Rattle.text.specs.Text.{most_digits}
use Rattle.text.specs.Line.{most_written_words}
use Rattle.message_lines.specs.Message.{most_message_room}
use Rattle.message_lines.specs.declared.one_write.Write.{Write}

-- the header as in a message; period, min, max, check byte, said size of the data, room, size; the data follows them
abbrev pub write_widths : List ℕ
write_widths = header_widths ++ (4 ∷ 4 ∷ 4 ∷ 1 ∷ 4 ∷ 2 ∷ 2 ∷ [])

-- how many bytes these fields take
abbrev pub write_fields_size : ℕ
write_fields_size = width_of write_widths

-- the message of these fields, in this order
abbrev pub write_from : List ℕ → Write
write_from fields =
    record {
      kind = get_or fields 0 0;
      number = get_or fields 1 0;
      stamp = get_or fields 2 0;
      last_peer_stamp = get_or fields 3 0;
      arrival = get_or fields 4 0;
      period = get_or fields 5 0;
      min = get_or fields 6 0;
      max = get_or fields 7 0;
      check = get_or fields 8 0;
      said = get_or fields 9 0;
      room = get_or fields 10 0;
      size = get_or fields 11 0;
    }

-- the most text of a message: how many bytes were written, what was written, and the end of the line
abbrev pub most_write_text : ℕ
most_write_text = most_digits + most_written_words most_message_room + 1
