-- A message in a file of messages: its layout, said once, and the most text that is put for one.
-- Assumes nothing.
use Rattle.std.specs.Prelude.{ℕ, ◌+◌, ◌*◌, List, [], ◌∷◌}
use Rattle.field.specs.Row.{width_of}
use Rattle.text.specs.Text.{most_digits}
use Rattle.text.specs.Line.{most_number, most_offset, most_written_words}

-- how many bytes the message has; they follow
abbrev pub message_widths : List ℕ
message_widths = 2 ∷ []

-- how many bytes this field takes
abbrev pub message_fields_size : ℕ
message_fields_size = width_of message_widths

-- the most room of an out buffer that a message is written to
abbrev pub most_message_room : ℕ
most_message_room = 2048

-- the most text of a message: the header's five numbers, the first of them at the front of the line
abbrev pub most_header_text : ℕ
most_header_text = most_digits + 4 * most_number

-- two offsets, which are the most that a type has after its header
abbrev pub most_after_text : ℕ
most_after_text = 2 * most_offset

-- the word `=`, and what was written back
abbrev pub most_back_text : ℕ
most_back_text = 2 + most_written_words most_message_room

-- the whole line
abbrev pub most_message_text : ℕ
most_message_text = most_header_text + most_after_text + most_back_text + 1
