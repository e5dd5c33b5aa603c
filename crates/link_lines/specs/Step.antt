-- A step in a file of steps: its layout, said once, and the most text that is put for one.
-- Assumes nothing.
use Rattle.std.specs.Prelude.{ℕ, ◌+◌, ◌*◌, ◌≤◌, List, [], ◌∷◌, length, get_or}
use Rattle.field.specs.Row.{width_of}
use Rattle.text.specs.Line.{most_number, most_bytes_word}
use Rattle.recording.specs.Printed.{most_line}
use Rattle.link_lines.specs.declared.one_step.Step.{Step}

-- flags, last number, normal place, redundant place, our own id, normal size, redundant size, size of the list of callers; the bytes of
-- both links and the list follow them
abbrev pub step_widths : List ℕ
step_widths = 1 ∷ 2 ∷ 4 ∷ 4 ∷ 4 ∷ 2 ∷ 2 ∷ 2 ∷ []

-- how many bytes these fields take
abbrev pub step_fields_size : ℕ
step_fields_size = width_of step_widths

-- the step of these fields, in this order
abbrev pub step_from : List ℕ → Step
step_from fields =
    record {
      flags = get_or fields 0 0;
      last = get_or fields 1 0;
      normal_place = get_or fields 2 0;
      redundant_place = get_or fields 3 0;
      ours = get_or fields 4 0;
      normal_size = get_or fields 5 0;
      redundant_size = get_or fields 6 0;
      callers_size = get_or fields 7 0;
    }

-- the most bytes of a link: what its size, a field of two bytes, can say
abbrev pub most_link : ℕ
most_link = 65535

-- both links are no longer
abbrev pub NoLonger : List ℕ → List ℕ → Type 0
NoLonger normal redundant = (length normal ≤ most_link) × (length redundant ≤ most_link)

-- the most text of a step: the word `state` and four numbers
abbrev pub most_state_text : ℕ
most_state_text = 5 + 4 * most_number

-- three numbers, and the end of the line
abbrev pub most_place_text : ℕ
most_place_text = 3 * most_number + 1

-- the word `data`, so many bytes of it, and the end of the line
abbrev pub most_data_text : ℕ → ℕ
most_data_text size = 4 + most_bytes_word size + 1

-- the three lines, with so many bytes of data
abbrev pub most_taken_text : ℕ → ℕ
most_taken_text size = most_line + most_state_text + most_place_text + most_data_text size

-- and these lines twice, as the links are lent and by readers
abbrev pub most_step_text : ℕ
most_step_text = 2 * most_taken_text most_link
