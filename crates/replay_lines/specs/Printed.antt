-- What the replay prints: a heading, a line for each record, `bad` where a record is bad, and how many records came before.
-- Assumes nothing.
use Rattle.std.specs.Prelude.{ℕ, ◌+◌, List, ◌++◌}
use Rattle.clock.specs.declared.Age.{Age}
use Rattle.text.specs.Ascii.{ascii}
use Rattle.text.specs.Text.{most_digits, decimal_of}
use Rattle.text.specs.Line.{number_word, most_number, age_word, most_age, end_of}

-- TRACE-13: the first line, and a line for each record; the last, which counts them, is `end_of`:
abbrev pub heading : List ℕ
heading = ascii "slot answer age\n"

abbrev pub line_of : ℕ → ℕ → Age → List ℕ
line_of slot number age = decimal_of slot ++ number_word number ++ age_word age ++ ascii "\n"

-- TRACE-12: the line of a bad record; TRACE-14: the last line stands behind it
abbrev pub bad_of : ℕ → List ℕ
bad_of count = ascii "bad\n" ++ end_of count

-- TRACE-13: the most bytes that are put at a turn: the slot, the answer and the age, and the end of the line
abbrev pub most_line : ℕ
most_line = most_digits + most_number + most_age + 1
