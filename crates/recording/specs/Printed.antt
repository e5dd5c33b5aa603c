-- CUT-1: what `cut` prints, a heading, a line for each step, and how many packets were handed up.
-- Assumes nothing.
use Rattle.std.specs.Prelude.{ℕ, ◌+◌, ◌*◌, Bool, cond, List, ◌++◌}
use Rattle.text.specs.Ascii.{ascii}
use Rattle.text.specs.Line.{number_word, most_number}
use Rattle.links.specs.declared.Taken.{Taken}

-- CUT-1: the first line
abbrev pub heading : List ℕ
heading = ascii "link answer used type number data\n"

-- the link that the answer names
abbrev pub link_name : Bool → List ℕ
link_name normal = cond normal (ascii "normal") (ascii "redundant")

-- type, number and count of user data bytes of what is handed up
abbrev pub handed_up_text : ℕ → ℕ → ℕ → List ℕ
handed_up_text kind number size = number_word kind ++ number_word number ++ number_word size ++ ascii "\n"

-- CUT-1: link answer used type number data
abbrev pub line_of : Taken → List ℕ
line_of taken =
    link_name taken.normal ++ number_word taken.answer ++ number_word taken.used
    ++ handed_up_text taken.kind taken.number taken.size

-- CUT-1: the most bytes of a link's name; of three numbers and the end of the line; and of a line, a link's name, two numbers, and those:
abbrev pub most_link_name : ℕ
most_link_name = 9

abbrev pub most_handed_up : ℕ
most_handed_up = 3 * most_number + 1

abbrev pub most_line : ℕ
most_line = most_link_name + 2 * most_number + most_handed_up
