-- CUT-5: the ids among the words that say how two links are cut, eight hexadecimal digits each.
-- Assumes nothing.
use Rattle.std.specs.Prelude.{ℕ, ◌+◌, ◌*◌, ◌-◌, Bool, not, ◌&&◌, List, [], ◌∷◌, Option, None, Some, option_and_then, eqb, leb, length}
use Rattle.rules.specs.Rows.{when◌answer◌else◌}

-- CUT-5: a byte is one of a range
abbrev pub between : ℕ → ℕ → ℕ → Bool
between least most byte = leb least byte && leb byte most

-- CUT-5: the value of a digit, 0 to 9, A to F or a to f, which are the bytes 48 to 57, 65 to 70 and 97 to 102; none of any other byte
unfoldable pub digit_value : ℕ → Option ℕ
digit_value byte =
    when (between 48 57 byte) answer Some (byte - 48) else
    when (between 65 70 byte) answer Some (byte - 65 + 10) else
    when (between 97 102 byte) answer Some (byte - 97 + 10) else
    None

-- CUT-5: the number that digits make behind a number, the highest first; none where a byte is no digit
abbrev pub number_behind : ℕ → List ℕ → Option ℕ
number_behind number [] = Some number
number_behind number (byte ∷ bytes) = option_and_then (λ value. number_behind (number * 16 + value) bytes) (digit_value byte)

-- CUT-5: how many digits an id has
abbrev pub id_digits : ℕ
id_digits = 8

-- CUT-5: the id that a word says; none where it is no id
unfoldable pub id_of : List ℕ → Option ℕ
id_of word =
    when (not (eqb (length word) id_digits)) answer None else
    number_behind 0 word
