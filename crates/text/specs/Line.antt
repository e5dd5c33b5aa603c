-- The words of a line, each after a space: numbers, offsets, and bytes in hexadecimal.
-- Assumes nothing.
use Rattle.std.specs.Prelude.{ℕ, ◌+◌, ◌*◌, ◌/◌, ◌%◌, Bool, true, cond, ◌&&◌, List, [], ◌∷◌, ◌++◌, eqb, ℤ, pos, nat_abs, take, drop}
use Rattle.std.specs.Int.Signed.{lt_z}
use Rattle.text.specs.Ascii.{ascii}
use Rattle.text.specs.Text.{most_digits, digit, decimal_of}
use Rattle.clock.specs.declared.Age.{Age}
use Rattle.clock.specs.declared.Offset.{Offset}

-- a number, and the most bytes of it:
abbrev pub number_word : ℕ → List ℕ
number_word n = ascii " " ++ decimal_of n

abbrev pub most_number : ℕ
most_number = 1 + most_digits

-- TRACE-13, CUT-1: the last line, with a count; and the most bytes of it:
abbrev pub end_of : ℕ → List ℕ
end_of count = ascii "end" ++ number_word count ++ ascii "\n"

abbrev pub most_end : ℕ
most_end = 3 + most_number + 1

-- a size, after a minus where it is that of a negative number; and the most bytes of it:
abbrev pub signed_word : Bool → ℕ → List ℕ
signed_word negative size = cond negative (ascii " -") (ascii " ") ++ decimal_of size

abbrev pub most_signed : ℕ
most_signed = 2 + most_digits

-- a number that may be negative, by its size
abbrev pub centred_word : ℤ → List ℕ
centred_word z = signed_word (lt_z z (pos 0)) (nat_abs z)

-- an offset, and the most bytes of it:
abbrev pub offset_word : Offset → List ℕ
offset_word offset = centred_word offset.0

abbrev pub most_offset : ℕ
most_offset = most_signed

-- TRACE-13: an age, and the most bytes of it:
abbrev pub age_word : Age → List ℕ
age_word age = centred_word age.0

abbrev pub most_age : ℕ
most_age = most_signed

-- two digits for each byte
abbrev pub digits_of : List ℕ → List ℕ
digits_of [] = []
digits_of (b ∷ s) = digit (b / 16) ∷ digit (b % 16) ∷ digits_of s

-- bytes; a dash for none; and the most bytes of the word for so many:
abbrev pub bytes_word : List ℕ → List ℕ
bytes_word [] = ascii " -"
bytes_word (b ∷ s) = ascii " " ++ digits_of (b ∷ s)

abbrev pub most_bytes_word : ℕ → ℕ
most_bytes_word size = 2 + 2 * size

-- what each byte of a lent buffer is before it is written to
abbrev pub byte_before : ℕ
byte_before = 0xA5

-- each byte is what it was before
abbrev pub all_before : List ℕ → Bool
all_before [] = true
all_before (b ∷ s) = eqb b byte_before && all_before s

-- the bytes written at the start of a lent buffer, and where another byte of it changed the word for that; and the most bytes of these for
-- a buffer of this size:
abbrev pub written_words : List ℕ → ℕ → List ℕ
written_words lent written = bytes_word (take written lent) ++ cond (all_before (drop written lent)) [] (ascii " changed")

abbrev pub most_written_words : ℕ → ℕ
most_written_words size = most_bytes_word size + 8
