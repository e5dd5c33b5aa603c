-- What the checker says of a recorder file: the verdict in one line, and for a person where it stopped and why.
-- Assumes nothing.
use Rattle.std.specs.Prelude.{ℕ, ◌+◌, Bool, List, [], ◌∷◌, ◌++◌, eqb, ltb, length, take}
use Rattle.rules.specs.Rows.{when◌answer◌else◌}
use Rattle.clock.specs.declared.Age.{Age}
use Rattle.connection.specs.Connection.{◌outside◌to◌}
use Rattle.calls.specs.declared.Answer.{Answer}
use Rattle.text.specs.Ascii.{ascii}
use Rattle.text.specs.Line.{number_word, most_number, age_word, most_age, bytes_word, most_bytes_word}
use Rattle.trace.specs.Record.{fields_at, fields_size, begin_kind, wrong_mark, length_over, cut_record}
use Rattle.trace.specs.Call.{room}
use Rattle.trace.specs.declared.Record.{Record}
use Rattle.recorded_answer.specs.Answer.{answer_kind, answer_fields_size, most_answer_bytes, recorded_fields, recorded_written}
use Rattle.recorder_file.specs.declared.Verdict.{Verdict}
use Rattle.recorder_file.specs.declared.Verdict.TheVariants.{Agrees, Differs, Bad}

-- CHECKER-8, CHECKER-9, CHECKER-10: the line of a verdict, and the most bytes of it:
abbrev pub line_of : Verdict → List ℕ
line_of (Agrees judged) = ascii "agrees" ++ number_word judged ++ ascii "\n"
line_of (Differs place) = ascii "differs" ++ number_word place ++ ascii "\n"
line_of Bad = ascii "bad\n"

abbrev pub most_verdict : ℕ
most_verdict = 7 + most_number + 1

-- CHECKER-13: the record at which it stopped, counted from 1, and the offset of its first byte; and the most bytes of it:
abbrev pub place_line : ℕ → ℕ → List ℕ
place_line nth offset = ascii "record" ++ number_word nth ++ ascii ", byte offset" ++ number_word offset

abbrev pub most_place : ℕ
most_place = 6 + most_number + 13 + most_number

-- CHECKER-4, CHECKER-5: a length that its kind may not have
unfoldable pub wrong_length : Record → Bool
wrong_length r =
    when eqb r.kind answer_kind answer r.length outside answer_fields_size to most_answer_bytes else
    length_over r

-- CHECKER-13: why a record is bad, the first that holds; and the most bytes of it:
unfoldable pub why_bad : List ℕ → List ℕ
why_bad s =
    when ltb (length s) fields_size answer ascii ": cut record\n" else
    when wrong_mark (fields_at s) answer ascii ": wrong mark\n" else
    when (fields_at s).kind outside begin_kind to answer_kind answer ascii ": unknown kind\n" else
    when wrong_length (fields_at s) answer ascii ": wrong length\n" else
    when cut_record s (fields_at s) answer ascii ": cut record\n" else
    ascii ": no call of its slot and now directly before it\n"

abbrev pub most_why : ℕ
most_why = 49

-- CHECKER-14: the words of an answer's number and release, and the most bytes of them:
abbrev pub number_words : ℕ → ℕ → List ℕ
number_words number released = ascii " answer" ++ number_word number ++ ascii " released" ++ number_word released

abbrev pub most_number_words : ℕ
most_number_words = 7 + most_number + 9 + most_number

-- CHECKER-14: those of its age and of the bytes written, and the most bytes of them:
abbrev pub age_words : Age → List ℕ → List ℕ
age_words age written = ascii " age" ++ age_word age ++ ascii " written" ++ bytes_word written ++ ascii "\n"

abbrev pub most_age_words : ℕ
most_age_words = 4 + most_age + 8 + most_bytes_word room + 1

-- CHECKER-14: an answer, and the most bytes of it:
abbrev pub answer_words : ℕ → ℕ → Age → List ℕ → List ℕ
answer_words number released age written = number_words number released ++ age_words age written

abbrev pub most_answer_words : ℕ
most_answer_words = most_number_words + most_age_words

-- CHECKER-14: what was recorded, and what the rules give:
abbrev pub recorded_line : List ℕ → List ℕ
recorded_line recorded =
    ascii "recorded:" ++ answer_words (recorded_fields recorded).number (recorded_fields recorded).released (recorded_fields recorded).age
    (recorded_written recorded)

abbrev pub rules_line : Answer → List ℕ → List ℕ
rules_line a out = ascii "the rules:" ++ answer_words a.number (when a.released answer 1 else 0) a.age (take a.written out)

-- CHECKER-13, CHECKER-14: all that is told of a difference, and the most bytes of it:
abbrev pub difference_told : ℕ → ℕ → List ℕ → Answer → List ℕ → List ℕ
difference_told nth offset recorded a out =
    place_line nth offset ++ ascii ": not the answer that the rules give\n" ++ recorded_line recorded ++ rules_line a out

abbrev pub most_difference : ℕ
most_difference = most_place + 37 + (9 + most_answer_words) + (10 + most_answer_words)

-- CHECKER-13: all that is told of a bad record
abbrev pub bad_told : ℕ → ℕ → List ℕ → List ℕ
bad_told nth offset s = place_line nth offset ++ why_bad s

-- CHECKER-8 to CHECKER-14: the most bytes that are said
abbrev pub most_said : ℕ
most_said = most_verdict + most_difference

-- CHECKER-8, CHECKER-13: what goes to standard output: the first line of what is said; all that follows goes to standard error
abbrev pub first_line : List ℕ → List ℕ
first_line [] = []
first_line (b ∷ s) =
    when eqb b 10 answer (b ∷ []) else
    (b ∷ first_line s)
