-- Recorder files worked through, byte by byte: a tick on a closed slot, which is answered 102, and what its recorded answer may be.
-- Assumes nothing.
use Rattle.std.specs.Prelude.{ℕ, ◌≡◌, List, [], ◌∷◌, ◌++◌}
use Rattle.text.specs.Ascii.{ascii}
use Rattle.recorder_file.specs.Check.{Checked, checked_of}
use Rattle.recorder_file.specs.declared.Verdict.TheVariants.{Agrees, Differs, Bad}

-- TRACE-1, TRACE-2: kind 4 on slot 0 at now 5, without bytes
abbrev pub tick : List ℕ
tick = 0x52 ∷ 0x32 ∷ 4 ∷ 0 ∷ 0 ∷ 0 ∷ 0 ∷ 5 ∷ 0 ∷ 0 ∷ []

-- CHECKER-1, CHECKER-2: the header of its answer, of so many bytes, and the answer 102, not released, of age 0, with nothing written:
abbrev pub answer_header : ℕ → List ℕ
answer_header length = 0x52 ∷ 0x32 ∷ 6 ∷ 0 ∷ 0 ∷ 0 ∷ 0 ∷ 5 ∷ 0 ∷ length ∷ []

abbrev pub right_answer : List ℕ
right_answer = answer_header 7 ++ (0 ∷ 102 ∷ 0 ∷ 0 ∷ 0 ∷ 0 ∷ 0 ∷ [])

-- the same with one field changed, with a byte less and a byte more:
abbrev pub wrong_number : List ℕ
wrong_number = answer_header 7 ++ (0 ∷ 105 ∷ 0 ∷ 0 ∷ 0 ∷ 0 ∷ 0 ∷ [])

abbrev pub wrong_released : List ℕ
wrong_released = answer_header 7 ++ (0 ∷ 102 ∷ 1 ∷ 0 ∷ 0 ∷ 0 ∷ 0 ∷ [])

abbrev pub wrong_age : List ℕ
wrong_age = answer_header 7 ++ (0 ∷ 102 ∷ 0 ∷ 255 ∷ 255 ∷ 255 ∷ 254 ∷ [])

abbrev pub longer : List ℕ
longer = answer_header 8 ++ (0 ∷ 102 ∷ 0 ∷ 0 ∷ 0 ∷ 0 ∷ 0 ∷ 0 ∷ [])

abbrev pub shorter : List ℕ
shorter = answer_header 6 ++ (0 ∷ 102 ∷ 0 ∷ 0 ∷ 0 ∷ 0 ∷ [])

-- what is said of a file whose recorded answer differs
abbrev pub said_of_difference : ℕ → List ℕ → Checked
said_of_difference place told =
    record { verdict = Differs place; told = told ++ ascii "the rules: answer 102 released 0 age 0 written -\n" }

-- CHECKER-1 to CHECKER-4, CHECKER-6 to CHECKER-10, CHECKER-13, CHECKER-14, on numbers
pub record WorkedFiles : Type 0 where
  pub none : checked_of [] ≡ record { verdict = Agrees 0; told = [] }
  pub right : checked_of (tick ++ right_answer) ≡ record { verdict = Agrees 1; told = [] }
  pub some : checked_of (tick ++ tick ++ right_answer ++ tick) ≡ record { verdict = Agrees 1; told = [] }
  pub number : checked_of (tick ++ wrong_number) ≡ said_of_difference 1
      (ascii "record 2, byte offset 10: not the answer that the rules give\nrecorded: answer 105 released 0 age 0 written -\n")
  pub released : checked_of (tick ++ wrong_released) ≡ said_of_difference 1
      (ascii "record 2, byte offset 10: not the answer that the rules give\nrecorded: answer 102 released 1 age 0 written -\n")
  pub age : checked_of (tick ++ wrong_age) ≡ said_of_difference 1
      (ascii "record 2, byte offset 10: not the answer that the rules give\nrecorded: answer 102 released 0 age -2 written -\n")
  pub more : checked_of (tick ++ longer) ≡ said_of_difference 1
      (ascii "record 2, byte offset 10: not the answer that the rules give\nrecorded: answer 102 released 0 age 0 written 00\n")
  pub place : checked_of (tick ++ tick ++ right_answer ++ tick ++ wrong_number) ≡ said_of_difference 3
      (ascii "record 5, byte offset 47: not the answer that the rules give\nrecorded: answer 105 released 0 age 0 written -\n")
  pub less : checked_of (tick ++ shorter) ≡ record { verdict = Bad; told = ascii "record 2, byte offset 10: wrong length\n" }
  pub first : checked_of (right_answer ++ tick) ≡
      record { verdict = Bad; told = ascii "record 1, byte offset 0: no call of its slot and now directly before it\n" }
  pub doubled : checked_of (tick ++ right_answer ++ right_answer) ≡
      record { verdict = Bad; told = ascii "record 3, byte offset 27: no call of its slot and now directly before it\n" }
