-- What is said at the end has no more bytes than the most that are counted.
-- Assumes nothing.
use Prim.Native.Nat.{ℕ, ◌≤◌}
use mathlib.Core.Bool.{Bool, true, false}
use mathlib.Core.List.{List, [], ◌∷◌, ◌++◌}
use native.Mathlib.Omega.{arith}
use lib.Dec.{ltb}
use lib.IntN.{pos, nat_abs}
use lib.ListN.{length, take, length-append, length-take, length-drop}
use lib.Signed.{lt_z}
use Rattle.rules.specs.Rows.{when◌answer◌else◌}
use Rattle.clock.specs.declared.Age.{Age}
use Rattle.connection.specs.Connection.{◌outside◌to◌}
use Rattle.calls.specs.declared.Answer.{Answer}
use Rattle.text.specs.Ascii.{ascii}
use Rattle.text.specs.Text.{decimal_of}
use Rattle.text.specs.Line.{number_word, most_number, age_word, bytes_word, most_bytes_word, digits_of}
use Rattle.text.proofs.Line.{two_each}
use Rattle.trace.specs.Record.{fields_at, fields_size, begin_kind, wrong_mark, cut_record}
use Rattle.trace.specs.Call.{room}
use Rattle.replay_lines.specs.Lines.{decimal_fits, signed_fits}
use Rattle.recorded_answer.specs.Answer.{answer_kind, answer_fields_size, most_answer_bytes, recorded_fields, recorded_written}
use Rattle.recorder_file.specs.Said.{
  line_of,
  most_verdict,
  place_line,
  most_place,
  wrong_length,
  why_bad,
  most_why,
  number_words,
  most_number_words,
  age_words,
  most_age_words,
  answer_words,
  most_answer_words,
  recorded_line,
  rules_line,
  difference_told,
  most_difference,
  bad_told,
}
use Rattle.recorder_file.specs.declared.Verdict.{Verdict}
use Rattle.recorder_file.specs.declared.Verdict.TheVariants.{Agrees, Differs, Bad}

number_fits : (n : ℕ) → length (number_word n) ≤ most_number
number_fits n = omega (arith, decimal_fits n, length-append (ascii " ") (decimal_of n))

bytes_fit : (s : List ℕ) → length s ≤ room → length (bytes_word s) ≤ most_bytes_word room
bytes_fit [] h = omega arith
bytes_fit (b ∷ s) h = omega (arith, h, two_each (b ∷ s), length-append (ascii " ") (digits_of (b ∷ s)))

pub verdict_fits : (v : Verdict) → length (line_of v) ≤ most_verdict
verdict_fits (Agrees n) =
    omega (
      arith,
      number_fits n,
      length-append (ascii "agrees") (number_word n),
      length-append (ascii "agrees" ++ number_word n)
          (ascii "\n"),
    )
verdict_fits (Differs n) =
    omega (
      arith,
      number_fits n,
      length-append (ascii "differs") (number_word n),
      length-append (ascii "differs" ++ number_word n)
          (ascii "\n"),
    )
verdict_fits Bad = omega arith

place_fits : (nth offset : ℕ) → length (place_line nth offset) ≤ most_place
place_fits nth offset =
    let one = ascii "record" ++ number_word nth in
    let two = one ++ ascii ", byte offset" in
    omega (
      arith,
      number_fits nth,
      number_fits offset,
      length-append (ascii "record") (number_word nth),
      length-append one (ascii ", byte offset"),
      length-append two (number_word offset),
    )

-- a reason, by its tests
why_in_lem : (short mark kind wrong cut : Bool) → length (
    when short answer ascii ": cut record\n" else
    when mark answer ascii ": wrong mark\n" else
    when kind answer ascii ": unknown kind\n" else
    when wrong answer ascii ": wrong length\n" else
    when cut answer ascii ": cut record\n" else
    ascii ": no call of its slot and now directly before it\n") ≤ most_why
why_in_lem true mark kind wrong cut = omega arith
why_in_lem false true kind wrong cut = omega arith
why_in_lem false false true wrong cut = omega arith
why_in_lem false false false true cut = omega arith
why_in_lem false false false false true = omega arith
why_in_lem false false false false false = omega arith

pub why_fits : (s : List ℕ) → length (why_bad s) ≤ most_why
unfolding why_bad
why_fits s =
    let r = fields_at s in
    why_in_lem (ltb (length s) fields_size) (wrong_mark r) (r.kind outside begin_kind to answer_kind) (wrong_length r) (cut_record s r)

numbers_fit : (number released : ℕ) → length (number_words number released) ≤ most_number_words
numbers_fit number released =
    let one = ascii " answer" ++ number_word number in
    let two = one ++ ascii " released" in
    omega (
      arith,
      number_fits number,
      number_fits released,
      length-append (ascii " answer") (number_word number),
      length-append one (ascii " released"),
      length-append two (number_word released),
    )

age_fits : (age : Age) (written : List ℕ) → length written ≤ room → length (age_words age written) ≤ most_age_words
age_fits age written h =
    let one = ascii " age" ++ age_word age in
    let two = one ++ ascii " written" in
    let three = two ++ bytes_word written in
    omega (
      arith,
      signed_fits (lt_z age.0 (pos 0)) (nat_abs age.0),
      bytes_fit written h,
      length-append (ascii " age") (age_word age),
      length-append one (ascii " written"),
      length-append two (bytes_word written),
      length-append three (ascii "\n"),
    )

answer_fits : (number released : ℕ) (age : Age) (written : List ℕ) → length written ≤ room
    → length (answer_words number released age written) ≤ most_answer_words
answer_fits number released age written h =
    omega (arith, numbers_fit number released, age_fits age written h, length-append (number_words number released) (age_words age written))

pub bad_told_fits : (nth offset : ℕ) (s : List ℕ) → length (bad_told nth offset s) ≤ most_difference
bad_told_fits nth offset s = omega (arith, place_fits nth offset, why_fits s, length-append (place_line nth offset) (why_bad s))

pub difference_fits : (nth offset : ℕ) (recorded : List ℕ) (a : Answer) (out : List ℕ) → length recorded ≤ most_answer_bytes → length out
    ≤ room
    → length (difference_told nth offset recorded a out) ≤ most_difference
difference_fits nth offset recorded a out h k =
    let f = recorded_fields recorded in
    let released : ℕ = when a.released answer 1 else 0 in
    let few : length (recorded_written recorded) ≤ room = omega (arith, h, length-drop answer_fields_size recorded) in
    let some : length (take a.written out) ≤ room = omega (arith, k, length-take a.written out) in
    let place = place_line nth offset ++ ascii ": not the answer that the rules give\n" in
    omega (
      arith,
      place_fits nth offset,
      answer_fits f.number f.released f.age (recorded_written recorded) few,
      answer_fits a.number released a.age (take a.written out) some,
      length-append (place_line nth offset) (ascii ": not the answer that the rules give\n"),
      length-append (ascii "recorded:") (answer_words f.number f.released f.age (recorded_written recorded)),
      length-append (ascii "the rules:") (answer_words a.number released a.age (take a.written out)),
      length-append place (recorded_line recorded),
      length-append (place ++ recorded_line recorded) (rules_line a out),
    )
