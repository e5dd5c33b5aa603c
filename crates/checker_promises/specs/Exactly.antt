-- The promise to the inspector: each verdict is said exactly where it is true of the file as it is written.
-- Assumes nothing.
use Rattle.std.specs.Prelude.{ℕ, suc, ◌+◌, ◌≡◌, List, [], ◌∷◌, ◌++◌, length}
use Rattle.field.specs.Row.{Bytes}
use Rattle.connection.specs.declared.Connection.{Connection}
use Rattle.trace.specs.Record.{size_of}
use Rattle.trace.specs.Call.{made_on}
use Rattle.trace.specs.declared.Record.{Record}
use Rattle.replay_lines.specs.Replay.{any_out}
use Rattle.recorder_file.specs.Said.{difference_told, bad_told}
use Rattle.recorder_file.specs.Check.{start_of, checked_of}
use Rattle.recorder_file.specs.declared.Verdict.TheVariants.{Agrees, Differs, Bad}
use Rattle.checker_promises.specs.File.{
  Entry,
  whole_record,
  answer_record,
  entry_bytes,
  file_of,
  CallStands,
  AnswerStands,
  EntryStands,
  AllStand,
  IsRight,
  AllRight,
  table_after,
  judged_in,
}
use Rattle.checker_promises.specs.File.Entry.{alone, answered}

-- TRACE-5: the table before the first call
abbrev pub closed_table : List Connection
closed_table = start_of.table

-- CHECKER-8, CHECKER-12: no record is bad, and each answer that was recorded is right; n of them were
pub record AgreesWith (file : List ℕ) (n : ℕ) : Type 0 where
  pub entries : List Entry
  pub is : file ≡ file_of entries
  pub stand : AllStand entries
  pub right : AllRight closed_table entries
  pub judged : judged_in entries ≡ n

-- CHECKER-9, CHECKER-12: no record is bad up to a recorded answer that is not right; all before it are; and its call is the n-th of all
pub record DiffersAt (file : List ℕ) (n : ℕ) : Type 0 where
  pub before : List Entry
  pub call : Record
  pub bytes : List ℕ
  pub recorded : List ℕ
  pub rest : List ℕ
  pub is : file ≡ file_of before ++ (entry_bytes (answered call bytes recorded) ++ rest)
  pub stand : AllStand before
  pub stands : EntryStands (answered call bytes recorded)
  pub right : AllRight closed_table before
  pub wrong : IsRight (table_after closed_table before) (answered call bytes recorded) → ⊥
  pub place : suc (length before) ≡ n

-- CHECKER-2: the bytes behind an entry are no answer to it, since it has one, or since no record of an answer with its slot and now stands
-- there:
abbrev pub NotItsAnswer : Entry → List ℕ → Type 0
NotItsAnswer (answered call bytes recorded) rest = Unit {0}
NotItsAnswer (alone call bytes) rest =
    (recorded more : List ℕ) → AnswerStands recorded → rest ≡ whole_record (answer_record call recorded) recorded ++ more → ⊥

-- the same of the last of them
abbrev pub NoAnswerToTheLast : List Entry → List ℕ → Type 0
NoAnswerToTheLast [] rest = Unit {0}
NoAnswerToTheLast (e ∷ []) rest = NotItsAnswer e rest
NoAnswerToTheLast (e ∷ f ∷ es) rest = NoAnswerToTheLast (f ∷ es) rest

-- CHECKER-4, CHECKER-5, CHECKER-10: up to some bytes no record is bad and each recorded answer is right; and what stands there is neither a
-- call nor the answer to the call before it
pub record BadAt (file : List ℕ) : Type 0 where
  pub before : List Entry
  pub rest : List ℕ
  pub is : file ≡ file_of before ++ rest
  pub stand : AllStand before
  pub right : AllRight closed_table before
  pub some : rest ≡ [] → ⊥
  pub no_call : (call : Record) (bytes more : List ℕ) → CallStands call bytes → rest ≡ whole_record call bytes ++ more → ⊥
  pub no_answer : NoAnswerToTheLast before rest

-- the one holds where the other does
abbrev pub Exactly : Type 0 → Type 0 → Type 0
Exactly one other = (one → other) × (other → one)

-- CHECKER-12: each verdict, of any file of bytes:
abbrev pub AgreesExactly : Type 0
AgreesExactly = (file : List ℕ) → Bytes file → (n : ℕ) → Exactly ((checked_of file).verdict ≡ Agrees n) (AgreesWith file n)

abbrev pub DiffersExactly : Type 0
DiffersExactly = (file : List ℕ) → Bytes file → (n : ℕ) → Exactly ((checked_of file).verdict ≡ Differs n) (DiffersAt file n)

abbrev pub BadExactly : Type 0
BadExactly = (file : List ℕ) → Bytes file → Exactly ((checked_of file).verdict ≡ Bad) (BadAt file)

-- CHECKER-13, CHECKER-14: what a person is told: nothing where it agrees; else the record, counted from 1 over calls and answers, and the
-- bytes before it; and for a difference what was recorded and what the call's outcome on the table gives:
abbrev pub TellsOfAgreement : Type 0
TellsOfAgreement = (file : List ℕ) (n : ℕ) → AgreesWith file n → (checked_of file).told ≡ []

abbrev pub TellsOfDifference : Type 0
TellsOfDifference = (file : List ℕ) (n : ℕ) (d : DiffersAt file n) → (checked_of file).told ≡
    difference_told (length d.before + judged_in d.before + 2) (length (file_of d.before) + size_of d.call) d.recorded
    (made_on (table_after closed_table d.before) d.call d.bytes any_out).answer
    (made_on (table_after closed_table d.before) d.call d.bytes any_out).out

abbrev pub TellsOfBad : Type 0
TellsOfBad = (file : List ℕ) → Bytes file → (b : BadAt file) → (checked_of file).told ≡
    bad_told (length b.before + judged_in b.before + 1) (length (file_of b.before)) b.rest
