-- A recorder file as it is written: calls, each alone or with its recorded answer behind it; and when all recorded answers are right.
-- Assumes nothing.
use Rattle.std.specs.Prelude.{ℕ, suc, ◌^◌, ◌≤◌, ◌<◌, ◌≡◌, List, [], ◌∷◌, ◌++◌, length}
use Rattle.field.specs.Row.{row_of}
use Rattle.connection.specs.declared.Connection.{Connection}
use Rattle.table.specs.Table.{LeftAt}
use Rattle.trace.specs.Record.{widths, mark, begin_kind, close_kind, most_record_bytes}
use Rattle.trace.specs.Call.{made_on}
use Rattle.trace.specs.declared.Record.{Record}
use Rattle.replay_lines.specs.Replay.{any_out}
use Rattle.recorded_answer.specs.Answer.{answer_kind, answer_fields_size, most_answer_bytes, answer_bytes}

-- CHECKER-2, CHECKER-7: a call's record with its bytes, alone or with the bytes of its recorded answer
pub data Entry : Type 0 where
  alone : (call : Record) (bytes : List ℕ) → Entry
  answered : (call : Record) (bytes recorded : List ℕ) → Entry

-- TRACE-1: a record's fields in their order, and the bytes of a whole record:
abbrev pub fields_in : Record → List ℕ
fields_in r = r.mark ∷ r.kind ∷ r.slot ∷ r.now.0 ∷ r.length ∷ []

abbrev pub whole_record : Record → List ℕ → List ℕ
whole_record r bytes = row_of widths (fields_in r) ++ bytes

-- CHECKER-1, CHECKER-2: the record of an answer repeats its call's slot and now
abbrev pub answer_record : Record → List ℕ → Record
answer_record call recorded = record { mark = mark; kind = answer_kind; slot = call.slot; now = call.now; length = length recorded }

-- the bytes of an entry, and of a file:
abbrev pub entry_bytes : Entry → List ℕ
entry_bytes (alone call bytes) = whole_record call bytes
entry_bytes (answered call bytes recorded) = whole_record call bytes ++ whole_record (answer_record call recorded) recorded

abbrev pub file_of : List Entry → List ℕ
file_of [] = []
file_of (e ∷ es) = entry_bytes e ++ file_of es

-- TRACE-1, TRACE-8 to TRACE-10: a call's record that is not bad: the mark, kinds 1 to 5, up to 1,000 bytes, each field in its width
pub record CallStands (r : Record) (bytes : List ℕ) : Type 0 where
  pub marked : r.mark ≡ mark
  pub first_kind : begin_kind ≤ r.kind
  pub last_kind : r.kind ≤ close_kind
  pub slot_fits : r.slot < 2 ^ 8
  pub now_fits : r.now.0 < 2 ^ 32
  pub size : length bytes ≡ r.length
  pub most : r.length ≤ most_record_bytes

-- CHECKER-3: an answer of 7 to 1,007 bytes
pub record AnswerStands (recorded : List ℕ) : Type 0 where
  pub least : answer_fields_size ≤ length recorded
  pub most : length recorded ≤ most_answer_bytes

-- an entry that is not bad, and none that is:
abbrev pub EntryStands : Entry → Type 0
EntryStands (alone call bytes) = CallStands call bytes
EntryStands (answered call bytes recorded) = CallStands call bytes × AnswerStands recorded

abbrev pub AllStand : List Entry → Type 0
AllStand [] = Unit {0}
AllStand (e ∷ es) = EntryStands e × AllStand es

-- TRACE-2, TRACE-6: the outcome of an entry's call on the table
abbrev pub outcome_on : List Connection → Entry → LeftAt
outcome_on table (alone call bytes) = made_on table call bytes any_out
outcome_on table (answered call bytes recorded) = made_on table call bytes any_out

-- CHECKER-6: what was recorded is the right answer: that of the call's own outcome on the table
abbrev pub IsRight : List Connection → Entry → Type 0
IsRight table (alone call bytes) = Unit {0}
IsRight table (answered call bytes recorded) =
    recorded ≡ answer_bytes (made_on table call bytes any_out).answer (made_on table call bytes any_out).out

-- each on the table that the calls before it left:
abbrev pub AllRight : List Connection → List Entry → Type 0
AllRight table [] = Unit {0}
AllRight table (e ∷ es) = IsRight table e × AllRight (outcome_on table e).table es

-- the table that they all leave:
abbrev pub table_after : List Connection → List Entry → List Connection
table_after table [] = table
table_after table (e ∷ es) = table_after (outcome_on table e).table es

-- CHECKER-8: how many answers were recorded
abbrev pub judged_in : List Entry → ℕ
judged_in [] = 0
judged_in (alone call bytes ∷ es) = judged_in es
judged_in (answered call bytes recorded ∷ es) = suc (judged_in es)
