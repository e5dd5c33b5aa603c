-- The check of a recorder file: its calls are replayed on the table, and each recorded answer is held against the one that the rules give.
-- Assumes nothing.
use Rattle.std.specs.Prelude.{ℕ, zero, suc, ◌+◌, ◌≡◌, true, false, List, [], ◌++◌, length, drop, replicate}
use Rattle.rules.specs.Rows.{when◌answer◌else◌}
use Rattle.connection.specs.declared.Connection.{Connection}
use Rattle.connection.specs.Connection.{all_zero}
use Rattle.table.specs.Table.{most_records, LeftAt}
use Rattle.pieces.specs.Machine.{Turn, Machine, prints_for}
use Rattle.trace.specs.Record.{record_of, size_of, record_bytes, most_record, fields_size}
use Rattle.trace.specs.Call.{made_on}
use Rattle.trace.specs.declared.Record.{Record}
use Rattle.trace.specs.declared.Next.{Next}
use Rattle.trace.specs.declared.Next.TheVariants as stands
use Rattle.recorded_answer.specs.Answer.{most_answer_bytes, is_right, behind_of}
use Rattle.std.specs.Prelude.{Option, Some, None}
use Rattle.replay_lines.specs.Replay.{any_out}
use Rattle.recorder_file.specs.Said.{line_of, difference_told, bad_told, most_said, first_line}
use Rattle.recorder_file.specs.declared.Verdict.{Verdict}
use Rattle.recorder_file.specs.declared.Verdict.TheVariants.{Agrees, Differs, Bad}
use Rattle.recorder_file.specs.declared.Passed.{Passed}
use Rattle.recorder_file.specs.declared.Progress.{Progress}

-- TRACE-5: 64 closed slots, and nothing passed
abbrev pub start_of : Progress
start_of = record { table = replicate most_records all_zero; passed = record { calls = 0; judged = 0; offset = 0 }; stopped = false }

-- What is said of a whole file: the verdict, and what a person is told.
pub record Checked : Type 0 where
  pub verdict : Verdict
  pub told : List ℕ

-- CHECKER-8, CHECKER-13: one text of both, the verdict in its first line
abbrev pub said_of : Checked → List ℕ
said_of c = line_of c.verdict ++ c.told

-- What is found at what stands first: the end of the check; or a call that may stand there, with the bytes that it and its answer take, how
-- many answers were judged, and the table that it leaves.
pub data Found : Type 0 where
  ends : Checked → Found
  passes : (used judged : ℕ) (table : List Connection) → Found

-- CHECKER-13: the number of the record that stands next: one more than all calls and answers before it
abbrev pub nth : Passed → ℕ
nth passed = passed.calls + passed.judged + 1

-- CHECKER-9: the place of the call, over all calls; CHECKER-13, CHECKER-14: the record of its answer, and both answers
abbrev pub difference : Passed → Record → List ℕ → LeftAt → Checked
difference passed r recorded left = record {
  verdict = Differs (passed.calls + 1);
  told = difference_told (nth passed + 1) (passed.offset + size_of r) recorded left.answer left.out;
}

-- CHECKER-6: a recorded answer is held against the one that the rules give
abbrev pub held_against : Passed → Record → Record → List ℕ → LeftAt → Found
held_against passed r a recorded left =
    when is_right recorded left.answer left.out answer passes (size_of r + size_of a) 1 left.table else
    ends (difference passed r recorded left)

-- CHECKER-7: a call without a recorded answer is replayed and not judged
abbrev pub found_at_call : Passed → Record → Option Record → List ℕ → LeftAt → Found
found_at_call passed r None behind left = passes (size_of r) 0 left.table
found_at_call passed r (Some a) behind left = held_against passed r a (record_bytes behind a) left

-- TRACE-2, TRACE-6: what the call of a record that stands first leaves on the table: the answer that the rules give
abbrev pub left_by : List Connection → Record → List ℕ → LeftAt
left_by table r rest = made_on table r (record_bytes rest r) any_out

-- CHECKER-8: at the end every recorded answer was right; CHECKER-5: what the replay calls bad is bad, and so is every record of kind 6 that
-- was not taken with the call before it (CHECKER-4)
abbrev pub found_on : Progress → Next → List ℕ → Found
found_on p stands.End rest = ends (record { verdict = Agrees p.passed.judged; told = [] })
found_on p stands.Bad rest = ends (record { verdict = Bad; told = bad_told (nth p.passed) p.passed.offset rest })
found_on p (stands.Whole r) rest =
    found_at_call p.passed r (behind_of r (drop (size_of r) rest)) (drop (size_of r) rest) (left_by p.table r rest)

-- the same of the bytes that are left of a file
abbrev pub found_of : Progress → List ℕ → Found
found_of p rest = found_on p (record_of rest) rest

-- what a call leaves in the out buffer that it is lent
abbrev pub leaves_out : Progress → Next → List ℕ → List ℕ → List ℕ
leaves_out p stands.End rest out = out
leaves_out p stands.Bad rest out = out
leaves_out p (stands.Whole r) rest out = (made_on p.table r (record_bytes rest r) out).out

-- how far the check is behind one call more
abbrev pub one_call_more : Passed → ℕ → ℕ → Passed
one_call_more passed used judged =
    record { calls = passed.calls + 1; judged = passed.judged + judged; offset = passed.offset + used }

-- all that is counted, as one number: no record takes fewer bytes than it counts
abbrev pub reckoned : Passed → ℕ
reckoned passed = passed.calls + passed.judged + passed.offset

-- CHECKER-11: the end of the check is its last turn, and all that it says; before it nothing is said
abbrev pub turn_by : Progress → Found → (List ℕ → List ℕ) → Turn Progress
turn_by p (ends c) lent =
    record { text = said_of c; used = 0; next = record { table = p.table; passed = p.passed; stopped = true }; lent = lent }
turn_by p (passes used judged table) lent =
    record {
      text = [];
      used = used;
      next = record { table = table; passed = one_call_more p.passed used judged; stopped = false };
      lent = lent;
    }

-- the turn on what stands first, and on the bytes that are left of a file:
abbrev pub turn_on : Progress → Next → List ℕ → Turn Progress
turn_on p first rest = turn_by p (found_on p first rest) (leaves_out p first rest)

abbrev pub turn_of : Progress → List ℕ → Turn Progress
turn_of p rest = turn_on p (record_of rest) rest

-- CHECKER-15: the most bytes that a turn looks at: a call and its answer
abbrev pub most_seen : ℕ
most_seen = most_record + (fields_size + most_answer_bytes)

-- CHECKER-15: the check as a machine
abbrev pub checker : Machine Progress
checker =
    record {
      first = start_of;
      heading = [];
      stopped = λ (p : Progress). p.stopped;
      turn = turn_of;
      most_seen = most_seen;
      most_text = most_said;
    }

-- what is said where the check ends, or of what follows
abbrev pub said_or_later : Found → Checked → Checked
said_or_later (ends c) later = c
said_or_later (passes used judged table) later = later

-- what is said in so many turns at the most
unfoldable pub checked_in : ℕ → Progress → List ℕ → Checked
checked_in zero p rest = record { verdict = Bad; told = [] }
checked_in (suc turns) p rest = said_or_later (found_of p rest) (checked_in turns (turn_of p rest).next (drop (turn_of p rest).used rest))

-- what is said from there on: a turn for each byte and one at the end are enough
abbrev pub checked_from : Progress → List ℕ → Checked
checked_from p rest = checked_in (suc (length rest)) p rest

-- They are enough: until it ends, the check goes on behind each call with the bytes that are left.
abbrev pub ChecksOn : Type 0
ChecksOn = (p : Progress) (rest : List ℕ)
    → checked_from p rest ≡ said_or_later (found_of p rest) (checked_from (turn_of p rest).next (drop (turn_of p rest).used rest))

-- CHECKER-8 to CHECKER-14: what is said of a whole recorder file
abbrev pub checked_of : List ℕ → Checked
checked_of file = checked_from start_of file

-- CHECKER-15: the machine prints what is said of the whole file
abbrev pub PrintsWhatIsSaid : Type 0
PrintsWhatIsSaid = (file : List ℕ) → prints_for checker file ≡ said_of (checked_of file)

-- CHECKER-8, CHECKER-13: the first line of what is said is the verdict's, and all that follows it is what a person is told
abbrev pub FirstLineIsTheVerdict : Type 0
FirstLineIsTheVerdict = (c : Checked)
    → (first_line (said_of c) ≡ line_of c.verdict) × (drop (length (first_line (said_of c))) (said_of c) ≡ c.told)

-- CHECKER-15: at the end of a run the out buffer holds what is said of the bytes that were read. Which bytes these are is not said of a
-- program: no contract can speak of what is read from a file.
pub record SaidOfTheFile (out : List ℕ) : Type 0 where
  pub read : List ℕ
  pub whole : out ≡ said_of (checked_of read)
