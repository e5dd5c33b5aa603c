-- A recorded answer: the record of kind 6 behind a call's, its bytes, and when it is the answer that the rules give.
-- Assumes nothing.
use Rattle.std.specs.Prelude.{ℕ, ◌+◌, Bool, not, ◌&&◌, List, [], ◌∷◌, ◌++◌, eqb, get_or, take, drop, pos, Option, Some, None}
use Rattle.rules.specs.Rows.{when◌answer◌else◌}
use Rattle.clock.specs.Clock.{wrapped, centred}
use Rattle.field.specs.Row.{fields_of, row_of, width_of}
use Rattle.connection.specs.Connection.{◌outside◌to◌}
use Rattle.calls.specs.declared.Answer.{Answer}
use Rattle.text.specs.Text.{same_word}
use Rattle.trace.specs.Record.{fields_at, wrong_mark, cut_record}
use Rattle.trace.specs.Call.{room}
use Rattle.trace.specs.declared.Record.{Record}
use Rattle.recorded_answer.specs.declared.Fields.{Fields}

-- CHECKER-1: the kind of a recorded answer
abbrev pub answer_kind : ℕ
answer_kind = 6

-- CHECKER-1: its bytes: the answer's number, released, and the reported age; the bytes that the call wrote follow them
abbrev pub answer_widths : List ℕ
answer_widths = 2 ∷ 1 ∷ 4 ∷ []

-- CHECKER-1, CHECKER-3: how many bytes these fields take, the least of an answer
abbrev pub answer_fields_size : ℕ
answer_fields_size = width_of answer_widths

-- CHECKER-3: 7 to 1,007 bytes
abbrev pub most_answer_bytes : ℕ
most_answer_bytes = answer_fields_size + room

-- CHECKER-1: the bytes of an answer, with what its call left in the out buffer: released is 1 or 0, the age in two's complement
abbrev pub answer_bytes : Answer → List ℕ → List ℕ
answer_bytes a out =
    row_of answer_widths (a.number ∷ (when a.released answer 1 else 0) ∷ wrapped a.age.0 ∷ []) ++ take a.written out

-- CHECKER-6: recorded bytes are right where they are those of the answer that the rules give
abbrev pub is_right : List ℕ → Answer → List ℕ → Bool
is_right recorded a out = same_word recorded (answer_bytes a out)

-- CHECKER-2, CHECKER-3: by its fields a record is the answer to a call: kind 6, with the call's slot and now, and 7 to 1,007 bytes
unfoldable pub answers_to : Record → Record → Bool
answers_to call a =
    not (wrong_mark a) && eqb a.kind answer_kind && eqb a.slot call.slot && eqb a.now.0 call.now.0
    && not (a.length outside answer_fields_size to most_answer_bytes)

-- CHECKER-2: what stands directly behind a call's record: its answer, whole, or none
unfoldable pub behind_of : Record → List ℕ → Option Record
behind_of call s =
    when answers_to call (fields_at s) && not (cut_record s (fields_at s)) answer Some (fields_at s) else
    None

-- CHECKER-14: the fields by their names, in this order; the bytes written stand behind them:
abbrev pub named : List ℕ → Fields
named fields = record {
  number = get_or fields 0 0;
  released = get_or fields 1 0;
  age = record { 0 = centred (pos (get_or fields 2 0)) };
}

abbrev pub recorded_fields : List ℕ → Fields
recorded_fields recorded = named (fields_of answer_widths recorded 0)

abbrev pub recorded_written : List ℕ → List ℕ
recorded_written recorded = drop answer_fields_size recorded

-- CHECKER-14: the same fields of the answer that the rules give
abbrev pub answer_fields : Answer → Fields
answer_fields a = record { number = a.number; released = when a.released answer 1 else 0; age = a.age }
