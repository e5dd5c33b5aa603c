-- What a call over a row promises, of any row, call, now, bytes, out buffer and answer row.
use Rattle.std.specs.Prelude.{ℕ, ◌^◌, ◌<◌, ◌≡◌, true, false, List, ◌∷◌, length, take, drop}
use Rattle.field.specs.Row.{fields_of, Bytes}
use Rattle.clock.specs.declared.Count.{Count}
use Rattle.calls.specs.declared.Call.{Call}
use Rattle.calls.specs.Calls.{rule_of, outcome_of, made, delivered_of}
use Rattle.promises.specs.Promises.{◌among◌, callers_fault}
use Rattle.connection_row.specs.Row.{stands_for}
use Rattle.connection_row.specs.Stored.{row_refusal}
use Rattle.row_calls.specs.Answer.{answer_widths, answer_numbers, place_of}
use Rattle.row_calls.specs.RowCalls.{refused_rows, LeftIn, stored, leaves_in, made_in}

-- ROW-6: what a call is given is made of machine numbers: begin's first number and period; its settings are judged (CALL-104)
abbrev pub GivenRanges : Call → Type 0
GivenRanges (Call.Begin g) = (g.own.number < 2 ^ 16) × (g.own.period < 2 ^ 32)
GivenRanges Call.Receive = Unit {0}
GivenRanges Call.Send = Unit {0}
GivenRanges Call.Tick = Unit {0}
GivenRanges Call.Close = Unit {0}

-- ROW-6: a row of bytes, a count of 32 bits and bytes lent: what a machine can pass
pub record Passed (call : Call) (row : List ℕ) (now : Count) (lent : List ℕ) : Type 0 where
  pub row_bytes_lem : Bytes row
  pub count : now.0 < 2 ^ 32
  pub lent_bytes : Bytes lent
  pub given : GivenRanges call

-- ROW-6: the numbers that a call over a row answers: 109 in the place of 101, which stands first of each call's
abbrev pub row_numbers : Call → List ℕ
row_numbers call = 109 ∷ drop 1 (rule_of call).numbers

-- DEMAND-1, CALL-KEPT: no byte of the row, of the out buffer or of the answer row is another
pub record NothingChanges (row out answer_row : List ℕ) (left : LeftIn) : Type 0 where
  pub same_row : left.said.row ≡ row
  pub same_out : left.out ≡ out
  pub same_answer : left.said.answer ≡ answer_row

module _ (call : Call) (row : List ℕ) (now : Count) (lent out answer_row : List ℕ) where
  -- ROW-6: neither row is refused: the row after it stands for the next connection of the call by value, and is accepted in its turn
  pub record Moves : Type 0 where
    pub same_number : (made_in call row now lent out answer_row).said.number
        ≡ (outcome_of call (stands_for row) now lent (length out)).number
    pub same_out : (made_in call row now lent out answer_row).out ≡ (made call (stands_for row) now lent out).out
    pub next : Passed call row now lent
        → stands_for (made_in call row now lent out answer_row).said.row ≡ (outcome_of call (stands_for row) now lent (length out)).next
    pub accepted : Passed call row now lent → row_refusal (made_in call row now lent out answer_row).said.row ≡ 0
    pub bytes : Passed call row now lent → Bytes (made_in call row now lent out answer_row).said.row
    -- ROW-7: with any answer but a caller's fault, the answer row's fields are the answer's
    pub answer_row_lem : callers_fault (made_in call row now lent out answer_row).said.number ≡ false
        → fields_of answer_widths (made_in call row now lent out answer_row).said.answer 0
        ≡ answer_numbers (made call (stands_for row) now lent out).called.answer

  -- DEMAND-1 of a call over a row
  pub record RowPromises : Type 0 where
    -- CALL-109: first of all
    pub refused : refused_rows row (length answer_row) ≡ true
        → made_in call row now lent out answer_row ≡ leaves_in (stored 109 row answer_row) out
    pub moves : refused_rows row (length answer_row) ≡ false → Moves
    pub number_listed : (made_in call row now lent out answer_row).said.number among row_numbers call ≡ true
    pub refusal_changes_nothing : callers_fault (made_in call row now lent out answer_row).said.number ≡ true
        → NothingChanges row out answer_row (made_in call row now lent out answer_row)

-- ROW-8: the delivered part is the one of so many bytes from that place in the message on
abbrev pub DeliveredPart : Type 0
DeliveredPart = (message : List ℕ) (n : ℕ) → take n (drop (place_of n) message) ≡ delivered_of message n
