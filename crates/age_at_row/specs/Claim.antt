-- DEMAND-3 of a receive over a row, as C calls it, and of what C reads in the answer row.
use Rattle.std.specs.Prelude.{ℕ, ◌+◌, ◌^◌, ◌<◌, ◌≡◌, false, List, ℤ, pos, ◌+ℤ◌, ◌-ℤ◌, take, drop, get_or, ◌≤ℤ◌, Some}
use Rattle.clock.specs.Clock.{centred}
use Rattle.field.specs.Row.{fields_of}
use Rattle.message.specs.Read.{parsed_of}
use Rattle.message.specs.declared.Header.{Header}
use Rattle.message.specs.declared.Tail.{Tail}
use Rattle.message.specs.Layout.{whole}
use Rattle.connection.specs.declared.Settings.{Settings}
use Rattle.connection.specs.Connection.{opened}
use Rattle.connection_row.specs.Row.{stands_for}
use Rattle.calls.specs.declared.Call.{Call}
use Rattle.calls.specs.Calls.{delivered_of}
use Rattle.promises.specs.Promises.{callers_fault}
use Rattle.row_calls.specs.Answer.{answer_widths}
use Rattle.row_calls.specs.RowCalls.{StoredIn, made_in}
use Rattle.true_age.specs.Clocks.{World, InBand, count_of}
use Rattle.true_age.specs.History.{Ours, Written, Judged}
use Rattle.true_age.specs.Claim.{OwnSetUp, transit, true_age, AgeClaim, HandsUp}
use Rattle.age_at_row.specs.Run.{Run}

-- ROW-7, what C reads in an answer row: where the delivered data stands in the message and how many bytes it has, and the age:
abbrev pub place_in : List ℕ → ℕ
place_in answer_row = get_or (fields_of answer_widths answer_row 0) 2 0

abbrev pub length_in : List ℕ → ℕ
length_in answer_row = get_or (fields_of answer_widths answer_row 0) 3 0

abbrev pub age_in : List ℕ → ℤ
age_in answer_row = centred (pos (get_or (fields_of answer_widths answer_row 0) 4 0) -ℤ pos 0)

-- ROW-12, DEMAND-3 of one such receive with our count as its now, where s is what C gets: the number that is returned, and the answer row
pub record ClaimAtRow (W : World) (began : W.Moment) (j role : ℕ) (settings : Settings)
    (log : List (Ours W)) (last : W.Moment) (row : List ℕ)
    (u : W.Moment) (message : List ℕ) (s : StoredIn) (h : Header) (m : Judged W began log u h) : Type 0 where
  pub same_settings : (stands_for row).settings ≡ settings
  pub own : OwnSetUp W began role log last (stands_for row)
  pub age : (first : Ours W) → Written W 0 first log → true_age W m.sent u + settings.e + j + transit W first < 2 ^ 31
      → AgeClaim settings (true_age W m.sent u) j (transit W first) (age_in s.answer) (stands_for row) s.number
  -- with any answer but a caller's fault, which leaves the answer row as it was: how many bytes go up, and where they stand
  pub hands_up : callers_fault s.number ≡ false → HandsUp (stands_for row) message s.number (length_in s.answer)
  pub part : callers_fault s.number ≡ false
      → take (length_in s.answer) (drop (place_in s.answer) message) ≡ delivered_of message (length_in s.answer)
  -- where a byte goes up, the message is truly no older than T_max - E + J - d
  pub byte_handed_up : (first : Ours W) → Written W 0 first log → true_age W m.sent u + settings.e + j + transit W first < 2 ^ 31
      → callers_fault s.number ≡ false → 0 < length_in s.answer
      → pos (true_age W m.sent u) ≤ℤ (pos settings.t_max -ℤ pos settings.e +ℤ pos j -ℤ pos (transit W first))

-- ROW-12, DEMAND-3: the next call of a run is a receive on an open connection; any out buffer and answer row, any bytes that are a message
abbrev pub Demand3AtRow : Type 1
Demand3AtRow =
    (W : World) (began : W.Moment) (j role : ℕ) (settings : Settings) (t : W.Moment) (row : List ℕ)
    (log : List (Ours W)) (last : W.Moment) → Run W began role settings t row log last
    → (stands_for row).phase ≡ opened
    → (u : W.Moment) → W.early t u → InBand W began u j
    → (message out answer_row : List ℕ) (h : Header) (s : Tail) → parsed_of message ≡ Some (whole h s)
    → (m : Judged W began log u h)
    → ClaimAtRow W began j role settings log last row u message
    (made_in Call.Receive row (count_of (W.ours u)) message out answer_row).said h m
