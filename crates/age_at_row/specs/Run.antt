-- The calls over one row, as C makes them, in a world of two clocks, since its begin.
use Rattle.std.specs.Prelude.{ℕ, ◌^◌, ◌<◌, ◌≡◌, true, false, List, [], eqb, length}
use Rattle.field.specs.Row.{Bytes}
use Rattle.connection.specs.declared.Settings.{Settings}
use Rattle.connection.specs.Connection.{opened}
use Rattle.connection_row.specs.Row.{stands_for}
use Rattle.connection_row.specs.Stored.{row_refusal}
use Rattle.what_follows.specs.declared.Outcome.{Outcome}
use Rattle.calls.specs.declared.Call.{Call}
use Rattle.calls.specs.Calls.{initiator, rule_of, outcome_of, given}
use Rattle.row_calls.specs.RowCalls.{refused_rows, LeftIn, made_in}
use Rattle.row_promises.specs.Calls.{GivenRanges}
use Rattle.true_age.specs.Clocks.{World, count_of}
use Rattle.true_age.specs.History.{Ours, with_written, JudgedBytes, History}

module _ (W : World) where
  -- a call over a row that gets our count as its now: what it comes to on the record that the row stands for
  abbrev pub what_it_comes_to : List ℕ → W.Moment → Call → List ℕ → List ℕ → Outcome
  what_it_comes_to row u call lent out = outcome_of call (stands_for row) (count_of (W.ours u)) lent (length out)

  -- and what it leaves
  abbrev pub what_it_leaves : List ℕ → W.Moment → Call → List ℕ → List ℕ → List ℕ → LeftIn
  what_it_leaves row u call lent out answer_row = made_in call row (count_of (W.ours u)) lent out answer_row

  module _ (began : W.Moment) where
    -- ROW-12: a row's last begin that answered 0, and the calls on it since, each no earlier than the one before, on the row that it left
    -- and with our count as its now: any calls in any order, any bytes, out buffers and answer rows, refusals included. The moment of the
    -- last call, the row after it, what the calls wrote on this connection, and the moment of the last that was not refused with 109.
    -- What a machine passes is bytes and numbers of their widths; of the peer it is supposed what `History` supposes.
    pub data Run (role : ℕ) (settings : Settings) : W.Moment → List ℕ → List (Ours W) → W.Moment → Type 0 where
      begun : (row : List ℕ) → Bytes row → (first period : ℕ) → first < 2 ^ 16 → period < 2 ^ 32
          → (t : W.Moment) (out answer_row : List ℕ)
          → (role ≡ initiator → W.early began t)
          → (what_it_leaves row t (Call.Begin (given role settings first period)) [] out answer_row).said.number ≡ 0
          → Run role settings
          t
          (what_it_leaves row t (Call.Begin (given role settings first period)) [] out answer_row).said.row
          (with_written W t (what_it_comes_to row t (Call.Begin (given role settings first period)) [] out).reply [])
          t
      called : {t : W.Moment} {row : List ℕ} {log : List (Ours W)} {last : W.Moment} → Run role settings t row log last
          → (u : W.Moment) → W.early t u → (call : Call) → GivenRanges call → (lent : List ℕ) → Bytes lent → (out answer_row : List ℕ)
          → refused_rows row (length answer_row) ≡ false
          → ((rule_of call).begins ≡ true → eqb (what_it_leaves row u call lent out answer_row).said.number 0 ≡ false)
          → (eqb (stands_for row).phase opened ≡ false → (what_it_leaves row u call lent out answer_row).said.number ≡ 0
          → JudgedBytes W began log u ((rule_of call).message lent))
          → Run role settings
          u
          (what_it_leaves row u call lent out answer_row).said.row
          (with_written W u (what_it_comes_to row u call lent out).reply log)
          u
      refused : {t : W.Moment} {row : List ℕ} {log : List (Ours W)} {last : W.Moment} → Run role settings t row log last
          → (u : W.Moment) → W.early t u → (call : Call) (lent out answer_row : List ℕ)
          → refused_rows row (length answer_row) ≡ true
          → Run role settings u (what_it_leaves row u call lent out answer_row).said.row log last

-- ROW-12: a run of calls over a row is a history of the record that the row stands for; the row is accepted by the next call
pub record RowHistory (W : World) (began : W.Moment) (role : ℕ) (settings : Settings) (t : W.Moment) (row : List ℕ)
    (log : List (Ours W)) (last : W.Moment) : Type 0 where
  pub accepted : row_refusal row ≡ 0
  pub bytes : Bytes row
  pub last_before : W.early last t
  pub history : History W began role settings log last (stands_for row)

-- ROW-12, DEMAND-3: of every run
abbrev pub RunsAreHistories : Type 1
RunsAreHistories =
    (W : World) (began : W.Moment) (role : ℕ) (settings : Settings) (t : W.Moment) (row : List ℕ) (log : List (Ours W)) (last : W.Moment)
    → Run W began role settings t row log last → RowHistory W began role settings t row log last
