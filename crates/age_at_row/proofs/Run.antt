-- A run of calls over a row is a history of the record that the row stands for.
-- Assumes nothing.
use Prim.Native.Nat.{ℕ, ◌^◌, ◌<◌}
use mathlib.Core.Path.{◌≡◌, refl, sym, ap, subst, ◌∙◌}
use mathlib.Core.Bool.{Bool, true, false}
use mathlib.Core.List.{List, []}
use native.Mathlib.Omega.{arith}
use lib.Dec.{eqb}
use lib.IntN.{pos}
use lib.ListN.{length}
use Rattle.clock.proofs.Wrapped.{wrapped_lt}
use Rattle.field.specs.Row.{Bytes}
use Rattle.connection.specs.declared.Settings.{Settings}
use Rattle.connection.specs.Connection.{opened}
use Rattle.connection_row.specs.Row.{stands_for}
use Rattle.calls.specs.declared.Call.{Call}
use Rattle.calls.specs.Calls.{initiator, rule_of, given}
use Rattle.row_calls.specs.RowCalls.{refused_rows, LeftIn}
use Rattle.row_promises.specs.Calls.{GivenRanges, Passed, Moves, RowPromises}
use Rattle.row_promises.proofs.Calls.{row_promises}
use Rattle.true_age.specs.Clocks.{World, count_of}
use Rattle.true_age.specs.History.{Ours, with_written, JudgedBytes, History}
use Rattle.age_at_row.specs.Run.{what_it_comes_to, what_it_leaves, Run, RowHistory, RunsAreHistories}

module _ (W : World) (began : W.Moment) (role : ℕ) (settings : Settings) where
  abbrev Of : (t : W.Moment) (row : List ℕ) (log : List (Ours W)) (last : W.Moment) → Type 0
  Of t row log last = RowHistory W began role settings t row log last

  -- what a call with our count promises
  there : (row : List ℕ) (u : W.Moment) (call : Call) (lent out answer_row : List ℕ) → RowPromises call row (count_of (W.ours u)) lent out answer_row
  there row u call lent out answer_row = row_promises call row (count_of (W.ours u)) lent out answer_row

  passed : (row : List ℕ) (u : W.Moment) (call : Call) (lent : List ℕ) → Bytes row → Bytes lent → GivenRanges call → Passed call row (count_of (W.ours u)) lent
  passed row u call lent b l g = record { row_bytes_lem = b; count = wrapped_lt (pos (W.ours u)); lent_bytes = l; given = g }

  -- rows that are not refused with 109
  answers : (row : List ℕ) (u : W.Moment) (call : Call) (lent out answer_row : List ℕ) → (what_it_leaves W row u call lent out answer_row).said.number ≡ 0
      → refused_rows row (length answer_row) ≡ false
  answers row u call lent out answer_row z = go (refused_rows row (length answer_row)) refl
    where
      go : (b : Bool) → refused_rows row (length answer_row) ≡ b → b ≡ false
      go true e =
          let n : (what_it_leaves W row u call lent out answer_row).said.number ≡ 109 = ap (λ (l : LeftIn). l.said.number) ((there row u call lent out answer_row).refused e) in
          let q : ⊥ = omega arith in absurd q
      go false e = refl

  begins : (row : List ℕ) → Bytes row → (first period : ℕ) → first < 2 ^ 16 → period < 2 ^ 32 → (t : W.Moment) (out answer_row : List ℕ)
      → (role ≡ initiator → W.early began t)
      → (what_it_leaves W row t (Call.Begin (given role settings first period)) [] out answer_row).said.number ≡ 0
      → Of t (what_it_leaves W row t (Call.Begin (given role settings first period)) [] out answer_row).said.row
      (with_written W t (what_it_comes_to W row t (Call.Begin (given role settings first period)) [] out).reply []) t
  begins row b first period f p t out answer_row s z =
      let call : Call = Call.Begin (given role settings first period) in
      let m : Moves call row (count_of (W.ours t)) [] out answer_row = (there row t call [] out answer_row).moves (answers row t call [] out answer_row z) in
      let x : Passed call row (count_of (W.ours t)) [] = passed row t call [] b tt (f, p) in
      record {
        accepted = m.accepted x;
        bytes = m.bytes x;
        last_before = W.early_refl t;
        history =
            subst (History W began role settings (with_written W t (what_it_comes_to W row t call [] out).reply []) t) (sym (m.next x))
            (History.begun (stands_for row) first period t [] (length out) s (sym m.same_number ∙ z));
      }

  on_it : {t : W.Moment} {row : List ℕ} {log : List (Ours W)} {last : W.Moment} → Of t row log last
      → (u : W.Moment) → W.early t u → (call : Call) → GivenRanges call → (lent : List ℕ) → Bytes lent → (out answer_row : List ℕ)
      → refused_rows row (length answer_row) ≡ false
      → ((rule_of call).begins ≡ true → eqb (what_it_leaves W row u call lent out answer_row).said.number 0 ≡ false)
      → (eqb (stands_for row).phase opened ≡ false → (what_it_leaves W row u call lent out answer_row).said.number ≡ 0
      → JudgedBytes W began log u ((rule_of call).message lent))
      → Of u (what_it_leaves W row u call lent out answer_row).said.row (with_written W u (what_it_comes_to W row u call lent out).reply log) u
  on_it {t} {row} {log} {last} h u next call g lent b out answer_row good again f =
      let m : Moves call row (count_of (W.ours u)) lent out answer_row = (there row u call lent out answer_row).moves good in
      let x : Passed call row (count_of (W.ours u)) lent = passed row u call lent h.bytes b g in
      record {
        accepted = m.accepted x;
        bytes = m.bytes x;
        last_before = W.early_refl u;
        history =
            subst (History W began role settings (with_written W u (what_it_comes_to W row u call lent out).reply log) u) (sym (m.next x))
            (History.called h.history u (W.early_trans last t u h.last_before next) call lent (length out)
            (λ c. subst (λ (k : ℕ). eqb k 0 ≡ false) m.same_number (again c)) (λ s z. f s (m.same_number ∙ z)));
      }

  nothing_done : {t : W.Moment} {row : List ℕ} {log : List (Ours W)} {last : W.Moment} → Of t row log last
      → (u : W.Moment) → W.early t u → (call : Call) (lent out answer_row : List ℕ) → refused_rows row (length answer_row) ≡ true
      → Of u (what_it_leaves W row u call lent out answer_row).said.row log last
  nothing_done {t} {row} {log} {last} h u next call lent out answer_row e =
      subst (λ (r : List ℕ). Of u r log last) (sym (ap (λ (l : LeftIn). l.said.row) ((there row u call lent out answer_row).refused e)))
      (record { accepted = h.accepted; bytes = h.bytes; last_before = W.early_trans last t u h.last_before next; history = h.history })

  run_history : {t : W.Moment} {row : List ℕ} {log : List (Ours W)} {last : W.Moment} → Run W began role settings t row log last → Of t row log last
  run_history (Run.begun row b first period f p t out answer_row s z) = begins row b first period f p t out answer_row s z
  run_history (Run.called x u next call g lent b out answer_row good again f) = on_it (run_history x) u next call g lent b out answer_row good again f
  run_history (Run.refused {t} {row} x u next call lent out answer_row e) = nothing_done (run_history x) u next call lent out answer_row e

pub runs_are_histories : RunsAreHistories
runs_are_histories W began role settings t row log last x = run_history W began role settings x
