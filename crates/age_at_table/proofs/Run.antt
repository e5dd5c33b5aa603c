-- A slot's calls since its begin, among the calls on a table, are a history of its record.
-- Assumes nothing.
use Prim.Native.Nat.{ℕ}
use mathlib.Core.Path.{◌≡◌, refl, sym, ap, subst, ◌∙◌}
use mathlib.Core.Bool.{Bool, true, false}
use mathlib.Core.List.{List, []}
use mathlib.Core.Logic.{◌≢◌}
use native.Mathlib.Omega.{arith}
use lib.Dec.{eqb}
use lib.ListN.{length}
use Rattle.rules.specs.Rows.{when◌answer◌else◌}
use Rattle.connection.specs.declared.Settings.{Settings}
use Rattle.connection.specs.declared.Connection.{Connection}
use Rattle.connection.specs.Connection.{opened}
use Rattle.calls.specs.declared.Call.{Call}
use Rattle.calls.specs.Calls.{initiator, rule_of, refusal, given, made}
use Rattle.table.specs.Table.{bad_slot, record_at, leaves_at, stored_at, made_at}
use Rattle.table_promises.specs.Promises.{none, after, LeftAsItWas, Promises}
use Rattle.table_promises.proofs.Promises.{promises, others_leave_it}
use Rattle.true_age.specs.Clocks.{World, count_of}
use Rattle.true_age.specs.History.{Ours, with_written, JudgedBytes, History, begun, called}
use Rattle.age_at_table.specs.Run.{what_it_comes_to, what_it_leaves, Run, Since, SlotHistory, SlotsAreHistories}

module _ (W : World) (began : W.Moment) (slot role : ℕ) (settings : Settings) where
  abbrev Of : (t : W.Moment) (table : List Connection) (log : List (Ours W)) (last : W.Moment) → Type 0
  Of t table log last = SlotHistory W began slot role settings t table log last

  -- a slot that does not answer 101 to everything
  answers_there : (table : List Connection) (u : W.Moment) (call : Call) (lent out : List ℕ) → (what_it_leaves W table slot u call lent out).answer.number ≡ 0
      → bad_slot (length table) slot ≡ false
  unfolding made_at
  answers_there table u call lent out = go (bad_slot (length table) slot)
    where
      go : (b : Bool)
          → (when b answer leaves_at (refusal 101) table out else
          stored_at table slot (made call (record_at table slot) (count_of (W.ours u)) lent out)).answer.number ≡ 0
          → b ≡ false
      go true e = let q : ⊥ = omega arith in absurd q
      go false e = refl

  begins : (t : W.Moment) (table : List Connection) (u : W.Moment) → W.early t u → (first period : ℕ) (lent out : List ℕ)
      → (role ≡ initiator → W.early began u)
      → (what_it_leaves W table slot u (Call.Begin (given role settings first period)) lent out).answer.number ≡ 0
      → Of u (what_it_leaves W table slot u (Call.Begin (given role settings first period)) lent out).table
      (with_written W u (what_it_comes_to W table slot u (Call.Begin (given role settings first period)) lent out).reply []) u
  begins t table u next first period lent out s z =
      let call : Call = Call.Begin (given role settings first period) in
      let good : bad_slot (length table) slot ≡ false = answers_there table u call lent out z in
      let p : Promises table slot call (count_of (W.ours u)) lent out = promises table slot call (count_of (W.ours u)) lent out in
      record {
        good_slot = ap (λ (n : ℕ). bad_slot n slot) p.changes_no_other.same_size ∙ good;
        last_before = W.early_refl u;
        history =
            subst (History W began role settings (with_written W u (what_it_comes_to W table slot u call lent out).reply []) u) (sym (p.next_record good))
            (begun (record_at table slot) first period u lent (length out) s (sym (p.same_number good) ∙ z));
      }

  on_it : {t : W.Moment} {table : List Connection} {log : List (Ours W)} {last : W.Moment} → Of t table log last
      → (u : W.Moment) → W.early t u → (call : Call) (lent out : List ℕ)
      → ((rule_of call).begins ≡ true → eqb (what_it_leaves W table slot u call lent out).answer.number 0 ≡ false)
      → (eqb (record_at table slot).phase opened ≡ false → (what_it_leaves W table slot u call lent out).answer.number ≡ 0
      → JudgedBytes W began log u ((rule_of call).message lent))
      → Of u (what_it_leaves W table slot u call lent out).table (with_written W u (what_it_comes_to W table slot u call lent out).reply log) u
  on_it {t} {table} {log} {last} x u next call lent out again f =
      let p : Promises table slot call (count_of (W.ours u)) lent out = promises table slot call (count_of (W.ours u)) lent out in
      let same : (what_it_leaves W table slot u call lent out).answer.number ≡ (what_it_comes_to W table slot u call lent out).number = p.same_number x.good_slot in
      record {
        good_slot = ap (λ (n : ℕ). bad_slot n slot) p.changes_no_other.same_size ∙ x.good_slot;
        last_before = W.early_refl u;
        history =
            subst (History W began role settings (with_written W u (what_it_comes_to W table slot u call lent out).reply log) u) (sym (p.next_record x.good_slot))
            (called x.history u (W.early_trans last t u x.last_before next) call lent (length out)
            (λ b. subst (λ (k : ℕ). eqb k 0 ≡ false) same (again b)) (λ s z. f s (same ∙ z)));
      }

  on_others : {t : W.Moment} {table : List Connection} {log : List (Ours W)} {last : W.Moment} → Of t table log last
      → (u : W.Moment) → W.early t u → (other : ℕ) → other ≢ slot → (call : Call) (lent out : List ℕ)
      → Of u (what_it_leaves W table other u call lent out).table log last
  on_others {t} {table} {log} {last} x u next other n call lent out =
      let left : LeftAsItWas slot table (what_it_leaves W table other u call lent out).table =
      others_leave_it slot table (after none other call (count_of (W.ours u)) lent out n) in
      record {
        good_slot = ap (λ (size : ℕ). bad_slot size slot) left.same_size ∙ x.good_slot;
        last_before = W.early_trans last t u x.last_before next;
        history = subst (History W began role settings log last) (sym left.same_record) x.history;
      }

  since_history : {t : W.Moment} {table : List Connection} {run : Run W t table} {log : List (Ours W)} {last : W.Moment}
      → Since W began slot role settings t table run log last → Of t table log last
  since_history (Since.begun {t} {table} run u next first period lent out s z) = begins t table u next first period lent out s z
  since_history (Since.on_slot x u next call lent out again f) = on_it (since_history x) u next call lent out again f
  since_history (Since.on_another x u next other n call lent out) = on_others (since_history x) u next other n call lent out

pub slots_are_histories : SlotsAreHistories
slots_are_histories W began slot role settings t table run log last x = since_history W began slot role settings x
