-- The calls on a table, in a world of two clocks, and those on one of its slots since its begin.
use Rattle.std.specs.Prelude.{ℕ, ◌≡◌, true, false, List, [], ◌≢◌, eqb, length}
use Rattle.connection.specs.declared.Settings.{Settings}
use Rattle.connection.specs.declared.Connection.{Connection}
use Rattle.connection.specs.Connection.{opened}
use Rattle.what_follows.specs.declared.Outcome.{Outcome}
use Rattle.calls.specs.declared.Call.{Call}
use Rattle.calls.specs.Calls.{initiator, rule_of, outcome_of, given}
use Rattle.table.specs.Table.{bad_slot, record_at, LeftAt, made_at}
use Rattle.true_age.specs.Clocks.{World, count_of}
use Rattle.true_age.specs.History.{Ours, with_written, JudgedBytes, History}

module _ (W : World) where
  -- a call on a slot that gets our count as its now: what it comes to on the slot's record
  abbrev pub what_it_comes_to : List Connection → ℕ → W.Moment → Call → List ℕ → List ℕ → Outcome
  what_it_comes_to table slot u call lent out = outcome_of call (record_at table slot) (count_of (W.ours u)) lent (length out)

  -- and what it leaves
  abbrev pub what_it_leaves : List Connection → ℕ → W.Moment → Call → List ℕ → List ℕ → LeftAt
  what_it_leaves table slot u call lent out = made_at table slot call (count_of (W.ours u)) lent out

  -- Any calls in any order, on any slots of any table, bad slots and refusals included: each no earlier than the one before, on the table
  -- that it left and with our count as its now. The moment of the last, and the table after it.
  pub data Run : W.Moment → List Connection → Type 0 where
    none : (t : W.Moment) (table : List Connection) → Run t table
    called : {t : W.Moment} {table : List Connection} → Run t table → (u : W.Moment) → W.early t u
        → (slot : ℕ) (call : Call) (lent out : List ℕ) → Run u (what_it_leaves table slot u call lent out).table

  module _ (began : W.Moment) (slot : ℕ) where
    -- The slot's last begin that answered 0, and the calls on it since, among the calls of a run: what they wrote on this connection, and
    -- the moment of the last of them. Of these calls it is supposed what `History` supposes; of calls on other slots, and before that
    -- begin, nothing.
    pub data Since (role : ℕ) (settings : Settings)
        : (t : W.Moment) → (table : List Connection) → Run t table → List (Ours W) → W.Moment → Type 0 where
      begun : {t : W.Moment} {table : List Connection} (run : Run t table) (u : W.Moment) (next : W.early t u)
          (first period : ℕ) (lent out : List ℕ)
          → (role ≡ initiator → W.early began u)
          → (what_it_leaves table slot u (Call.Begin (given role settings first period)) lent out).answer.number ≡ 0
          → Since role settings
          u
          (what_it_leaves table slot u (Call.Begin (given role settings first period)) lent out).table
          (called run u next slot (Call.Begin (given role settings first period)) lent out)
          (with_written W u (what_it_comes_to table slot u (Call.Begin (given role settings first period)) lent out).reply [])
          u
      on_slot : {t : W.Moment} {table : List Connection} {run : Run t table} {log : List (Ours W)} {last : W.Moment}
          → Since role settings t table run log last
          → (u : W.Moment) (next : W.early t u) (call : Call) (lent out : List ℕ)
          → ((rule_of call).begins ≡ true → eqb (what_it_leaves table slot u call lent out).answer.number 0 ≡ false)
          → (eqb (record_at table slot).phase opened ≡ false → (what_it_leaves table slot u call lent out).answer.number ≡ 0
          → JudgedBytes W began log u ((rule_of call).message lent))
          → Since role settings
          u
          (what_it_leaves table slot u call lent out).table
          (called run u next slot call lent out)
          (with_written W u (what_it_comes_to table slot u call lent out).reply log)
          u
      on_another : {t : W.Moment} {table : List Connection} {run : Run t table} {log : List (Ours W)} {last : W.Moment}
          → Since role settings t table run log last
          → (u : W.Moment) (next : W.early t u) (other : ℕ) → other ≢ slot → (call : Call) (lent out : List ℕ)
          → Since role settings u (what_it_leaves table other u call lent out).table (called run u next other call lent out) log last

-- a slot's calls since its begin are a history of its record: the slot is one of the table's, and its last call is no later than the run's
pub record SlotHistory (W : World) (began : W.Moment) (slot role : ℕ) (settings : Settings) (t : W.Moment) (table : List Connection)
    (log : List (Ours W)) (last : W.Moment) : Type 0 where
  pub good_slot : bad_slot (length table) slot ≡ false
  pub last_before : W.early last t
  pub history : History W began role settings log last (record_at table slot)

-- DEMAND-3: of every slot and run
abbrev pub SlotsAreHistories : Type 1
SlotsAreHistories =
    (W : World) (began : W.Moment) (slot role : ℕ) (settings : Settings) (t : W.Moment) (table : List Connection) (run : Run W t table)
    (log : List (Ours W)) (last : W.Moment)
    → Since W began slot role settings t table run log last → SlotHistory W began slot role settings t table log last
