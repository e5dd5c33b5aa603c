-- What a table of connections promises, of any call on any slot.
use Rattle.std.specs.Prelude.{ℕ, ◌<◌, ◌≡◌, true, false, List, ◌≢◌, length, get_or}
use Rattle.clock.specs.declared.Count.{Count}
use Rattle.connection.specs.declared.Connection.{Connection}
use Rattle.connection.specs.Connection.{all_zero}
use Rattle.calls.specs.declared.Call.{Call}
use Rattle.calls.specs.Calls.{rule_of, outcome_of}
use Rattle.promises.specs.Promises.{◌among◌, callers_fault, Valid, reported_by}
use Rattle.table.specs.Table.{bad_slot, record_at, LeftAt, made_at}

-- ---- TABLE-3, TABLE-4: another slot is neither read nor changed

-- TABLE-3: every other record is as it was, and there are as many
pub record ChangesNoOther (table : List Connection) (slot : ℕ) (after : List Connection) : Type 0 where
  pub same_size : length after ≡ length table
  pub same_others : (other : ℕ) (d : Connection) → other ≢ slot → get_or after other d ≡ get_or table other d

-- TABLE-4: two tables agree at a slot where each has it, or neither, and the record there is the same
pub record Agree (slot : ℕ) (one two : List Connection) : Type 0 where
  pub same_slot : bad_slot (length one) slot ≡ bad_slot (length two) slot
  pub same_record : record_at one slot ≡ record_at two slot

-- TABLE-4: the call gets the same answer there, leaves the same record and writes the same bytes
pub record SameThere (slot : ℕ) (one two : LeftAt) : Type 0 where
  pub same_answer : one.answer ≡ two.answer
  pub same_next : record_at one.table slot ≡ record_at two.table slot
  pub same_out : one.out ≡ two.out

-- TABLE-3: any calls on other slots, in any order
pub data OnOthers (slot : ℕ) (table : List Connection) : List Connection → Type 0 where
  none : OnOthers slot table table
  after : {before : List Connection} → OnOthers slot table before → (other : ℕ) (call : Call) (now : Count) (lent out : List ℕ)
      → other ≢ slot → OnOthers slot table (made_at before other call now lent out).table

-- TABLE-3: so a slot's record is as the last call on that slot left it
pub record LeftAsItWas (slot : ℕ) (table after : List Connection) : Type 0 where
  pub same_size : length after ≡ length table
  pub same_record : record_at after slot ≡ record_at table slot

-- ---- CALL-KEPT: after a caller's fault all is as before
pub record Untouched (table : List Connection) (out : List ℕ) (left : LeftAt) : Type 0 where
  pub same_table : left.table ≡ table
  pub same_out : left.out ≡ out
  pub nothing_written : left.answer.written ≡ 0
  pub nothing_delivered : left.answer.delivered ≡ 0
  pub not_released : left.answer.released ≡ false

-- ---- RECORD-1: every record is closed or valid
abbrev pub AllValid : List Connection → Type 0
AllValid table = (slot : ℕ) → slot < length table → Valid (record_at table slot)

-- ---- DEMAND-1: all of it, of any table, slot and call, with any now, any bytes lent and any out buffer
pub record Promises (table : List Connection) (slot : ℕ) (call : Call) (now : Count) (lent out : List ℕ) : Type 0 where
  -- TABLE-2: the slot's record moves as the call by value says, and the answer is its answer
  pub next_record : bad_slot (length table) slot ≡ false
      → record_at (made_at table slot call now lent out).table slot ≡ (outcome_of call (record_at table slot) now lent (length out)).next
  pub same_number : bad_slot (length table) slot ≡ false
      → (made_at table slot call now lent out).answer.number ≡ (outcome_of call (record_at table slot) now lent (length out)).number
  pub same_age : bad_slot (length table) slot ≡ false
      → (made_at table slot call now lent out).answer.age ≡ (outcome_of call (record_at table slot) now lent (length out)).age
  -- AGE-7, AGE-8: the age that it reports
  pub age_reported : (made_at table slot call now lent out).answer.age
      ≡ reported_by (record_at table slot) now ((rule_of call).message lent) (made_at table slot call now lent out).answer.number
  pub changes_no_other : ChangesNoOther table slot (made_at table slot call now lent out).table
  pub reads_no_other : (other : List Connection) → Agree slot table other
      → SameThere slot (made_at table slot call now lent out) (made_at other slot call now lent out)
  -- CALL-BEGIN, CALL-RECEIVE, CALL-SEND, CALL-TICK, CALL-CLOSE: one of the numbers that are listed for it
  pub number_listed : (made_at table slot call now lent out).answer.number among (rule_of call).numbers ≡ true
  pub refusal_changes_nothing : callers_fault (made_at table slot call now lent out).answer.number ≡ true
      → Untouched table out (made_at table slot call now lent out)
  pub stays_valid : AllValid table → AllValid (made_at table slot call now lent out).table
  -- RECORD-3
  pub released_is_zero : Valid (record_at table slot) → (made_at table slot call now lent out).answer.released ≡ true
      → record_at (made_at table slot call now lent out).table slot ≡ all_zero
