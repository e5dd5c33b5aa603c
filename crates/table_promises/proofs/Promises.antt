-- The promises of the table, of any call on any slot.
-- Assumes nothing.
use Prim.Native.Nat.{ℕ, ◌<◌}
use mathlib.Core.Path.{◌≡◌, refl, sym, subst, ◌∙◌, ap}
use mathlib.Core.Bool.{Bool, true, false, ◌&&◌}
use mathlib.Core.List.{List}
use mathlib.Core.Logic.{inl}
use Rattle.rules.specs.Rows.{when◌answer◌else◌}
use Rattle.rules.proofs.Tests.{tests}
use native.Mathlib.Omega.{arith}
use borrow.Author.Tests.{eqb-true, eqb-false}
use lib.Dec.{T, eqb}
use lib.ListN.{length, set, get_or, length-set}
use lib.Seq.{sets, get_or-set_same, get_or-set_other, set-get_or}
use Rattle.clock.specs.declared.Count.{Count}
use Rattle.connection.specs.declared.Connection.{Connection}
use Rattle.connection.specs.Connection.{opened, all_zero}
use Rattle.peer_faults.specs.Faults.{reports_age}
use Rattle.what_follows.specs.declared.Outcome.{Outcome}
use Rattle.std.proofs.Common.{Option}
use Rattle.message.specs.declared.Message.{Message}
use Rattle.calls.specs.declared.Call.{Call}
use Rattle.calls.specs.Calls.{rule_of, outcome_of, reply_bytes, refusal, made}
use Rattle.promises.specs.Promises.{◌among◌, callers_fault, Unchanged, Valid, Stays, remembered_with, Remembers, tells_age, reported_by, GoesByAge}
use Rattle.promises.proofs.Promises.{call_number, call_refusal_changes_nothing}
use Rattle.promises.proofs.Remembered.{receive_remembers}
use Rattle.promises.proofs.Reported.{none_with, call_reports, receive_goes_by_age}
use Rattle.promises.proofs.Valid.{call_stays}
use Rattle.table.specs.Table.{bad_slot, record_at, LeftAt, leaves_at, stored_at, made_at}
use Rattle.table_promises.specs.Promises.{ChangesNoOther, OnOthers, LeftAsItWas, Agree, SameThere, Untouched, AllValid, Promises}

-- 101 is one of the numbers of every call
listed_101 : (call : Call) → 101 among (rule_of call).numbers ≡ true
listed_101 (Call.Begin g) = refl
listed_101 Call.Receive = refl
listed_101 Call.Send = refl
listed_101 Call.Tick = refl
listed_101 Call.Close = refl

-- a record that a call leaves is valid, released or not
next_valid : (o : Outcome) → Stays o → Valid o.next
next_valid o s = go o.released refl
  where
    go : (b : Bool) → o.released ≡ b → Valid o.next
    go true e = subst Valid (sym (s.zero e)) (inl refl)
    go false e = s.valid e

-- a slot that is not refused is one of the table's
inside : (n i : ℕ) → bad_slot n i ≡ false → i < n
unfolding bad_slot
inside n i e = grind (arith, tests)

-- either the slot is refused or it is not
either : {P : Type 0} (b : Bool) → (b ≡ true → P) → (b ≡ false → P) → P
either true f g = f refl
either false f g = g refl

module _ (table : List Connection) (slot : ℕ) (call : Call) (now : Count) (lent out : List ℕ) where
  -- what the call comes to on that slot's record, and what it leaves
  abbrev comes : Outcome
  comes = outcome_of call (record_at table slot) now lent (length out)

  abbrev left : LeftAt
  left = made_at table slot call now lent out

  -- ---- what is left where the slot is refused, and where it is not

  refused : bad_slot (length table) slot ≡ true → left ≡ leaves_at (refusal 101) table out
  unfolding made_at
  refused e = rw e

  taken : bad_slot (length table) slot ≡ false → left ≡ stored_at table slot (made call (record_at table slot) now lent out)
  unfolding made_at
  taken e = rw e

  -- ---- isolation

  changes_no_other : ChangesNoOther table slot left.table
  changes_no_other = either (bad_slot (length table) slot)
      (λ e. subst (λ (l : LeftAt). ChangesNoOther table slot l.table) (sym (refused e)) (record { same_size = refl; same_others = λ other d _. refl }))
      (λ e. subst (λ (l : LeftAt). ChangesNoOther table slot l.table) (sym (taken e)) (record {
        same_size = length-set table slot comes.next;
        same_others = λ other d n. get_or-set_other table slot other comes.next d n;
      }))

  -- the slot's next record, the answer and the out buffer, by whether the slot is refused
  next_there : record_at left.table slot ≡ (when bad_slot (length table) slot answer record_at table slot else comes.next)
  next_there = either (bad_slot (length table) slot)
      (λ e. rw e (ap (λ (l : LeftAt). record_at l.table slot) (refused e)))
      (λ e. rw e (ap (λ (l : LeftAt). record_at l.table slot) (taken e) ∙ get_or-set_same table slot comes.next all_zero (inside (length table) slot e)))

  answer_there : left.answer ≡ (when bad_slot (length table) slot answer refusal 101 else (made call (record_at table slot) now lent out).called.answer)
  answer_there = either (bad_slot (length table) slot) (λ e. rw e (ap (λ (l : LeftAt). l.answer) (refused e))) (λ e. rw e (ap (λ (l : LeftAt). l.answer) (taken e)))

  out_there : left.out ≡ (when bad_slot (length table) slot answer out else (made call (record_at table slot) now lent out).out)
  out_there = either (bad_slot (length table) slot) (λ e. rw e (ap (λ (l : LeftAt). l.out) (refused e))) (λ e. rw e (ap (λ (l : LeftAt). l.out) (taken e)))

  -- ---- the numbers, and demand 1

  number_listed : left.answer.number among (rule_of call).numbers ≡ true
  number_listed = either (bad_slot (length table) slot)
      (λ e. subst (λ (l : LeftAt). l.answer.number among (rule_of call).numbers ≡ true) (sym (refused e)) (listed_101 call))
      (λ e. subst (λ (l : LeftAt). l.answer.number among (rule_of call).numbers ≡ true) (sym (taken e)) (call_number call (record_at table slot) now lent (length out)))

  age_reported : left.answer.age ≡ reported_by (record_at table slot) now ((rule_of call).message lent) left.answer.number
  unfolding reports_age
  age_reported = either (bad_slot (length table) slot)
      (λ e. subst Reports (sym (refused e)) (none_with (record_at table slot) now ((rule_of call).message lent) 101 refl))
      (λ e. subst Reports (sym (taken e)) (call_reports call (record_at table slot) now lent (length out)))
    where
      Reports : LeftAt → Type 0
      Reports l = l.answer.age ≡ reported_by (record_at table slot) now ((rule_of call).message lent) l.answer.number

  taken_untouched : Unchanged (record_at table slot) comes → Untouched table out (stored_at table slot (made call (record_at table slot) now lent out))
  taken_untouched u =
      record {
        same_table = ap (λ (c : Connection). set table slot c) u.same_record ∙ set-get_or table slot all_zero;
        same_out = ap (λ (r : Option Message). sets out 0 (reply_bytes r lent)) u.nothing_written;
        nothing_written = ap (λ (r : Option Message). length (reply_bytes r lent)) u.nothing_written;
        nothing_delivered = u.nothing_delivered;
        not_released = u.not_released;
      }

  refusal_changes_nothing : callers_fault left.answer.number ≡ true → Untouched table out left
  refusal_changes_nothing f = either (bad_slot (length table) slot)
      (λ e. subst (Untouched table out) (sym (refused e))
      (record { same_table = refl; same_out = refl; nothing_written = refl; nothing_delivered = refl; not_released = refl }))
      (λ e. subst (Untouched table out) (sym (taken e)) (taken_untouched
      (call_refusal_changes_nothing call (record_at table slot) now lent (length out) (subst (λ (l : LeftAt). callers_fault l.answer.number ≡ true) (taken e) f))))

  -- ---- every record stays closed or valid

  set_valid : (y : Connection) → slot < length table → Valid y → AllValid table → AllValid (set table slot y)
  set_valid y l v all k m = either (eqb k slot)
      (λ e. subst Valid (sym (ap (λ (j : ℕ). get_or (set table slot y) j all_zero) (eqb-true k slot e) ∙ get_or-set_same table slot y all_zero l)) v)
      (λ e. subst Valid (sym (get_or-set_other table slot k y all_zero (eqb-false k slot e))) (all k (subst (λ (n : ℕ). k < n) (length-set table slot y) m)))

  stays_valid : AllValid table → AllValid left.table
  stays_valid all = either (bad_slot (length table) slot)
      (λ e. subst (λ (l : LeftAt). AllValid l.table) (sym (refused e)) all)
      (λ e. subst (λ (l : LeftAt). AllValid l.table) (sym (taken e)) (set_valid comes.next (inside (length table) slot e)
      (next_valid comes (call_stays call (record_at table slot) now lent (length out) (all slot (inside (length table) slot e)))) all))

  released_is_zero : Valid (record_at table slot) → left.answer.released ≡ true → record_at left.table slot ≡ all_zero
  released_is_zero v r = either (bad_slot (length table) slot)
      (λ e. absurd (subst T (sym r ∙ ap (λ (l : LeftAt). l.answer.released) (refused e)) tt))
      (λ e. next_there ∙ rw e ((call_stays call (record_at table slot) now lent (length out) v).zero (sym (ap (λ (l : LeftAt). l.answer.released) (taken e)) ∙ r)))

-- two tables that agree at that slot
module _ (slot : ℕ) (call : Call) (now : Count) (lent out : List ℕ) (one two : List Connection) (agree : Agree slot one two) where
  alike : {X : Type 0} (f g : Connection → X) → (when bad_slot (length one) slot answer f (record_at one slot) else g (record_at one slot))
      ≡ (when bad_slot (length two) slot answer f (record_at two slot) else g (record_at two slot))
  alike f g = rw (agree.same_slot, agree.same_record)

  reads_no_other : SameThere slot (made_at one slot call now lent out) (made_at two slot call now lent out)
  reads_no_other =
      record {
        same_answer = answer_there one slot call now lent out ∙ alike (λ c. refusal 101) (λ c. (made call c now lent out).called.answer) ∙ sym (answer_there two slot call now lent out);
        same_next = next_there one slot call now lent out ∙ alike (λ c. c) (λ c. (outcome_of call c now lent (length out)).next) ∙ sym (next_there two slot call now lent out);
        same_out = out_there one slot call now lent out ∙ alike (λ c. out) (λ c. (made call c now lent out).out) ∙ sym (out_there two slot call now lent out);
      }

-- calls on other slots leave the record
pub others_leave_it : (slot : ℕ) (table : List Connection) {after : List Connection} → OnOthers slot table after → LeftAsItWas slot table after
others_leave_it slot table OnOthers.none = record { same_size = refl; same_record = refl }
others_leave_it slot table (OnOthers.after {before} x other call now lent out n) =
    let there : LeftAsItWas slot table before = others_leave_it slot table x in
    let kept : ChangesNoOther before other (made_at before other call now lent out).table = changes_no_other before other call now lent out in
    record { same_size = kept.same_size ∙ there.same_size; same_record = kept.same_others slot all_zero (λ e. n (sym e)) ∙ there.same_record }

-- any table, slot and call
pub promises : (table : List Connection) (slot : ℕ) (call : Call) (now : Count) (lent out : List ℕ) → Promises table slot call now lent out
promises table slot call now lent out =
    record {
      next_record = λ e. next_there table slot call now lent out ∙ rw e refl;
      same_number = λ e. ap (λ (l : LeftAt). l.answer.number) (taken table slot call now lent out e);
      same_age = λ e. ap (λ (l : LeftAt). l.answer.age) (taken table slot call now lent out e);
      age_reported = age_reported table slot call now lent out;
      changes_no_other = changes_no_other table slot call now lent out;
      reads_no_other = λ other agree. reads_no_other slot call now lent out table other agree;
      number_listed = number_listed table slot call now lent out;
      refusal_changes_nothing = refusal_changes_nothing table slot call now lent out;
      stays_valid = stays_valid table slot call now lent out;
      released_is_zero = released_is_zero table slot call now lent out;
    }

-- ERR-6: what a receive that answers 0, 204, 205 or 206 leaves in an open slot that it does not release
pub receive_remembers_at_table : (table : List Connection) (slot : ℕ) (now : Count) (lent out : List ℕ)
    → (record_at table slot).phase ≡ opened
    → (made_at table slot Call.Receive now lent out).answer.number among remembered_with ≡ true
    → (made_at table slot Call.Receive now lent out).answer.released ≡ false
    → Remembers lent now (record_at (made_at table slot Call.Receive now lent out).table slot)
receive_remembers_at_table table slot now lent out o n r = either (bad_slot (length table) slot)
    (λ e. absurd (subst T (sym n ∙ ap (λ (l : LeftAt). l.answer.number among remembered_with) (refused table slot Call.Receive now lent out e)) tt))
    (λ e. subst (Remembers lent now) (sym (next_there table slot Call.Receive now lent out ∙ rw e refl))
    (receive_remembers (record_at table slot) now lent o (length out)
    (sym (ap (λ (l : LeftAt). l.answer.number among remembered_with) (taken table slot Call.Receive now lent out e)) ∙ n)
    (sym (ap (λ (l : LeftAt). l.answer.released) (taken table slot Call.Receive now lent out e)) ∙ r)))

-- AGE-7: which of 0, 204, 205 and 206 a receive on an open slot answers goes by the age that it reports
pub receive_goes_by_age_at_table : (table : List Connection) (slot : ℕ) (now : Count) (lent out : List ℕ)
    → tells_age (record_at table slot) (made_at table slot Call.Receive now lent out).answer.number ≡ true
    → GoesByAge (record_at table slot).settings.t_max (made_at table slot Call.Receive now lent out).answer.age.0
    (made_at table slot Call.Receive now lent out).answer.number
unfolding tells_age reports_age
receive_goes_by_age_at_table table slot now lent out n = either (bad_slot (length table) slot)
    (λ e. absurd (none (eqb (record_at table slot).phase opened) (subst Tells (refused table slot Call.Receive now lent out e) n)))
    (λ e. subst Goes (sym (taken table slot Call.Receive now lent out e))
    (receive_goes_by_age (record_at table slot) now lent (length out) (subst Tells (taken table slot Call.Receive now lent out e) n)))
  where
    Tells : LeftAt → Type 0
    Tells l = tells_age (record_at table slot) l.answer.number ≡ true

    Goes : LeftAt → Type 0
    Goes l = GoesByAge (record_at table slot).settings.t_max l.answer.age.0 l.answer.number

    none : (b : Bool) → b && false ≡ true → ⊥
    none true q = subst T (sym q) tt
    none false q = subst T (sym q) tt
