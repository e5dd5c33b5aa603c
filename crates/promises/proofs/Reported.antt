-- AGE-7, AGE-8: the age that a call reports is the one by which it judged the message, and the answer goes by it.
-- Assumes nothing.
use Prim.Native.Nat.{ℕ, ◌+◌}
use Rattle.std.proofs.Math.Bool.{and-false}
use mathlib.Core.Path.{◌≡◌, refl, sym, ap, subst, ◌∙◌}
use mathlib.Core.Bool.{Bool, true, false, not, ◌&&◌, ◌||◌}
use mathlib.Core.List.{List, []}
use native.Mathlib.Omega.{arith}
use borrow.Author.Tests.{eqb-true, ltb-true, ltb-false, le-ltb, le-leb, lt-leb, eq-eqb, not-true}
use lib.Dec.{T, leb, ltb, eqb}
use lib.IntN.{ℤ, pos, negsuc}
use lib.ListN.{length}
use Rattle.rules.specs.Rows.{when◌answer◌else◌}
use Rattle.clock.specs.Clock.{no_age, verdict_of, verdict_number}
use Rattle.clock.specs.declared.Age.{Age}
use Rattle.clock.specs.declared.Count.{Count}
use Rattle.clock.specs.declared.Verdict.{Verdict}
use Rattle.clock.specs.declared.Verdict.TheVariants.{Future, Late, Fresh}
use Rattle.number.specs.Number.{distance_of}
use Rattle.message.specs.Table.{offset_start, offset_answ1, offset_answ2, offset_est, offset_end, application}
use Rattle.message.specs.Read.{parsed_of}
use Rattle.message.specs.declared.Header.{Header}
use Rattle.message.specs.declared.Tail.{Tail}
use Rattle.std.proofs.Common.{Option, Some, None}
use Rattle.message.specs.declared.Message.{Message}
use Rattle.message.specs.Layout.{whole}
use Rattle.connection.specs.declared.Connection.{Connection}
use Rattle.connection.specs.Connection.{initiator_waits_for4, opened}
use Rattle.peer_faults.specs.declared.Expectation.{Expectation}
use Rattle.peer_faults.specs.declared.Expectation.TheVariants.{Expected, Unexpected, Released}
use Rattle.peer_faults.specs.Faults.{
  expectation_of,
  not_ahead,
  beyond_n,
  wrong_echo,
  check_failed,
  message_age,
  time_check_of,
  age_fault,
  gap,
  fault_number,
  reports_age,
  age_with,
}
use Rattle.what_follows.specs.declared.Outcome.{Outcome}
use Rattle.what_follows.specs.Follows.{
  malformed_of,
  start_taken,
  answ1_taken,
  answ2_taken,
  est_taken,
  end_taken,
  data_taken,
  message_taken,
  refusing,
  raised,
  open_follows_of,
  follows_of,
  met_of,
  step_of,
}
use Rattle.calls.specs.declared.Call.{Call}
use Rattle.calls.specs.Calls.{
  close_refusal,
  send_refusal,
  begin_refusal,
  receive_refusal,
  initiator,
  expired,
  receive_outcome,
  close_outcome,
  send_outcome,
  begin_outcome,
  rule_of,
  outcome_of,
}
use Rattle.promises.specs.Promises.{tells_age, reported_by, GoesByAge}
use Rattle.calls.proofs.Replies.{both}
use Rattle.promises.proofs.Promises.{receive_refusal_by, tick_by}
use Rattle.promises.proofs.Opening.{Expects, expected_is, and_both}
use Rattle.promises.proofs.Delivery.{is_data}
use Rattle.promises.proofs.Valid.{no_way}

-- ---- what an age says, by its verdict

fresh_goes : (t : ℕ) (age : ℤ) (k : ℕ) → eqb k 206 ≡ false → eqb k 205 ≡ false → eqb k 0 || eqb k 204 ≡ true → verdict_of age t ≡ Fresh → GoesByAge t age k
unfolding verdict_of
fresh_goes t (pos n) k f l d e = go (ltb t n) refl (simp (le-ltb n 0 (omega arith)) at e)
  where
    go : (b : Bool) → ltb t n ≡ b → (when b answer Late else Fresh) ≡ Fresh → GoesByAge t (pos n) k
    go true q x = let z : ◌≡◌ {A = ℕ} 0 1 = cc in let w : ⊥ = omega arith in absurd w
    go false q _ =
        let h = ltb-false t n q in
        record { future = f ∙ sym (le-ltb n 0 (omega arith)); late = l ∙ sym q; fresh = d ∙ rw (le-leb 0 n (omega arith), le-leb n t h) refl }
fresh_goes t (negsuc n) k f l d e = let z : ◌≡◌ {A = ℕ} 0 1 = cc in let w : ⊥ = omega arith in absurd w

late_goes : (t : ℕ) (age : ℤ) → verdict_of age t ≡ Late → GoesByAge t age 205
unfolding verdict_of
late_goes t (pos n) e = go (ltb t n) refl (simp (le-ltb n 0 (omega arith)) at e)
  where
    go : (b : Bool) → ltb t n ≡ b → (when b answer Late else Fresh) ≡ Late → GoesByAge t (pos n) 205
    go true q _ =
        let h = ltb-true t n q in
        record { future = sym (le-ltb n 0 (omega arith)); late = sym q; fresh = rw (le-leb 0 n (omega arith), lt-leb n t h) refl }
    go false q x = let z : ◌≡◌ {A = ℕ} 0 1 = cc in let w : ⊥ = omega arith in absurd w
late_goes t (negsuc n) e = let z : ◌≡◌ {A = ℕ} 0 1 = cc in let w : ⊥ = omega arith in absurd w

future_goes : (t : ℕ) (age : ℤ) → verdict_of age t ≡ Future → GoesByAge t age 206
unfolding verdict_of
future_goes t (pos n) e = absurd (not_future (ltb t n) (simp (le-ltb n 0 (omega arith)) at e))
  where
    not_future : (b : Bool) → (when b answer Late else Fresh) ≡ Future → ⊥
    not_future true q = let z : ◌≡◌ {A = ℕ} 0 1 = cc in omega arith
    not_future false q = let z : ◌≡◌ {A = ℕ} 0 1 = cc in omega arith
future_goes t (negsuc n) e = record { future = refl; late = refl; fresh = refl }

is_future : (v : Verdict) → verdict_number v ≡ 206 → v ≡ Future
is_future Future e = refl
is_future Late e = let q : ⊥ = omega arith in absurd q
is_future Fresh e = let q : ⊥ = omega arith in absurd q

is_late : (v : Verdict) → verdict_number v ≡ 205 → v ≡ Late
is_late Future e = let q : ⊥ = omega arith in absurd q
is_late Late e = refl
is_late Fresh e = let q : ⊥ = omega arith in absurd q

is_fresh : (v : Verdict) → eqb (verdict_number v) 206 ≡ false → eqb (verdict_number v) 205 ≡ false → v ≡ Fresh
is_fresh Future a b = absurd (subst T a tt)
is_fresh Late a b = absurd (subst T b tt)
is_fresh Fresh a b = refl

-- ---- the answer is the fault's number

taken_number : (c : Connection) (now : Count) (h : Header) (t : Tail) → (message_taken c now h t).number ≡ 0
unfolding message_taken start_taken answ1_taken answ2_taken est_taken end_taken data_taken
taken_number c now h t =
    both Zero (eqb h.kind offset_start) _ _ (λ _. refl) (λ _.
    both Zero (eqb h.kind offset_answ1) _ _ (λ _. refl) (λ _.
    both Zero (eqb h.kind offset_answ2) _ _ (λ _. refl) (λ _.
    both Zero (eqb h.kind offset_est) _ _ (λ _. refl) (λ _.
    both Zero (eqb h.kind offset_end) _ _ (λ _. refl) (λ _. refl)))))
  where
    Zero : Outcome → Type 0
    Zero x = x.number ≡ 0

raised_number : (d : Connection) (k n : ℕ) → (raised d k n).number ≡ k
unfolding raised
raised_number d k n = both (λ (x : Outcome). x.number ≡ k) (leb d.settings.limit (d.errors + 1)) _ _ (λ _. refl) (λ _. refl)

module _ (c : Connection) (now : Count) (h : Header) (t : Tail) (k : ℕ) where
  abbrev Numbered : Outcome → Type 0
  Numbered x = x.number ≡ k

  open_number : (open_follows_of c now h t k).number ≡ k
  unfolding open_follows_of
  open_number =
      both Numbered (eqb k 202) _ _ (λ e. raised_number _ 202 0 ∙ sym (eqb-true k 202 e)) (λ _.
      both Numbered (eqb k 203) _ _ (λ e. sym (eqb-true k 203 e)) (λ _.
      both Numbered (eqb k 204) _ _ (λ e. raised_number _ 204 _ ∙ sym (eqb-true k 204 e)) (λ _. raised_number _ k 0)))

  follows_number : (follows_of c now h t k).number ≡ k
  unfolding follows_of refusing
  follows_number =
      both Numbered (eqb k 0) _ _ (λ e. taken_number c now h t ∙ sym (eqb-true k 0 e)) (λ _.
      both Numbered (eqb c.phase opened) _ _ (λ _. open_number) (λ _.
      both Numbered (eqb c.phase initiator_waits_for4 && eqb k 209) _ _ (λ e. sym (eqb-true k 209 (and_both (eqb c.phase initiator_waits_for4) (eqb k 209) e).1)) (λ _. refl)))

-- ---- the age that goes with it

-- AGE-8: none goes with an answer of set-up, and none with another number
in_set_up : (c : Connection) (k : ℕ) → eqb c.phase opened ≡ false → tells_age c k ≡ false
unfolding tells_age
in_set_up c k e = rw e refl

other_number : (c : Connection) (k : ℕ) → reports_age k ≡ false → tells_age c k ≡ false
unfolding tells_age
other_number c k e = rw e (and-false (eqb c.phase opened))

untold : (c : Connection) (now : Count) (p : Option Message) (k : ℕ) → tells_age c k ≡ false → no_age ≡ reported_by c now p k
untold c now None k e = refl
untold c now (Some m) k e =
    let off : (when tells_age c k answer (time_check_of c now m.header).age else no_age) ≡ no_age = rw e refl in
    sym off

pub none_with : (c : Connection) (now : Count) (p : Option Message) (k : ℕ) → reports_age k ≡ false → no_age ≡ reported_by c now p k
none_with c now p k e = untold c now p k (other_number c k e)

module _ (c : Connection) (now : Count) (h : Header) (t : Tail) (k : ℕ) where
  -- no message of set-up has one
  pub no_age_lem : eqb h.kind application ≡ false → age_with c now h k ≡ no_age
  unfolding age_with age_fault
  no_age_lem e = rw e (go (reports_age k))
    where
      go : (b : Bool) → (when b answer no_age else no_age) ≡ no_age
      go true = refl
      go false = refl

  set_up_age : eqb h.kind application ≡ false → eqb c.phase opened ≡ false → age_with c now h k ≡ reported_by c now (Some (whole h t)) k
  set_up_age e s = no_age_lem e ∙ untold c now (Some (whole h t)) k (in_set_up c k s)

  age_with_lem : Expects c.phase h.kind → age_with c now h k ≡ reported_by c now (Some (whole h t)) k
  unfolding age_with age_fault tells_age
  age_with_lem (Expects.x1 p e) = set_up_age (rw e refl) (rw p refl)
  age_with_lem (Expects.x2 p e) = set_up_age (rw e refl) (rw p refl)
  age_with_lem (Expects.x3 p e) = set_up_age (rw e refl) (rw p refl)
  age_with_lem (Expects.x4 p e) = set_up_age (rw e refl) (rw p refl)
  age_with_lem (Expects.x5 p e) = set_up_age (rw e refl) (rw p refl)
  age_with_lem (Expects.x6 p e) = rw (p, e) refl

-- ---- a receive

module _ (c : Connection) (now : Count) (message : List ℕ) where
  abbrev Reports : Outcome → Type 0
  Reports o = o.age ≡ reported_by c now (parsed_of message) o.number

  expected_reports : (h : Header) (t : Tail) → parsed_of message ≡ Some (whole h t) → Expects c.phase h.kind → Reports (met_of c now h t Expected)
  expected_reports h t w x =
      age_with_lem c now h t (fault_number c now h t) x
      ∙ ap (reported_by c now (Some (whole h t))) (sym (follows_number c now h t (fault_number c now h t)))
      ∙ ap (λ (p : Option Message). reported_by c now p (follows_of c now h t (fault_number c now h t)).number) (sym w)

  met_reports : (h : Header) (t : Tail) → parsed_of message ≡ Some (whole h t) → (x : Expectation) → expectation_of c.phase h.kind ≡ x → Reports (met_of c now h t x)
  unfolding reports_age
  met_reports h t w Expected e = expected_reports h t w (expected_is c.phase h.kind e)
  met_reports h t w Unexpected e = none_with c now (parsed_of message) 211 refl
  met_reports h t w Released e = none_with c now (parsed_of message) 211 refl

  step_reports : (p : Option Message) → parsed_of message ≡ p → Reports (step_of c now p)
  unfolding step_of malformed_of reports_age
  step_reports None e =
      both Reports (eqb c.phase opened) _ _ (λ _. none_with c now (parsed_of message) 201 refl) (λ _. none_with c now (parsed_of message) 201 refl)
  step_reports (Some m) e = met_reports m.header m.tail e (expectation_of c.phase m.header.kind) refl

  refused_reports : (room : ℕ) → eqb (receive_refusal c now room) 0 ≡ false → no_age ≡ reported_by c now (parsed_of message) (receive_refusal c now room)
  unfolding reports_age
  refused_reports room =
      receive_refusal_by (λ (k : ℕ). eqb k 0 ≡ false → no_age ≡ reported_by c now (parsed_of message) k) (λ e. no_way e) (λ _. none 101 refl) c now room
      (λ _. none 102 refl) (λ _. none 105 refl) (λ _. none 108 refl)
    where
      none : (k : ℕ) → reports_age k ≡ false → no_age ≡ reported_by c now (parsed_of message) k
      none k e = none_with c now (parsed_of message) k e

  pub receive_reports : (room : ℕ) → Reports (receive_outcome c now message room)
  unfolding receive_outcome reports_age
  receive_reports room =
      both Reports (not (eqb (receive_refusal c now room) 0)) _ _ (λ e. refused_reports room (not-true (eqb (receive_refusal c now room) 0) e)) (λ _.
      both Reports (expired c now) _ _ (λ _. none_with c now (parsed_of message) 207 refl) (λ _. step_reports (parsed_of message) refl))

-- AGE-7, AGE-8: of any call, the age that it reports
pub call_reports : (call : Call) (c : Connection) (now : Count) (lent : List ℕ) (room : ℕ)
    → (outcome_of call c now lent room).age ≡ reported_by c now ((rule_of call).message lent) (outcome_of call c now lent room).number
unfolding begin_outcome send_outcome close_outcome
call_reports (Call.Begin g) c now lent room =
    both (λ (o : Outcome). o.age ≡ no_age) (not (eqb (begin_refusal c g room) 0)) _ _ (λ _. refl)
    (λ _. both (λ (o : Outcome). o.age ≡ no_age) (eqb g.role initiator) _ _ (λ _. refl) (λ _. refl))
call_reports Call.Receive c now lent room = receive_reports c now lent room
call_reports Call.Send c now lent room = both (λ (o : Outcome). o.age ≡ no_age) (not (eqb (send_refusal c now (length lent) room) 0)) _ _ (λ _. refl) (λ _. refl)
call_reports Call.Tick c now lent room = tick_by (λ (o : Outcome). o.age ≡ no_age) c now (λ _. refl) (λ _ _. refl) (λ _. refl)
call_reports Call.Close c now lent room = both (λ (o : Outcome). o.age ≡ no_age) (not (eqb (close_refusal c) 0)) _ _ (λ _. refl) (λ _. refl)

-- ---- the answer goes by it

module _ (c : Connection) (now : Count) (h : Header) (t : Tail) where
  abbrev t_max_lem : ℕ
  t_max_lem = c.settings.t_max

  abbrev age : ℤ
  age = message_age c now h

  abbrev verdict : Verdict
  verdict = verdict_of age t_max_lem

  by_verdict : h.kind ≡ application → (age_fault c now h).number ≡ verdict_number verdict
  unfolding age_fault
  by_verdict type = rw (eq-eqb h.kind application type) refl

  abbrev Goes : ℕ → Type 0
  Goes k = reports_age k ≡ true → GoesByAge t_max_lem age k

  -- of a message that is expected when open
  fault_goes : h.kind ≡ application → Goes (fault_number c now h t)
  unfolding fault_number reports_age
  fault_goes type =
      both Goes (not_ahead h.kind (distance_of h.number c.peer.number)) _ _ (λ _ e. no_way (sym e)) (λ _.
      both Goes (beyond_n h.kind (distance_of h.number c.peer.number) c.settings.n) _ _ (λ _ e. no_way (sym e)) (λ _.
      both Goes (wrong_echo h.kind h.last_peer_stamp.0 c.wait_start.0) _ _ (λ _ e. no_way (sym e)) (λ _.
      both Goes (check_failed c h.kind t) _ _ (λ _ e. no_way (sym e)) (λ _.
      both Goes (eqb (age_fault c now h).number 206) _ _ (λ e _. future_goes t_max_lem age (is_future verdict (sym (by_verdict type) ∙ eqb-true _ 206 e))) (λ f.
      both Goes (eqb (age_fault c now h).number 205) _ _ (λ e _. late_goes t_max_lem age (is_late verdict (sym (by_verdict type) ∙ eqb-true _ 205 e))) (λ l.
      both Goes (gap h.kind (distance_of h.number c.peer.number)) _ _
      (λ _ _. fresh_goes t_max_lem age 204 refl refl refl (fresh f l)) (λ _ _. fresh_goes t_max_lem age 0 refl refl refl (fresh f l))))))))
    where
      fresh : eqb (age_fault c now h).number 206 ≡ false → eqb (age_fault c now h).number 205 ≡ false → verdict ≡ Fresh
      fresh f l = is_fresh verdict (rw (by_verdict type) at f) (rw (by_verdict type) at l)

  met_goes : c.phase ≡ opened → (x : Expectation) → expectation_of c.phase h.kind ≡ x → Goes (met_of c now h t x).number
  unfolding reports_age
  met_goes o Expected e = subst Goes (sym (follows_number c now h t (fault_number c now h t))) (fault_goes (is_data c now [] h (expected_is c.phase h.kind e) (eq-eqb c.phase opened o)))
  met_goes o Unexpected e = λ q. no_way (sym q)
  met_goes o Released e = λ q. no_way (sym q)

  judged_goes : c.phase ≡ opened → (message : List ℕ) (room : ℕ) → parsed_of message ≡ Some (whole h t) → Goes (receive_outcome c now message room).number
  unfolding receive_outcome step_of reports_age
  judged_goes o message room w =
      rw w
      (both By (not (eqb (receive_refusal c now room) 0)) _ _ (λ e. refused (not-true (eqb (receive_refusal c now room) 0) e)) (λ _.
      both By (expired c now) _ _ (λ _ q. no_way (sym q)) (λ _. met_goes o (expectation_of c.phase h.kind) refl)))
    where
      By : Outcome → Type 0
      By x = Goes x.number

      refused : eqb (receive_refusal c now room) 0 ≡ false → Goes (receive_refusal c now room)
      refused =
          receive_refusal_by (λ (k : ℕ). eqb k 0 ≡ false → Goes k) (λ e. no_way e) (λ _ q. no_way (sym q)) c now room
          (λ _ q. no_way (sym q)) (λ _ q. no_way (sym q)) (λ _ q. no_way (sym q))

-- bytes that are no message get none of the four
malformed_reports : (c : Connection) (now : Count) (message : List ℕ) (room : ℕ) → parsed_of message ≡ None
    → reports_age (receive_outcome c now message room).number ≡ false
unfolding receive_outcome step_of malformed_of reports_age
malformed_reports c now message room w =
    rw w
    (both Other (not (eqb (receive_refusal c now room) 0)) _ _ (λ e. refused (not-true (eqb (receive_refusal c now room) 0) e)) (λ _.
    both Other (expired c now) _ _ (λ _. refl) (λ _. both Other (eqb c.phase opened) _ _ (λ _. refl) (λ _. refl))))
  where
    Other : Outcome → Type 0
    Other o = reports_age o.number ≡ false

    refused : eqb (receive_refusal c now room) 0 ≡ false → reports_age (receive_refusal c now room) ≡ false
    refused =
        receive_refusal_by (λ (k : ℕ). eqb k 0 ≡ false → reports_age k ≡ false) (λ e. no_way e) (λ _. refl) c now room (λ _. refl) (λ _. refl) (λ _. refl)

-- AGE-7: which of the four answers it is goes by the age that is reported with it
pub receive_goes_by_age : (c : Connection) (now : Count) (message : List ℕ) (room : ℕ) → tells_age c (receive_outcome c now message room).number ≡ true
    → GoesByAge c.settings.t_max (receive_outcome c now message room).age.0 (receive_outcome c now message room).number
unfolding tells_age
receive_goes_by_age c now message room e = go (parsed_of message) refl
  where
    k : ℕ
    k = (receive_outcome c now message room).number

    told : (eqb c.phase opened ≡ true) × (reports_age k ≡ true)
    told = and_both (eqb c.phase opened) (reports_age k) e

    go : (p : Option Message) → parsed_of message ≡ p → GoesByAge c.settings.t_max (receive_outcome c now message room).age.0 k
    go None w = no_way (sym told.1 ∙ malformed_reports c now message room w)
    go (Some m) w =
        subst (λ (age : Age). GoesByAge c.settings.t_max age.0 k)
        (sym (receive_reports c now message room ∙ ap (λ (p : Option Message). reported_by c now p k) w ∙ rw (told.0, told.1) refl))
        (judged_goes c now m.header m.tail (eqb-true c.phase opened told.0) message room w told.1)
