-- The promises of the five calls on one record.
-- Assumes nothing.
use Prim.Native.Nat.{ℕ, ◌+◌}
use mathlib.Core.Path.{◌≡◌, refl, sym, subst, ◌∙◌}
use mathlib.Core.Bool.{Bool, true, false, not, ◌&&◌, ◌||◌}
use mathlib.Core.List.{List}
use lib.ListN.{length}
use native.Mathlib.Omega.{arith}
use borrow.Author.Tests.{not-true}
use lib.Dec.{T, ltb, leb, eqb}
use Rattle.clock.specs.Clock.{goes_back}
use Rattle.clock.specs.declared.Age.{Age}
use Rattle.clock.specs.declared.Count.{Count}
use Rattle.message.specs.Table.{offset_start, offset_answ1, offset_answ2, offset_est, offset_end, application, header_size, start_size, est_size, most_data}
use Rattle.message.specs.Read.{parsed_of}
use Rattle.message.specs.declared.Header.{Header}
use Rattle.message.specs.declared.Tail.{Tail}
use Rattle.std.proofs.Common.{Option, Some, None}
use Rattle.message.specs.declared.Message.{Message}
use Rattle.message.specs.Layout.{whole}
use Rattle.connection.specs.declared.Connection.{Connection}
use Rattle.number.specs.Number.{distance_of}
use Rattle.connection.specs.Connection.{
  closed,
  initiator_waits_for2,
  initiator_waits_for4,
  responder_waits_for1,
  responder_waits_for3,
  responder_waits_for5,
  opened,
  out_of_range,
  clocked,
  heard,
}
use Rattle.peer_faults.specs.declared.Expectation.{Expectation}
use Rattle.peer_faults.specs.declared.Expectation.TheVariants.{Expected, Unexpected, Released}
use Rattle.what_follows.specs.declared.Outcome.{Outcome}
use Rattle.peer_faults.specs.Faults.{expectation_of, not_ahead, beyond_n, wrong_echo, check_failed, age_fault, gap, fault_number, age_with}
use Rattle.what_follows.specs.Follows.{reporting, kept, released, malformed_of, start_taken, answ1_taken, answ2_taken, est_taken, end_taken, data_taken, message_taken, refusing, raised, open_follows_of, follows_of, met_of, step_of}
use Rattle.calls.specs.declared.Given.{Given}
use Rattle.calls.specs.declared.Call.{Call}
use Rattle.calls.specs.Calls.{
  bad,
  close_refusal,
  tick_refusal,
  receive_refusal,
  send_refusal,
  begin_refusal,
  timed,
  expired,
  receive_outcome,
  tick_outcome,
  close_outcome,
  send_outcome,
  begin_outcome,
  refused,
  initiator,
  responder,
  rule_of,
  outcome_of,
}
use Rattle.promises.specs.Promises.{
  ◌among◌,
  callers_fault,
  Unchanged,
  released_by,
}
use Rattle.calls.proofs.Replies.{both, none_refused}

-- ---- every refusal, once

module _ (Q : ℕ → Type 0) (z : Q 0) (a : Q 101) where
  pub close_refusal_by : (c : Connection) → Q 102 → Q (close_refusal c)
  unfolding close_refusal
  close_refusal_by c b = both Q (bad c) _ _ (λ _. a) (λ _. both Q (eqb c.phase closed) _ _ (λ _. b) (λ _. z))

  pub tick_refusal_by : (c : Connection) (now : Count) → Q 102 → Q 105 → Q (tick_refusal c now)
  unfolding tick_refusal
  tick_refusal_by c now b d =
      both Q (eqb (close_refusal c) 0) _ _ (λ _. both Q (goes_back now.0 c.clock.0) _ _ (λ _. d) (λ _. z)) (λ _. close_refusal_by c b)

  pub receive_refusal_by : (c : Connection) (now : Count) (room : ℕ) → Q 102 → Q 105 → Q 108 → Q (receive_refusal c now room)
  unfolding receive_refusal
  receive_refusal_by c now room b d e =
      both Q (eqb (tick_refusal c now) 0) _ _ (λ _. both Q (ltb room est_size) _ _ (λ _. e) (λ _. z)) (λ _. tick_refusal_by c now b d)

  pub send_refusal_by : (c : Connection) (now : Count) (size room : ℕ) → Q 102 → Q 105 → Q 106 → Q 107 → Q 108 → Q (send_refusal c now size room)
  unfolding send_refusal
  send_refusal_by c now size room b d e f g =
      both Q (eqb (tick_refusal c now) 0) _ _
      (λ _. both Q (not (eqb c.phase opened)) _ _ (λ _. e) (λ _.
      both Q (ltb most_data size) _ _ (λ _. f) (λ _. both Q (ltb room (header_size + size)) _ _ (λ _. g) (λ _. z))))
      (λ _. tick_refusal_by c now b d)

  pub begin_refusal_by : (c : Connection) (g : Given) (room : ℕ) → Q 103 → Q 104 → Q 108 → Q (begin_refusal c g room)
  unfolding begin_refusal
  begin_refusal_by c g room b d e =
      both Q (bad c) _ _ (λ _. a) (λ _.
      both Q (not (eqb c.phase closed)) _ _ (λ _. b) (λ _.
      both Q (ltb responder g.role || out_of_range g.settings) _ _ (λ _. d) (λ _. both Q (eqb g.role initiator && ltb room start_size) _ _ (λ _. e) (λ _. z))))

-- ---- every outcome of a receive or a tick, once: a promise is shown by its leaves

-- the faults of a message that is expected
pub data IsFault : ℕ → Type 0 where
  f202 : IsFault 202
  f203 : IsFault 203
  f208 : IsFault 208
  f209 : IsFault 209
  f206 : IsFault 206
  f205 : IsFault 205
  f204 : IsFault 204

-- a promise that does not look at the age that is reported
abbrev pub Ageless : (Outcome → Type 0) → Type 0
Ageless P = (age : Age) (o : Outcome) → P o → P (reporting age o)

pub record Ways (P : Outcome → Type 0) (c : Connection) (now : Count) (p : Option Message) : Type 0 where
  pub malformed_open : eqb c.phase opened ≡ true → P (kept 201 0 (clocked c now))
  pub malformed_set_up : eqb c.phase opened ≡ false → P (released 201 0)
  pub unexpected : eqb c.phase opened ≡ true → P (kept 211 0 (clocked c now))
  pub unexpected_set_up : eqb c.phase opened ≡ false → P (released 211 0)
  pub taken : (h : Header) (t : Tail) → p ≡ Some (whole h t) → expectation_of c.phase h.kind ≡ Expected → fault_number c now h t ≡ 0 → P (message_taken c now h t)
  pub refusing : (h : Header) → eqb c.phase opened ≡ false → P (refusing c now h)
  pub in_set_up : (k : ℕ) → IsFault k → eqb c.phase opened ≡ false → P (released k 0)
  pub dropped : eqb c.phase opened ≡ true → P (raised (clocked c now) 202 0)
  pub too_far_lem : eqb c.phase opened ≡ true → P (released 203 0)
  pub after_gap : (h : Header) (t : Tail) → p ≡ Some (whole h t) → expectation_of c.phase h.kind ≡ Expected → eqb c.phase opened ≡ true
      → P (raised (heard (clocked c now) h now) 204 t.«data»)
  pub raising : (h : Header) (t : Tail) → p ≡ Some (whole h t) → (k : ℕ) → IsFault k → eqb k 203 ≡ false → eqb k 204 ≡ false → eqb c.phase opened ≡ true
      → P (raised (heard (clocked c now) h now) k 0)

-- an unexpected type: open, or in set-up
unexpected_open : (phase type : ℕ) → expectation_of phase type ≡ Unexpected → eqb phase opened ≡ true
unfolding expectation_of
unexpected_open phase type =
    both (λ x. x ≡ Unexpected → eqb phase opened ≡ true) (eqb phase initiator_waits_for2 && eqb type offset_answ1) _ _ (λ _ e. (let z : ◌≡◌ {A = ℕ} 0 1 = cc in let q : ⊥ = omega arith in absurd q)) (λ _.
    both (λ x. x ≡ Unexpected → eqb phase opened ≡ true) (eqb phase initiator_waits_for4 && eqb type offset_est) _ _ (λ _ e. (let z : ◌≡◌ {A = ℕ} 0 1 = cc in let q : ⊥ = omega arith in absurd q)) (λ _.
    both (λ x. x ≡ Unexpected → eqb phase opened ≡ true) (eqb phase responder_waits_for1 && eqb type offset_start) _ _ (λ _ e. (let z : ◌≡◌ {A = ℕ} 0 1 = cc in let q : ⊥ = omega arith in absurd q)) (λ _.
    both (λ x. x ≡ Unexpected → eqb phase opened ≡ true) (eqb phase responder_waits_for3 && eqb type offset_answ2) _ _ (λ _ e. (let z : ◌≡◌ {A = ℕ} 0 1 = cc in let q : ⊥ = omega arith in absurd q)) (λ _.
    both (λ x. x ≡ Unexpected → eqb phase opened ≡ true) (eqb phase responder_waits_for5 && eqb type offset_end) _ _ (λ _ e. (let z : ◌≡◌ {A = ℕ} 0 1 = cc in let q : ⊥ = omega arith in absurd q)) (λ _.
    both (λ x. x ≡ Unexpected → eqb phase opened ≡ true) (eqb phase opened && eqb type application) _ _ (λ _ e. (let z : ◌≡◌ {A = ℕ} 0 1 = cc in let q : ⊥ = omega arith in absurd q)) (λ _.
    both (λ x. x ≡ Unexpected → eqb phase opened ≡ true) (eqb phase opened) _ _ (λ o e. o) (λ s e. (let z : ◌≡◌ {A = ℕ} 0 1 = cc in let q : ⊥ = omega arith in absurd q))))))))

unexpected_released : (phase type : ℕ) → expectation_of phase type ≡ Released → eqb phase opened ≡ false
unfolding expectation_of
unexpected_released phase type =
    both (λ x. x ≡ Released → eqb phase opened ≡ false) (eqb phase initiator_waits_for2 && eqb type offset_answ1) _ _ (λ _ e. (let z : ◌≡◌ {A = ℕ} 0 1 = cc in let q : ⊥ = omega arith in absurd q)) (λ _.
    both (λ x. x ≡ Released → eqb phase opened ≡ false) (eqb phase initiator_waits_for4 && eqb type offset_est) _ _ (λ _ e. (let z : ◌≡◌ {A = ℕ} 0 1 = cc in let q : ⊥ = omega arith in absurd q)) (λ _.
    both (λ x. x ≡ Released → eqb phase opened ≡ false) (eqb phase responder_waits_for1 && eqb type offset_start) _ _ (λ _ e. (let z : ◌≡◌ {A = ℕ} 0 1 = cc in let q : ⊥ = omega arith in absurd q)) (λ _.
    both (λ x. x ≡ Released → eqb phase opened ≡ false) (eqb phase responder_waits_for3 && eqb type offset_answ2) _ _ (λ _ e. (let z : ◌≡◌ {A = ℕ} 0 1 = cc in let q : ⊥ = omega arith in absurd q)) (λ _.
    both (λ x. x ≡ Released → eqb phase opened ≡ false) (eqb phase responder_waits_for5 && eqb type offset_end) _ _ (λ _ e. (let z : ◌≡◌ {A = ℕ} 0 1 = cc in let q : ⊥ = omega arith in absurd q)) (λ _.
    both (λ x. x ≡ Released → eqb phase opened ≡ false) (eqb phase opened && eqb type application) _ _ (λ _ e. (let z : ◌≡◌ {A = ℕ} 0 1 = cc in let q : ⊥ = omega arith in absurd q)) (λ _.
    both (λ x. x ≡ Released → eqb phase opened ≡ false) (eqb phase opened) _ _ (λ o e. (let z : ◌≡◌ {A = ℕ} 0 1 = cc in let q : ⊥ = omega arith in absurd q)) (λ s e. s)))))))

module _ (P : Outcome → Type 0) (ageless : Ageless P) (c : Connection) (now : Count) (p : Option Message) (l : Ways P c now p) where
  module _ (h : Header) (t : Tail) (w : p ≡ Some (whole h t)) (x : expectation_of c.phase h.kind ≡ Expected) where
    open_leaf : (k : ℕ) → IsFault k → eqb c.phase opened ≡ true → P (open_follows_of c now h t k)
    unfolding open_follows_of
    open_leaf k f o =
        both P (eqb k 202) _ _ (λ _. l.dropped o) (λ _.
        both P (eqb k 203) _ _ (λ _. l.too_far_lem o) (λ e.
        both P (eqb k 204) _ _ (λ _. l.after_gap h t w x o) (λ d. l.raising h t w k f e d o)))

    fault_leaf : (k : ℕ) → eqb k 0 ≡ false → IsFault k → P (follows_of c now h t k)
    unfolding follows_of
    fault_leaf k z f =
        rw z
        (both P (eqb c.phase opened) _ _ (λ o. open_leaf k f o) (λ s.
        both P (eqb c.phase initiator_waits_for4 && eqb k 209) _ _ (λ _. l.refusing h s) (λ _. l.in_set_up k f s)))

    taken_leaf : fault_number c now h t ≡ 0 → P (follows_of c now h t 0)
    unfolding follows_of
    taken_leaf e = l.taken h t w x e

    Judged : ℕ → Type 0
    Judged k = fault_number c now h t ≡ k → P (follows_of c now h t k)

    follows_leaf : P (follows_of c now h t (fault_number c now h t))
    unfolding fault_number Judged
    follows_leaf =
        (both Judged (not_ahead h.kind (distance_of h.number c.peer.number)) _ _ (λ _ _. fault_leaf 202 refl f202) (λ _.
        both Judged (beyond_n h.kind (distance_of h.number c.peer.number) c.settings.n) _ _ (λ _ _. fault_leaf 203 refl f203) (λ _.
        both Judged (wrong_echo h.kind h.last_peer_stamp.0 c.wait_start.0) _ _ (λ _ _. fault_leaf 208 refl f208) (λ _.
        both Judged (check_failed c h.kind t) _ _ (λ _ _. fault_leaf 209 refl f209) (λ _.
        both Judged (eqb (age_fault c now h).number 206) _ _ (λ _ _. fault_leaf 206 refl f206) (λ _.
        both Judged (eqb (age_fault c now h).number 205) _ _ (λ _ _. fault_leaf 205 refl f205) (λ _.
        both Judged (gap h.kind (distance_of h.number c.peer.number)) _ _ (λ _ _. fault_leaf 204 refl f204) (λ _.
        λ e. taken_leaf e)))))))) refl

  met_leaf : (h : Header) (t : Tail) → p ≡ Some (whole h t) → (x : Expectation) → expectation_of c.phase h.kind ≡ x → P (met_of c now h t x)
  met_leaf h t w Expected e = ageless (age_with c now h (fault_number c now h t)) (follows_of c now h t (fault_number c now h t)) (follows_leaf h t w e)
  met_leaf h t w Unexpected e = l.unexpected (unexpected_open c.phase h.kind e)
  met_leaf h t w Released e = l.unexpected_set_up (unexpected_released c.phase h.kind e)

step_leaf : (P : Outcome → Type 0) → Ageless P → (c : Connection) (now : Count) (p : Option Message) → Ways P c now p → P (step_of c now p)
unfolding step_of malformed_of
step_leaf P ageless c now None l = both P (eqb c.phase opened) _ _ (λ o. l.malformed_open o) (λ s. l.malformed_set_up s)
step_leaf P ageless c now (Some m) l = met_leaf P ageless c now (Some (whole m.header m.tail)) l m.header m.tail refl (expectation_of c.phase m.header.kind) refl

-- receive: refused, or the wait is over, or the message is judged
pub receive_by : (P : Outcome → Type 0) → Ageless P → (c : Connection) (now : Count) (message : List ℕ) (room : ℕ)
    → (not (eqb (receive_refusal c now room) 0) ≡ true → P (refused (receive_refusal c now room) c))
    → (receive_refusal c now room ≡ 0 → expired c now ≡ true → P (released 207 0))
    → (receive_refusal c now room ≡ 0 → Ways P c now (parsed_of message))
    → P (receive_outcome c now message room)
unfolding receive_outcome
receive_by P ageless c now message room f g l =
    both P (not (eqb (receive_refusal c now room) 0)) _ _ f (λ e.
    both P (expired c now) _ _ (g (none_refused (receive_refusal c now room) e)) (λ _. step_leaf P ageless c now (parsed_of message) (l (none_refused (receive_refusal c now room) e))))

pub tick_by : (P : Outcome → Type 0) (c : Connection) (now : Count)
    → (not (eqb (tick_refusal c now) 0) ≡ true → P (refused (tick_refusal c now) c))
    → (tick_refusal c now ≡ 0 → expired c now ≡ true → P (released 207 0))
    → (tick_refusal c now ≡ 0 → P (kept 0 0 (clocked c now)))
    → P (tick_outcome c now)
unfolding tick_outcome
tick_by P c now f g l =
    both P (not (eqb (tick_refusal c now) 0)) _ _ f (λ e.
    both P (expired c now) _ _ (g (none_refused (tick_refusal c now) e)) (λ _. l (none_refused (tick_refusal c now) e)))

-- ---- the answer is one of the numbers that are listed for the call

abbrev In : List ℕ → Outcome → Type 0
In ns o = o.number among ns ≡ true

raised_in : (ns : List ℕ) (c : Connection) (k n : ℕ) → k among ns ≡ true → In ns (raised c k n)
unfolding raised
raised_in ns c k n m = both (In ns) (leb c.settings.limit (c.errors + 1)) _ _ (λ _. m) (λ _. m)

taken_in : (c : Connection) (now : Count) (h : Header) (t : Tail) → In (rule_of Call.Receive).numbers (message_taken c now h t)
unfolding message_taken start_taken answ1_taken answ2_taken est_taken end_taken data_taken
taken_in c now h t =
    both (In (rule_of Call.Receive).numbers) (eqb h.kind offset_start) _ _ (λ _. refl) (λ _.
    both (In (rule_of Call.Receive).numbers) (eqb h.kind offset_answ1) _ _ (λ _. refl) (λ _.
    both (In (rule_of Call.Receive).numbers) (eqb h.kind offset_answ2) _ _ (λ _. refl) (λ _.
    both (In (rule_of Call.Receive).numbers) (eqb h.kind offset_est) _ _ (λ _. refl) (λ _.
    both (In (rule_of Call.Receive).numbers) (eqb h.kind offset_end) _ _ (λ _. refl) (λ _. refl)))))

fault_in_lem : {k : ℕ} → IsFault k → k among (rule_of Call.Receive).numbers ≡ true
fault_in_lem f202 = refl
fault_in_lem f203 = refl
fault_in_lem f208 = refl
fault_in_lem f209 = refl
fault_in_lem f206 = refl
fault_in_lem f205 = refl
fault_in_lem f204 = refl

pub receive_number : (c : Connection) (now : Count) (message : List ℕ) (room : ℕ) → (receive_outcome c now message room).number among (rule_of Call.Receive).numbers ≡ true
unfolding refusing
receive_number c now message room =
    receive_by (In (rule_of Call.Receive).numbers) (λ _ _ x. x) c now message room (λ _. receive_refusal_by (λ k. k among (rule_of Call.Receive).numbers ≡ true) refl refl c now room refl refl refl) (λ _ _. refl)
    (λ _. record {
      malformed_open = λ _. refl;
      malformed_set_up = λ _. refl;
      unexpected = λ _. refl;
      unexpected_set_up = λ _. refl;
      taken = λ h t _ _ _. taken_in c now h t;
      refusing = λ _ _. refl;
      in_set_up = λ k f _. fault_in_lem f;
      dropped = λ _. raised_in (rule_of Call.Receive).numbers (clocked c now) 202 0 refl;
      too_far_lem = λ _. refl;
      after_gap = λ h t _ _ _. raised_in (rule_of Call.Receive).numbers (heard (clocked c now) h now) 204 t.«data» refl;
      raising = λ h _ _ k f _ _ _. raised_in (rule_of Call.Receive).numbers (heard (clocked c now) h now) k 0 (fault_in_lem f);
    })

pub tick_number : (c : Connection) (now : Count) → (tick_outcome c now).number among (rule_of Call.Tick).numbers ≡ true
tick_number c now =
    tick_by (In (rule_of Call.Tick).numbers) c now (λ _. tick_refusal_by (λ k. k among (rule_of Call.Tick).numbers ≡ true) refl refl c now refl refl) (λ _ _. refl) (λ _. refl)

pub close_number : (c : Connection) → (close_outcome c).number among (rule_of Call.Close).numbers ≡ true
unfolding close_outcome
close_number c = both (In (rule_of Call.Close).numbers) (not (eqb (close_refusal c) 0)) _ _ (λ _. close_refusal_by (λ k. k among (rule_of Call.Close).numbers ≡ true) refl refl c refl) (λ _. refl)

pub send_number : (c : Connection) (now : Count) (size room : ℕ) → (send_outcome c now size room).number among (rule_of Call.Send).numbers ≡ true
unfolding send_outcome
send_number c now size room = both (In (rule_of Call.Send).numbers) (not (eqb (send_refusal c now size room) 0)) _ _ (λ _. send_refusal_by (λ k. k among (rule_of Call.Send).numbers ≡ true) refl refl c now size room refl refl refl refl refl) (λ _. refl)

pub begin_number : (c : Connection) (g : Given) (now : Count) (room : ℕ)
    → (begin_outcome c g now room).number among (rule_of (Call.Begin g)).numbers ≡ true
unfolding begin_outcome
begin_number c g now room =
    both (In (rule_of (Call.Begin g)).numbers) (not (eqb (begin_refusal c g room) 0)) _ _ (λ _. begin_refusal_by (λ k. k among (rule_of (Call.Begin g)).numbers ≡ true) refl refl c g room refl refl refl) (λ _. both (In (rule_of (Call.Begin g)).numbers) (eqb g.role initiator) _ _ (λ _. refl) (λ _. refl))

pub call_number : (call : Call) (c : Connection) (now : Count) (lent : List ℕ) (room : ℕ) → (outcome_of call c now lent room).number among (rule_of call).numbers ≡ true
call_number (Call.Begin g) c now lent room = begin_number c g now room
call_number Call.Receive c now lent room = receive_number c now lent room
call_number Call.Send c now lent room = send_number c now (length lent) room
call_number Call.Tick c now lent room = tick_number c now
call_number Call.Close c now lent room = close_number c

-- ---- DEMAND-1, CALL-KEPT: a 1xx changes no record and no lent byte

abbrev Fair : Connection → Outcome → Type 0
Fair c o = callers_fault o.number ≡ true → Unchanged c o

kept_fair : (k : ℕ) (c : Connection) → Fair c (refused k c)
kept_fair k c e = record { same_record = refl; nothing_written = refl; nothing_delivered = refl; not_released = refl }

fair_ageless : (c : Connection) → Ageless (Fair c)
fair_ageless c age o f e =
    let u = f e in
    record { same_record = u.same_record; nothing_written = u.nothing_written; nothing_delivered = u.nothing_delivered; not_released = u.not_released }

-- an answer that is no 1xx
other : {X : Type 0} (k : ℕ) → callers_fault k ≡ false → callers_fault k ≡ true → X
other k p q = absurd (subst T (sym (sym p ∙ q)) tt)

raised_fair : (c d : Connection) (k n : ℕ) → callers_fault k ≡ false → Fair c (raised d k n)
unfolding raised
raised_fair c d k n f = both (Fair c) (leb d.settings.limit (d.errors + 1)) _ _ (λ _. other k f) (λ _. other k f)

taken_fair : (c : Connection) (now : Count) (h : Header) (t : Tail) → Fair c (message_taken c now h t)
unfolding message_taken start_taken answ1_taken answ2_taken est_taken end_taken data_taken
taken_fair c now h t =
    both (Fair c) (eqb h.kind offset_start) _ _ (λ _. other 0 refl) (λ _.
    both (Fair c) (eqb h.kind offset_answ1) _ _ (λ _. other 0 refl) (λ _.
    both (Fair c) (eqb h.kind offset_answ2) _ _ (λ _. other 0 refl) (λ _.
    both (Fair c) (eqb h.kind offset_est) _ _ (λ _. other 0 refl) (λ _.
    both (Fair c) (eqb h.kind offset_end) _ _ (λ _. other 0 refl) (λ _. other 0 refl)))))

fault_fair : {k : ℕ} → IsFault k → callers_fault k ≡ false
fault_fair f202 = refl
fault_fair f203 = refl
fault_fair f208 = refl
fault_fair f209 = refl
fault_fair f206 = refl
fault_fair f205 = refl
fault_fair f204 = refl

pub receive_refusal_changes_nothing : (c : Connection) (now : Count) (message : List ℕ) (room : ℕ)
    → callers_fault (receive_outcome c now message room).number ≡ true → Unchanged c (receive_outcome c now message room)
unfolding refusing
receive_refusal_changes_nothing c now message room =
    receive_by (Fair c) (fair_ageless c) c now message room (λ _. kept_fair (receive_refusal c now room) c) (λ _ _. other 207 refl)
    (λ _. record {
      malformed_open = λ _. other 201 refl;
      malformed_set_up = λ _. other 201 refl;
      unexpected = λ _. other 211 refl;
      unexpected_set_up = λ _. other 211 refl;
      taken = λ h t _ _ _. taken_fair c now h t;
      refusing = λ _ _. other 209 refl;
      in_set_up = λ k f _. other k (fault_fair f);
      dropped = λ _. raised_fair c (clocked c now) 202 0 refl;
      too_far_lem = λ _. other 203 refl;
      after_gap = λ h t _ _ _. raised_fair c (heard (clocked c now) h now) 204 t.«data» refl;
      raising = λ h _ _ k f _ _ _. raised_fair c (heard (clocked c now) h now) k 0 (fault_fair f);
    })

pub tick_refusal_changes_nothing : (c : Connection) (now : Count)
    → callers_fault (tick_outcome c now).number ≡ true → Unchanged c (tick_outcome c now)
tick_refusal_changes_nothing c now =
    tick_by (Fair c) c now (λ _. kept_fair (tick_refusal c now) c) (λ _ _. other 207 refl) (λ _. other 0 refl)

pub close_refusal_changes_nothing : (c : Connection) → callers_fault (close_outcome c).number ≡ true → Unchanged c (close_outcome c)
unfolding close_outcome
close_refusal_changes_nothing c = both (Fair c) (not (eqb (close_refusal c) 0)) _ _ (λ _. kept_fair (close_refusal c) c) (λ _. other 0 refl)

pub send_refusal_changes_nothing : (c : Connection) (now : Count) (size room : ℕ)
    → callers_fault (send_outcome c now size room).number ≡ true → Unchanged c (send_outcome c now size room)
unfolding send_outcome
send_refusal_changes_nothing c now size room =
    both (Fair c) (not (eqb (send_refusal c now size room) 0)) _ _ (λ _. kept_fair (send_refusal c now size room) c) (λ _. other 0 refl)

pub begin_refusal_changes_nothing : (c : Connection) (g : Given) (now : Count) (room : ℕ)
    → callers_fault (begin_outcome c g now room).number ≡ true → Unchanged c (begin_outcome c g now room)
unfolding begin_outcome
begin_refusal_changes_nothing c g now room =
    both (Fair c) (not (eqb (begin_refusal c g room) 0)) _ _ (λ _. kept_fair (begin_refusal c g room) c)
    (λ _. both (Fair c) (eqb g.role initiator) _ _ (λ _. other 0 refl) (λ _. other 0 refl))

pub call_refusal_changes_nothing : (call : Call) (c : Connection) (now : Count) (lent : List ℕ) (room : ℕ)
    → callers_fault (outcome_of call c now lent room).number ≡ true → Unchanged c (outcome_of call c now lent room)
call_refusal_changes_nothing (Call.Begin g) c now lent room = begin_refusal_changes_nothing c g now room
call_refusal_changes_nothing Call.Receive c now lent room = receive_refusal_changes_nothing c now lent room
call_refusal_changes_nothing Call.Send c now lent room = send_refusal_changes_nothing c now (length lent) room
call_refusal_changes_nothing Call.Tick c now lent room = tick_refusal_changes_nothing c now
call_refusal_changes_nothing Call.Close c now lent room = close_refusal_changes_nothing c

-- ---- released exactly when PEER-SAYS and CALL-SAYS have it

abbrev Rel : Connection → Outcome → Type 0
Rel c o = o.released ≡ released_by c o.number

-- a number with which a call refuses, or none
abbrev Refusal : Connection → ℕ → Type 0
Refusal c k = false ≡ released_by c k

-- an open connection has no wait
pub not_open : (c : Connection) (now : Count) → expired c now ≡ true → eqb c.phase opened ≡ false
unfolding expired timed
not_open c now e = go (eqb c.phase responder_waits_for1) (eqb c.phase opened) _ e
  where
    go : (a b over : Bool) → not a && not b && over ≡ true → b ≡ false
    go a false over e = refl
    go true true over e = sym e
    go false true over e = sym e

raised_rel : (c d : Connection) (k n : ℕ) → d.settings ≡ c.settings → d.errors ≡ c.errors
    → released_by c k ≡ leb c.settings.limit (c.errors + 1) → Rel c (raised d k n)
unfolding raised
raised_rel c d k n s e r =
    both (Rel c) (leb d.settings.limit (d.errors + 1)) _ _ (λ t. sym (r ∙ same ∙ t)) (λ t. sym (r ∙ same ∙ t))
  where
    same : leb c.settings.limit (c.errors + 1) ≡ leb d.settings.limit (d.errors + 1)
    same = rw (s, e)

taken_rel : (c : Connection) (now : Count) (h : Header) (t : Tail) → Rel c (message_taken c now h t)
unfolding message_taken start_taken answ1_taken answ2_taken est_taken end_taken data_taken released_by
taken_rel c now h t =
    both (Rel c) (eqb h.kind offset_start) _ _ (λ _. refl) (λ _.
    both (Rel c) (eqb h.kind offset_answ1) _ _ (λ _. refl) (λ _.
    both (Rel c) (eqb h.kind offset_answ2) _ _ (λ _. refl) (λ _.
    both (Rel c) (eqb h.kind offset_est) _ _ (λ _. refl) (λ _.
    both (Rel c) (eqb h.kind offset_end) _ _ (λ _. refl) (λ _. refl)))))

set_up_rel : (c : Connection) {k : ℕ} → IsFault k → eqb c.phase opened ≡ false → true ≡ released_by c k
unfolding released_by
set_up_rel c f202 s = simp s
set_up_rel c f203 s = simp s
set_up_rel c f208 s = simp s
set_up_rel c f209 s = simp s
set_up_rel c f206 s = simp s
set_up_rel c f205 s = simp s
set_up_rel c f204 s = simp s

open_rel : (c : Connection) {k : ℕ} → IsFault k → eqb k 203 ≡ false → eqb c.phase opened ≡ true → released_by c k ≡ leb c.settings.limit (c.errors + 1)
unfolding released_by
open_rel c f202 n o = simp o
open_rel c f203 n o = absurd (subst T n tt)
open_rel c f208 n o = simp o
open_rel c f209 n o = simp o
open_rel c f206 n o = simp o
open_rel c f205 n o = simp o
open_rel c f204 n o = simp o

pub receive_released : (c : Connection) (now : Count) (message : List ℕ) (room : ℕ)
    → (receive_outcome c now message room).released ≡ released_by c (receive_outcome c now message room).number
unfolding refusing released_by
receive_released c now message room =
    receive_by (Rel c) (λ _ _ x. x) c now message room
    (λ _. receive_refusal_by (Refusal c) refl refl c now room refl refl refl)
    (λ _ e. simp (not_open c now e))
    (λ _. record {
      malformed_open = λ o. simp o;
      malformed_set_up = λ s. simp s;
      unexpected = λ o. simp o;
      unexpected_set_up = λ s. simp s;
      taken = λ h t _ _ _. taken_rel c now h t;
      refusing = λ h s. simp s;
      in_set_up = λ k f s. set_up_rel c f s;
      dropped = λ o. raised_rel c (clocked c now) 202 0 refl refl (open_rel c f202 refl o);
      too_far_lem = λ o. simp o;
      after_gap = λ h t _ _ o. raised_rel c (heard (clocked c now) h now) 204 t.«data» refl refl (open_rel c f204 refl o);
      raising = λ h _ _ k f n _ o. raised_rel c (heard (clocked c now) h now) k 0 refl refl (open_rel c f n o);
    })

pub tick_released : (c : Connection) (now : Count) → (tick_outcome c now).released ≡ released_by c (tick_outcome c now).number
unfolding released_by
tick_released c now =
    tick_by (Rel c) c now (λ _. tick_refusal_by (Refusal c) refl refl c now refl refl) (λ _ e. simp (not_open c now e)) (λ _. refl)

-- CALL-SAYS: of the answers outside the peer's faults, close's 0
pub close_released : (c : Connection) → (close_outcome c).released ≡ eqb (close_outcome c).number 0
unfolding close_outcome
close_released c =
    both (λ (o : Outcome). o.released ≡ eqb o.number 0) (not (eqb (close_refusal c) 0)) _ _ (λ e. sym (not-true (eqb (close_refusal c) 0) e)) (λ _. refl)

pub send_kept : (c : Connection) (now : Count) (size room : ℕ) → (send_outcome c now size room).released ≡ false
unfolding send_outcome
send_kept c now size room = both (λ (o : Outcome). o.released ≡ false) (not (eqb (send_refusal c now size room) 0)) _ _ (λ _. refl) (λ _. refl)

pub begin_kept : (c : Connection) (g : Given) (now : Count) (room : ℕ)
    → (begin_outcome c g now room).released ≡ false
unfolding begin_outcome
begin_kept c g now room =
    both (λ (o : Outcome). o.released ≡ false) (not (eqb (begin_refusal c g room) 0)) _ _ (λ _. refl)
    (λ _. both (λ (o : Outcome). o.released ≡ false) (eqb g.role initiator) _ _ (λ _. refl) (λ _. refl))
