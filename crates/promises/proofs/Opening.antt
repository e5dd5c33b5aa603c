-- SHUT-4: a connection is open only after all five messages of the exchange, in order, each echoing the one before.
-- Assumes nothing.
use Prim.Native.Nat.{ℕ, suc, ◌+◌, ◌≤◌}
use mathlib.Core.Path.{◌≡◌, refl, sym, ap, subst, ◌∙◌}
use mathlib.Core.Bool.{Bool, true, false, not, ◌&&◌}
use mathlib.Core.List.{List, [], ◌∷◌}
use native.Mathlib.Omega.{arith}
use borrow.Author.Tests.{eqb-true, eqb-false, le-leb, not-true, not-false}
use lib.Dec.{T, leb, eqb, lit<}
use lib.ListN.{length}
use Rattle.rules.specs.Rows.{when◌answer◌else◌}
use Rattle.clock.specs.declared.Count.{Count}
use Rattle.number.specs.Number.{distance_of}
use Rattle.message.specs.Table.{offset_start, offset_answ1, offset_answ2, offset_est, offset_end, application}
use Rattle.message.specs.Read.{parsed_of}
use Rattle.message.specs.declared.Header.{Header}
use Rattle.message.specs.declared.Tail.{Tail}
use Rattle.std.proofs.Common.{Option, Some, None}
use Rattle.message.specs.declared.Message.{Message}
use Rattle.message.specs.Layout.{whole}
use Rattle.connection.specs.declared.Connection.{Connection}
use Rattle.connection.specs.Connection.{
  closed,
  initiator_waits_for2,
  initiator_waits_for4,
  responder_waits_for1,
  responder_waits_for3,
  responder_waits_for5,
  opened,
  clocked,
  heard,
}
use Rattle.peer_faults.specs.declared.Expectation.TheVariants.{Expected}
use Rattle.what_follows.specs.declared.Outcome.{Outcome}
use Rattle.peer_faults.specs.Faults.{expectation_of, not_ahead, beyond_n, wrong_echo, fault_number}
use Rattle.what_follows.specs.Follows.{start_taken, answ1_taken, answ2_taken, est_taken, end_taken, data_taken, message_taken, refusing, raised}
use Rattle.calls.specs.declared.Given.{Given}
use Rattle.calls.specs.declared.Call.{Call}
use Rattle.calls.specs.Calls.{
  close_refusal,
  receive_refusal,
  send_refusal,
  begin_refusal,
  receive_outcome,
  tick_outcome,
  close_outcome,
  send_outcome,
  begin_outcome,
  tick_refusal,
  refused,
  initiator,
  rule_of,
  outcome_of,
}
use Rattle.promises.specs.Opening.{with_sent, with_taken, log_after, Run, Exchange, FiveMessages}
use Rattle.calls.proofs.Replies.{both, row_off, then_off, none_refused, tick_silent, close_silent}
use Rattle.promises.proofs.Promises.{Ageless, receive_by, tick_by}

-- the phases, and the type that each expects
pub data Expects (phase type : ℕ) : Type 0 where
  x2 : phase ≡ initiator_waits_for2 → type ≡ offset_answ1 → Expects phase type
  x4 : phase ≡ initiator_waits_for4 → type ≡ offset_est → Expects phase type
  x1 : phase ≡ responder_waits_for1 → type ≡ offset_start → Expects phase type
  x3 : phase ≡ responder_waits_for3 → type ≡ offset_answ2 → Expects phase type
  x5 : phase ≡ responder_waits_for5 → type ≡ offset_end → Expects phase type
  x6 : phase ≡ opened → type ≡ application → Expects phase type

pub and_both : (a b : Bool) → a && b ≡ true → (a ≡ true) × (b ≡ true)
and_both true b e = (refl, e)
and_both false b e = absurd (subst T (sym e) tt)

pair : (phase type p q : ℕ) → eqb phase p && eqb type q ≡ true → (phase ≡ p) × (type ≡ q)
pair phase type p q e =
    let a = and_both (eqb phase p) (eqb type q) e in
    (eqb-true phase p a.0, eqb-true type q a.1)

pub expected_is : (phase type : ℕ) → expectation_of phase type ≡ Expected → Expects phase type
unfolding expectation_of
expected_is phase type =
    both (λ x. x ≡ Expected → Expects phase type) (eqb phase initiator_waits_for2 && eqb type offset_answ1) _ _ (λ e _. let a = pair phase type initiator_waits_for2 offset_answ1 e in x2 a.0 a.1) (λ _.
    both (λ x. x ≡ Expected → Expects phase type) (eqb phase initiator_waits_for4 && eqb type offset_est) _ _ (λ e _. let a = pair phase type initiator_waits_for4 offset_est e in x4 a.0 a.1) (λ _.
    both (λ x. x ≡ Expected → Expects phase type) (eqb phase responder_waits_for1 && eqb type offset_start) _ _ (λ e _. let a = pair phase type responder_waits_for1 offset_start e in x1 a.0 a.1) (λ _.
    both (λ x. x ≡ Expected → Expects phase type) (eqb phase responder_waits_for3 && eqb type offset_answ2) _ _ (λ e _. let a = pair phase type responder_waits_for3 offset_answ2 e in x3 a.0 a.1) (λ _.
    both (λ x. x ≡ Expected → Expects phase type) (eqb phase responder_waits_for5 && eqb type offset_end) _ _ (λ e _. let a = pair phase type responder_waits_for5 offset_end e in x5 a.0 a.1) (λ _.
    both (λ x. x ≡ Expected → Expects phase type) (eqb phase opened && eqb type application) _ _ (λ e _. let a = pair phase type opened application e in x6 a.0 a.1) (λ _.
    both (λ x. x ≡ Expected → Expects phase type) (eqb phase opened) _ _ (λ _ e. let z : ◌≡◌ {A = ℕ} 0 1 = cc in let q : ⊥ = omega arith in absurd q)
    (λ _ e. let z : ◌≡◌ {A = ℕ} 0 1 = cc in let q : ⊥ = omega arith in absurd q)))))))

-- of an errorless message of set-up, the echo is right
right_echo : (c : Connection) (now : Count) (h : Header) (t : Tail) → fault_number c now h t ≡ 0 → wrong_echo h.kind h.last_peer_stamp.0 c.wait_start.0 ≡ false
unfolding fault_number
right_echo c now h t e =
    let a = row_off (not_ahead h.kind (distance_of h.number c.peer.number)) 202 _ (lit< tt) e in
    let b = row_off (beyond_n h.kind (distance_of h.number c.peer.number) c.settings.n) 203 _ (lit< tt) a.1 in
    (row_off (wrong_echo h.kind h.last_peer_stamp.0 c.wait_start.0) 208 _ (lit< tt) b.1).0

echoes : (type echo stamp : ℕ) → offset_answ1 ≤ type → type ≤ offset_end → wrong_echo type echo stamp ≡ false → echo ≡ stamp
unfolding wrong_echo
echoes type echo stamp l u e = eqb-true echo stamp (not-false (eqb echo stamp) (simp (le-leb offset_answ1 type l, le-leb type offset_end u) at e))

-- ---- what holds after every call

-- the type of the newest message in each phase after the first
abbrev newest_type : ℕ → ℕ
newest_type phase =
    when eqb phase initiator_waits_for2 answer offset_start else
    when eqb phase responder_waits_for3 answer offset_answ1 else
    when eqb phase initiator_waits_for4 answer offset_answ2 else
    when eqb phase responder_waits_for5 answer offset_est else
    offset_end

data Holds (log : List Header) (c : Connection) : Type 0 where
  -- released
  over : c.phase ≡ closed → Holds log c
  -- the responder has heard nothing
  idle : c.phase ≡ responder_waits_for1 → log ≡ [] → Holds log c
  -- the newest message is ours and began the wait, or the connection is open
  amid : (h : Header) (rest : List Header) → log ≡ h ∷ rest → Exchange log → h.kind ≡ newest_type c.phase
      → (c.phase ≡ opened → ⊥) → h.stamp.0 ≡ c.wait_start.0 → (c.phase ≡ closed → ⊥) → (c.phase ≡ responder_waits_for1 → ⊥) → Holds log c
  opens : (h : Header) (rest : List Header) → log ≡ h ∷ rest → Exchange log → h.kind ≡ offset_end → c.phase ≡ opened → Holds log c

-- as long as its newest message's type says
long : {h : Header} {log : List Header} → Exchange (h ∷ log) → length (h ∷ log) ≡ h.kind
long (Exchange.first h e) = sym e
long (Exchange.next h g log x e s) = ap suc (long x) ∙ sym e

-- one message more
onward : (log : List Header) (g h : Header) (rest : List Header) → log ≡ g ∷ rest → Exchange log → h.kind ≡ suc g.kind
    → h.last_peer_stamp.0 ≡ g.stamp.0 → Exchange (h ∷ log)
onward log g h rest e x k s = subst (λ (l : List Header). Exchange (h ∷ l)) (sym e) (Exchange.next h g rest (subst Exchange e x) k s)

-- ---- a receive

module _ (log : List Header) (c : Connection) (now : Count) (message : List ℕ) where
  After : Outcome → Type 0
  After o = Holds (log_after Call.Receive c message o log) o.next

  -- a message that is not taken leaves the log
  left : (o : Outcome) → eqb o.number 0 ≡ false → log_after Call.Receive c message o log ≡ log
  unfolding log_after
  left o e = rw e (go (not (eqb c.phase opened)))
    where
      go : (b : Bool) → (when b && false answer with_sent o.reply (with_taken (parsed_of message) log) else log) ≡ log
      go true = refl
      go false = refl

  -- so does one that comes when open
  left_open : (o : Outcome) → eqb c.phase opened ≡ true → log_after Call.Receive c message o log ≡ log
  unfolding log_after
  left_open o e = rw e

  -- in set-up it stands before what is sent back
  grown : (o : Outcome) (h : Header) (t : Tail) → eqb c.phase opened ≡ false → o.number ≡ 0 → parsed_of message ≡ Some (whole h t)
      → log_after Call.Receive c message o log ≡ with_sent o.reply (h ∷ log)
  unfolding log_after
  grown o h t p a w = rw (p, a, w)

  -- a record with the same phase and wait
  same : (d : Connection) → d.phase ≡ c.phase → d.wait_start ≡ c.wait_start → Holds log c → Holds log d
  same d p w (over z) = over (p ∙ z)
  same d p w (idle q l) = idle (p ∙ q) l
  same d p w (amid h rest l x k o s z i) =
      amid h rest l x (k ∙ ap newest_type (sym p)) (λ q. o (sym p ∙ q)) (s ∙ ap (λ (n : Count). n.0) (sym w)) (λ q. z (sym p ∙ q)) (λ q. i (sym p ∙ q))
  same d p w (opens h rest l x k o) = opens h rest l x k (p ∙ o)

  after_ageless : Ageless After
  unfolding After log_after
  after_ageless age o x = x

  same_log : (o : Outcome) → log_after Call.Receive c message o log ≡ log → Holds log o.next → After o
  unfolding After
  same_log o e g = subst (λ (l : List Header). Holds l o.next) (sym e) g

  gone : (o : Outcome) → o.next.phase ≡ closed → After o
  unfolding After
  gone o e = over e

  module _ (g : Holds log c) where
    raised_after : (d : Connection) (k n : ℕ) → d.phase ≡ c.phase → d.wait_start ≡ c.wait_start → eqb c.phase opened ≡ true → After (raised d k n)
    unfolding raised
    raised_after d k n p w o =
        both After (leb d.settings.limit (d.errors + 1)) _ _ (λ _. gone _ refl) (λ _. same_log _ (left_open _ o) (same _ p w g))

    module _ (h : Header) (t : Tail) (w : parsed_of message ≡ Some (whole h t)) (echo : wrong_echo h.kind h.last_peer_stamp.0 c.wait_start.0 ≡ false) where
      -- the newest message before h, which is ours
      record Newest : Type 0 where
        newest : Header
        rest : List Header
        is : log ≡ newest ∷ rest
        exchange : Exchange log
        type : newest.kind ≡ newest_type c.phase
        stamp : newest.stamp.0 ≡ c.wait_start.0

      newest_of : (p : ℕ) → c.phase ≡ p → eqb p closed ≡ false → eqb p responder_waits_for1 ≡ false → eqb p opened ≡ false → Newest
      newest_of p e a b d = go g
        where
          go : Holds log c → Newest
          go (over z) = absurd (eqb-false p closed a (sym e ∙ z))
          go (idle q l) = absurd (eqb-false p responder_waits_for1 b (sym e ∙ q))
          go (amid h rest l x k o s z i) = record { newest = h; rest = rest; is = l; exchange = x; type = k; stamp = s }
          go (opens h rest l x k o) = absurd (eqb-false p opened d (sym e ∙ o))

      -- our next message, and then ours, which begins the next wait
      module _ (o : Outcome) (reply : Header) (s : Tail) (sent : o.reply ≡ Some (whole reply s)) (zero : o.number ≡ 0) (set-up : eqb c.phase opened ≡ false)
          (echoes-it : reply.last_peer_stamp ≡ h.stamp) where
        two_more : log_after Call.Receive c message o log ≡ reply ∷ (h ∷ log)
        two_more = grown o h t set-up zero w ∙ ap (λ (r : Option Message). with_sent r (h ∷ log)) sent

        answered : Exchange (h ∷ log) → reply.kind ≡ suc h.kind → Exchange (reply ∷ (h ∷ log))
        answered x k = Exchange.next reply h log x k (ap (λ (n : Count). n.0) echoes-it)

        waits : Exchange (h ∷ log) → reply.kind ≡ suc h.kind → reply.kind ≡ newest_type o.next.phase → reply.stamp.0 ≡ o.next.wait_start.0
            → eqb o.next.phase closed ≡ false → eqb o.next.phase responder_waits_for1 ≡ false → eqb o.next.phase opened ≡ false → After o
        unfolding After
        waits x k n st a b d =
            amid reply (h ∷ log) two_more (subst Exchange (sym two_more) (answered x k)) n (eqb-false o.next.phase opened d) st
            (eqb-false o.next.phase closed a) (eqb-false o.next.phase responder_waits_for1 b)

        opened_by : Exchange (h ∷ log) → reply.kind ≡ suc h.kind → reply.kind ≡ 5 → o.next.phase ≡ opened → After o
        unfolding After
        opened_by x k n p = opens reply (h ∷ log) two_more (subst Exchange (sym two_more) (answered x k)) n p

      -- a message after ours
      follows : (p : ℕ) → c.phase ≡ p → (e : Newest) → h.kind ≡ suc (newest_type p) → offset_answ1 ≤ h.kind → h.kind ≤ offset_end → Exchange (h ∷ log)
      follows p q e k l u =
          onward log e.newest h e.rest e.is e.exchange (k ∙ ap suc (sym (e.type ∙ ap newest_type q)))
          (echoes h.kind h.last_peer_stamp.0 c.wait_start.0 l u echo ∙ sym e.stamp)

      taken_1 : c.phase ≡ responder_waits_for1 → h.kind ≡ offset_start → After (start_taken c now h)
      unfolding start_taken
      taken_1 p k = go g
        where
          start : log ≡ [] → Exchange (h ∷ log)
          start l = subst (λ (m : List Header). Exchange (h ∷ m)) (sym l) (Exchange.first h k)

          go : Holds log c → After (start_taken c now h)
          go (over z) = let q : ⊥ = omega arith in absurd q
          go (idle q l) = waits (start_taken c now h) _ _ refl refl (rw p refl) refl (start l) (ap suc (sym k)) refl refl refl refl refl
          go (amid n rest l x m o s z i) = absurd (i p)
          go (opens n rest l x m o) = let q : ⊥ = omega arith in absurd q

      taken_2 : c.phase ≡ initiator_waits_for2 → h.kind ≡ offset_answ1 → After (answ1_taken c now h)
      unfolding answ1_taken
      taken_2 p k =
          waits (answ1_taken c now h) _ _ refl refl (rw p refl) refl (follows initiator_waits_for2 p (newest_of initiator_waits_for2 p refl refl refl) k (omega arith) (omega arith)) (ap suc (sym k))
          refl refl refl refl refl

      taken_3 : c.phase ≡ responder_waits_for3 → h.kind ≡ offset_answ2 → After (answ2_taken c now h)
      unfolding answ2_taken
      taken_3 p k =
          waits (answ2_taken c now h) _ _ refl refl (rw p refl) refl (follows responder_waits_for3 p (newest_of responder_waits_for3 p refl refl refl) k (omega arith) (omega arith)) (ap suc (sym k))
          refl refl refl refl refl

      taken_4 : c.phase ≡ initiator_waits_for4 → h.kind ≡ offset_est → After (est_taken c now h)
      unfolding est_taken
      taken_4 p k =
          opened_by (est_taken c now h) _ _ refl refl (rw p refl) refl (follows initiator_waits_for4 p (newest_of initiator_waits_for4 p refl refl refl) k (omega arith) (omega arith)) (ap suc (sym k))
          refl refl

      taken_5 : c.phase ≡ responder_waits_for5 → h.kind ≡ offset_end → After (end_taken c now h)
      unfolding end_taken After
      taken_5 p k =
          let x : Exchange (h ∷ log) = follows responder_waits_for5 p (newest_of responder_waits_for5 p refl refl refl) k (omega arith) (omega arith) in
          let l : log_after Call.Receive c message (end_taken c now h) log ≡ h ∷ log = grown (end_taken c now h) h t (rw p refl) refl w in
          opens h log l (subst Exchange (sym l) x) k refl

      taken_6 : c.phase ≡ opened → After (data_taken c now h t)
      unfolding data_taken
      taken_6 p = same_log (data_taken c now h t) (left_open (data_taken c now h t) (rw p refl)) (same _ refl refl g)

      taken_all : Expects c.phase h.kind → After (message_taken c now h t)
      unfolding message_taken answ1_taken est_taken start_taken answ2_taken end_taken data_taken
      taken_all (x1 p k) = rw k (taken_1 p k)
      taken_all (x2 p k) = rw k (taken_2 p k)
      taken_all (x3 p k) = rw k (taken_3 p k)
      taken_all (x4 p k) = rw k (taken_4 p k)
      taken_all (x5 p k) = rw k (taken_5 p k)
      taken_all (x6 p k) = rw k (taken_6 p)

    receive_holds : (room : ℕ) → After (receive_outcome c now message room)
    unfolding refusing
    receive_holds room =
        receive_by After after_ageless c now message room
        (λ e. same_log _ (left _ (not-true (eqb (receive_refusal c now room) 0) e)) g) (λ _ _. gone _ refl)
        (λ _. record {
          malformed_open = λ _. same_log _ (left _ refl) (same _ refl refl g);
          malformed_set_up = λ _. gone _ refl;
          unexpected = λ _. same_log _ (left _ refl) (same _ refl refl g);
          unexpected_set_up = λ _. gone _ refl;
          taken = λ h t w x e. taken_all h t w (right_echo c now h t e) (expected_is c.phase h.kind x);
          refusing = λ h _. gone _ refl;
          in_set_up = λ k f _. gone _ refl;
          dropped = λ o. raised_after (clocked c now) 202 0 refl refl o;
          too_far_lem = λ _. gone _ refl;
          after_gap = λ h t _ _ o. raised_after (heard (clocked c now) h now) 204 t.«data» refl refl o;
          raising = λ h _ _ k _ _ _ o. raised_after (heard (clocked c now) h now) k 0 refl refl o;
        })

-- ---- the other calls

module _ (call : Call) (c : Connection) (lent : List ℕ) (log : List Header) where
  -- a call that does not answer 0 leaves the log
  not_0 : (o : Outcome) → eqb o.number 0 ≡ false → log_after call c lent o log ≡ log
  unfolding log_after
  not_0 o e = rw e (go (rule_of call).begins (not (eqb c.phase opened)))
    where
      go : (a b : Bool)
          → (when a && false answer with_sent o.reply [] else
          when b && false answer with_sent o.reply (with_taken ((rule_of call).message lent) log) else
          log) ≡ log
      go true true = refl
      go true false = refl
      go false true = refl
      go false false = refl

  -- so does one that begins nothing when open
  not_in_set_up : (o : Outcome) → (rule_of call).begins ≡ false → eqb c.phase opened ≡ true → log_after call c lent o log ≡ log
  unfolding log_after
  not_in_set_up o b e = rw (b, e)

  -- and one that begins nothing, takes nothing and sends nothing
  silent : (o : Outcome) → (rule_of call).begins ≡ false → (rule_of call).message lent ≡ None → o.reply ≡ None → log_after call c lent o log ≡ log
  unfolding log_after
  silent o b m r = rw (b, m, r) (go (not (eqb c.phase opened) && eqb o.number 0))
    where
      go : (b : Bool) → (when b answer log else log) ≡ log
      go true = refl
      go false = refl

  Then : Outcome → Type 0
  Then o = Holds (log_after call c lent o log) o.next

  stays : (o : Outcome) → log_after call c lent o log ≡ log → Holds log o.next → Then o
  unfolding Then
  stays o e g = subst (λ (l : List Header). Holds l o.next) (sym e) g

tick_holds : (log : List Header) (c : Connection) (now : Count) (lent : List ℕ) → Holds log c → Then Call.Tick c lent log (tick_outcome c now)
tick_holds log c now lent g =
    stays Call.Tick c lent log (tick_outcome c now) (silent Call.Tick c lent log (tick_outcome c now) refl refl (tick_silent c now))
    (tick_by (λ (o : Outcome). Holds log o.next) c now (λ _. g) (λ _ _. over refl) (λ _. same log c now [] (clocked c now) refl refl g))

close_holds : (log : List Header) (c : Connection) (lent : List ℕ) → Holds log c → Then Call.Close c lent log (close_outcome c)
unfolding close_outcome
close_holds log c lent g =
    stays Call.Close c lent log (close_outcome c) (silent Call.Close c lent log (close_outcome c) refl refl (close_silent c))
    (both (λ (o : Outcome). Holds log o.next) (not (eqb (close_refusal c) 0)) _ _ (λ _. g) (λ _. over refl))

-- only an open connection sends
is_open : (c : Connection) (now : Count) (size room : ℕ) → send_refusal c now size room ≡ 0 → eqb c.phase opened ≡ true
unfolding send_refusal
is_open c now size room e =
    not-false (eqb c.phase opened) (row_off (not (eqb c.phase opened)) 106 _ (lit< tt) (then_off (tick_refusal c now) _ e).1).0

send_holds : (log : List Header) (c : Connection) (now : Count) (lent : List ℕ) (room : ℕ) → Holds log c → Then Call.Send c lent log (send_outcome c now (length lent) room)
unfolding send_outcome
send_holds log c now lent room g =
    both (Then Call.Send c lent log) (not (eqb (send_refusal c now (length lent) room) 0)) _ _
    (λ e. stays Call.Send c lent log _ (not_0 Call.Send c lent log _ (not-true (eqb (send_refusal c now (length lent) room) 0) e)) g)
    (λ e. stays Call.Send c lent log _
    (not_in_set_up Call.Send c lent log _ refl (is_open c now (length lent) room (none_refused (send_refusal c now (length lent) room) e)))
    (same log c now [] _ refl refl g))

begin_holds : (log : List Header) (c : Connection) (g : Given) (now : Count) (lent : List ℕ) (room : ℕ) → Holds log c
    → Then (Call.Begin g) c lent log (begin_outcome c g now room)
unfolding begin_outcome Then log_after
begin_holds log c g now lent room h =
    both (Then (Call.Begin g) c lent log) (not (eqb (begin_refusal c g room) 0)) _ _
    (λ e. stays (Call.Begin g) c lent log (refused (begin_refusal c g room) c)
    (not_0 (Call.Begin g) c lent log (refused (begin_refusal c g room) c) (not-true (eqb (begin_refusal c g room) 0) e)) h) (λ _.
    both (Then (Call.Begin g) c lent log) (eqb g.role initiator) _ _
    (λ _. amid _ [] refl (Exchange.first _ refl) refl (eqb-false initiator_waits_for2 opened refl) refl (eqb-false initiator_waits_for2 closed refl)
    (eqb-false initiator_waits_for2 responder_waits_for1 refl))
    (λ _. idle refl refl))

call_holds : (log : List Header) (c : Connection) (call : Call) (now : Count) (lent : List ℕ) (room : ℕ) → Holds log c
    → Then call c lent log (outcome_of call c now lent room)
unfolding After Then
call_holds log c (Call.Begin g) now lent room h = begin_holds log c g now lent room h
call_holds log c Call.Receive now lent room h = receive_holds log c now lent h room
call_holds log c Call.Send now lent room h = send_holds log c now lent room h
call_holds log c Call.Tick now lent room h = tick_holds log c now lent h
call_holds log c Call.Close now lent room h = close_holds log c lent h

run_holds : {log : List Header} {c : Connection} → Run log c → Holds log c
unfolding Then
run_holds (Run.none c e) = over e
run_holds (Run.called {log} {c} r call now lent room) = call_holds log c call now lent room (run_holds r)

-- open is reached only through all five messages of the exchange, in order, each echoing the one before
pub open_after_five_messages : {log : List Header} {c : Connection} → Run log c → c.phase ≡ opened → FiveMessages log
open_after_five_messages {log} {c} r o = go (run_holds r)
  where
    go : Holds log c → FiveMessages log
    go (over z) = let q : ⊥ = omega arith in absurd q
    go (idle p l) = let q : ⊥ = omega arith in absurd q
    go (amid h rest l x k n s z i) = absurd (n o)
    go (opens h rest l x k p) = record { exchange = x; five = ap length l ∙ long (subst Exchange l x) ∙ k }
