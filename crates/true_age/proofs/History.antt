-- What holds after every call of a history: the settings of begin, and where the offset comes from.
-- Assumes nothing.
use Prim.Native.Nat.{ℕ, zero, suc, ◌+◌, ◌<◌}
use mathlib.Core.Path.{◌≡◌, refl, sym, ap, subst, ◌∙◌}
use mathlib.Core.Bool.{true, false, not}
use mathlib.Core.List.{List, [], ◌∷◌}
use mathlib.Core.Logic.{inl, inr}
use native.Mathlib.Omega.{arith}
use borrow.Author.Tests.{eqb-true, eqb-false, not-true, not-false}
use lib.Dec.{T, leb, eqb, lit<}
use lib.ListN.{length}
use Rattle.clock.specs.declared.Count.{Count}
use Rattle.message.specs.Table.{offset_answ1, offset_answ2}
use Rattle.message.specs.Read.{parsed_of}
use Rattle.message.specs.declared.Header.{Header}
use Rattle.message.specs.declared.Tail.{Tail}
use Rattle.std.proofs.Common.{Some}
use Rattle.message.specs.Layout.{whole}
use Rattle.connection.specs.declared.Settings.{Settings}
use Rattle.connection.specs.declared.Connection.{Connection}
use Rattle.connection.specs.Connection.{
  initiator_waits_for2,
  initiator_waits_for4,
  responder_waits_for1,
  responder_waits_for3,
  responder_waits_for5,
  opened,
  all_zero,
  clocked,
  heard,
}
use Rattle.what_follows.specs.declared.Outcome.{Outcome}
use Rattle.what_follows.specs.Follows.{offset_between, reply_header, start_taken, answ1_taken, answ2_taken, est_taken, end_taken, data_taken, message_taken, refusing, raised}
use Rattle.calls.specs.declared.Given.{Given}
use Rattle.calls.specs.declared.Call.{Call}
use Rattle.calls.specs.Calls.{
  close_refusal,
  tick_refusal,
  send_refusal,
  begin_refusal,
  receive_outcome,
  tick_outcome,
  close_outcome,
  send_outcome,
  begin_outcome,
  initiator,
  rule_of,
  outcome_of,
  given,
}
use Rattle.calls.proofs.Replies.{both, row_off, then_off, none_refused}
use Rattle.promises.proofs.Promises.{receive_by, tick_by}
use Rattle.promises.proofs.Opening.{Expects, expected_is}
use Rattle.true_age.specs.Clocks.{World, count_of}
use Rattle.true_age.specs.History.{Ours, with_written, Written, Reports, Judged, JudgedBytes, History}
use Rattle.true_age.specs.Claim.{own_type, OwnSetUp}

-- ---- what we wrote

module _ (W : World) where
  written_below : {n : ℕ} {x : Ours W} {log : List (Ours W)} → Written W n x log → n < length log
  written_below Written.newest = omega arith
  written_below (Written.earlier w) = omega (arith, written_below w)

  -- one place, one message
  pub one_written : {n m : ℕ} {x y : Ours W} {log : List (Ours W)} → Written W n x log → Written W m y log → n ≡ m → x ≡ y
  one_written Written.newest Written.newest e = refl
  one_written Written.newest (Written.earlier w) e = let q : ⊥ = omega (arith, written_below w) in absurd q
  one_written (Written.earlier v) Written.newest e = let q : ⊥ = omega (arith, written_below v) in absurd q
  one_written (Written.earlier v) (Written.earlier w) e = one_written v w e

  -- where we wrote one alone, its place is 0
  sole_place : {n : ℕ} {x y : Ours W} → Written W n x (y ∷ []) → n ≡ 0
  sole_place w = omega (arith, written_below w)

-- ---- the invariant

module _ (W : World) (began : W.Moment) (role : ℕ) (settings : Settings) where
  -- the responder has heard nothing
  record Idle (log : List (Ours W)) (c : Connection) : Type 0 where
    same_settings : c.settings ≡ settings
    is_responder : eqb role initiator ≡ false
    nothing_written : log ≡ []

  -- while we wait for the answer to our first message, that is all that we wrote, and the wait began with its stamp
  record Sole (log : List (Ours W)) (t : W.Moment) (c : Connection) : Type 0 where
    same_settings : c.settings ≡ settings
    ours : Ours W
    alone : log ≡ ours ∷ []
    type : ours.header.kind ≡ own_type role
    since : W.early began ours.at
    before : W.early ours.at t
    stamped : ours.header.stamp ≡ count_of (W.ours ours.at)
    waits : c.wait_start ≡ ours.header.stamp

  -- once it was answered, the offset is known
  record Answered (log : List (Ours W)) (t : W.Moment) (c : Connection) : Type 0 where
    same_settings : c.settings ≡ settings
    own : OwnSetUp W began role log t c

  -- what holds in each phase, from PHASE-0 to PHASE-6; there are no others
  At : ℕ → List (Ours W) → W.Moment → Connection → Type 0
  At zero log t c = Unit {0}
  At (suc zero) log t c = Sole log t c
  At (suc (suc zero)) log t c = Answered log t c
  At (suc (suc (suc zero))) log t c = Idle log c
  At (suc (suc (suc (suc zero)))) log t c = Sole log t c
  At (suc (suc (suc (suc (suc zero))))) log t c = Answered log t c
  At (suc (suc (suc (suc (suc (suc zero)))))) log t c = Answered log t c
  At (suc (suc (suc (suc (suc (suc (suc more))))))) log t c = Unit {0}

  record Holds (log : List (Ours W)) (t : W.Moment) (c : Connection) : Type 0 where
    known : At c.phase log t c

  -- what is known in a phase, and what makes it so
  at : {log : List (Ours W)} {t : W.Moment} {c : Connection} (p : ℕ) → Holds log t c → c.phase ≡ p → At p log t c
  at {log} {t} {c} p g e = subst (λ (n : ℕ). At n log t c) e g.known

  holds_at : (log : List (Ours W)) (t : W.Moment) (c : Connection) (p : ℕ) → At p log t c → c.phase ≡ p → Holds log t c
  holds_at log t c p g e = record { known = subst (λ (n : ℕ). At n log t c) (sym e) g }

  -- a released record
  over : {log : List (Ours W)} {t : W.Moment} → Holds log t all_zero
  unfolding At
  over = record { known = tt }

  -- ---- steps of the invariant, from one call's moment to the next's

  module _ {log : List (Ours W)} {t : W.Moment} (u : W.Moment) (next : W.early t u) where
    -- the same offset
    own_kept : {c : Connection} (d : Connection) → d.offsets.min ≡ c.offsets.min → OwnSetUp W began role log t c → OwnSetUp W began role log u d
    own_kept d e x =
        record {
          ours = x.ours;
          first = x.first;
          type = x.type;
          since = x.since;
          before = W.early_trans x.ours.at t u x.before next;
          onward = x.onward;
          stamped = x.stamped;
          gave = e ∙ x.gave;
        }

    -- and one message more
    own_more : {c : Connection} (d : Connection) (y : Ours W) → d.offsets.min ≡ c.offsets.min → OwnSetUp W began role log t c
        → OwnSetUp W began role (y ∷ log) u d
    own_more d y e x =
        record {
          ours = x.ours;
          first = Written.earlier x.first;
          type = x.type;
          since = x.since;
          before = W.early_trans x.ours.at t u x.before next;
          onward = x.onward;
          stamped = x.stamped;
          gave = e ∙ x.gave;
        }

    sole_kept : {c : Connection} (d : Connection) → d.settings ≡ c.settings → d.wait_start ≡ c.wait_start → Sole log t c → Sole log u d
    sole_kept d s e x =
        record {
          same_settings = s ∙ x.same_settings;
          ours = x.ours;
          alone = x.alone;
          type = x.type;
          since = x.since;
          before = W.early_trans x.ours.at t u x.before next;
          stamped = x.stamped;
          waits = e ∙ x.waits;
        }

    answered_kept : {c : Connection} (d : Connection) → d.settings ≡ c.settings → d.offsets.min ≡ c.offsets.min → Answered log t c → Answered log u d
    answered_kept d s e x = record { same_settings = s ∙ x.same_settings; own = own_kept d e x.own }

    -- the answer to our first message gives the offset
    given_by : {c : Connection} (d : Connection) (y : Ours W) (h : Header) → Sole log t c → Reports W log h
        → d.offsets.min ≡ offset_between c.wait_start h.arrival → OwnSetUp W began role (y ∷ log) u d
    given_by {c} d y h x r e =
        record {
          ours = x.ours;
          first = Written.earlier (subst (Written W 0 x.ours) (sym x.alone) Written.newest);
          type = x.type;
          since = x.since;
          before = W.early_trans x.ours.at t u x.before next;
          onward = subst (λ (z : Ours W). W.early z.at (W.arrived 0)) is_ours (subst (λ (n : ℕ). W.early r.ours.at (W.arrived n)) place r.onward);
          stamped = x.stamped;
          gave =
              e ∙ ap (λ (s : Count). offset_between s h.arrival) x.waits
              ∙ ap (λ (a : Count). offset_between x.ours.header.stamp a) (subst (λ (n : ℕ). h.arrival ≡ count_of (W.peers (W.arrived n))) place r.reported);
        }
      where
        in_sole : Written W r.which r.ours (x.ours ∷ [])
        in_sole = subst (Written W r.which r.ours) x.alone r.of_ours

        place : r.which ≡ 0
        place = sole_place W in_sole

        is_ours : r.ours ≡ x.ours
        is_ours = one_written W in_sole Written.newest place

  -- a record with the same phase, settings, wait and offset
  module _ (log : List (Ours W)) (t u : W.Moment) (next : W.early t u) (c d : Connection)
      (s : d.settings ≡ c.settings) (w : d.wait_start ≡ c.wait_start) (m : d.offsets.min ≡ c.offsets.min) where
    same_at : (p : ℕ) → At p log t c → At p log u d
    unfolding At
    same_at zero g = tt
    same_at (suc zero) g = sole_kept u next d s w g
    same_at (suc (suc zero)) g = answered_kept u next d s m g
    same_at (suc (suc (suc zero))) g = record { same_settings = s ∙ g.same_settings; is_responder = g.is_responder; nothing_written = g.nothing_written }
    same_at (suc (suc (suc (suc zero)))) g = sole_kept u next d s w g
    same_at (suc (suc (suc (suc (suc zero))))) g = answered_kept u next d s m g
    same_at (suc (suc (suc (suc (suc (suc zero)))))) g = answered_kept u next d s m g
    same_at (suc (suc (suc (suc (suc (suc (suc more))))))) g = tt

  same : {log : List (Ours W)} {t : W.Moment} (u : W.Moment) (next : W.early t u) {c : Connection} (d : Connection) → d.phase ≡ c.phase
      → d.settings ≡ c.settings → d.wait_start ≡ c.wait_start → d.offsets.min ≡ c.offsets.min → Holds log t c → Holds log u d
  same {log} {t} u next {c} d p s w m g = holds_at log u d c.phase (same_at log t u next c d s w m c.phase g.known) p

  -- ---- a receive

  module _ (log : List (Ours W)) (t : W.Moment) (c : Connection) (u : W.Moment) (next : W.early t u) (message : List ℕ) (g : Holds log t c) where
    abbrev now : Count
    now = count_of (W.ours u)

    After : Outcome → Type 0
    After o = (eqb c.phase opened ≡ false → o.number ≡ 0 → JudgedBytes W began log u (parsed_of message)) → Holds (with_written W u o.reply log) u o.next

    raised_after : (d : Connection) (k n : ℕ) → d.phase ≡ c.phase → d.settings ≡ c.settings → d.wait_start ≡ c.wait_start
        → d.offsets.min ≡ c.offsets.min → After (raised d k n)
    unfolding raised After At
    raised_after d k n p s w m = both After (leb d.settings.limit (d.errors + 1)) _ _ (λ _ _. over) (λ _ _. same u next _ p s w m g)

    module _ (h : Header) (tail : Tail) (w : parsed_of message ≡ Some (whole h tail)) where
      judged : JudgedBytes W began log u (parsed_of message) → Judged W began log u h
      judged m = subst (JudgedBytes W began log u) w m

      taken_1 : c.phase ≡ responder_waits_for1 → After (start_taken c now h)
      unfolding start_taken After At
      taken_1 p f =
          let k : Idle log c = at responder_waits_for1 g p in
          let m = judged (f (rw p refl) refl) in
          record {
            known = record {
              same_settings = k.same_settings;
              ours = record { at = u; header = reply_header offset_answ1 c now h };
              alone = ap (λ (l : List (Ours W)). record { at = u; header = reply_header offset_answ1 c now h } ∷ l) k.nothing_written;
              type = rw k.is_responder refl;
              since = W.early_trans began m.sent u m.since m.onward;
              before = W.early_refl u;
              stamped = refl;
              waits = refl;
            };
          }

      taken_2 : c.phase ≡ initiator_waits_for2 → h.kind ≡ offset_answ1 → After (answ1_taken c now h)
      unfolding answ1_taken After At
      taken_2 p k f =
          let x : Sole log t c = at initiator_waits_for2 g p in
          let m = judged (f (rw p refl) refl) in
          record { known = record { same_settings = x.same_settings; own = given_by u next _ _ h x (m.reports (inl k)) refl } }

      taken_3 : c.phase ≡ responder_waits_for3 → h.kind ≡ offset_answ2 → After (answ2_taken c now h)
      unfolding answ2_taken After At
      taken_3 p k f =
          let x : Sole log t c = at responder_waits_for3 g p in
          let m = judged (f (rw p refl) refl) in
          record { known = record { same_settings = x.same_settings; own = given_by u next _ _ h x (m.reports (inr k)) refl } }

      taken_4 : c.phase ≡ initiator_waits_for4 → After (est_taken c now h)
      unfolding est_taken After At
      taken_4 p f =
          let x : Answered log t c = at initiator_waits_for4 g p in
          record { known = record { same_settings = x.same_settings; own = own_more u next _ _ refl x.own } }

      taken_5 : c.phase ≡ responder_waits_for5 → After (end_taken c now h)
      unfolding end_taken After At
      taken_5 p f =
          let x : Answered log t c = at responder_waits_for5 g p in
          record { known = record { same_settings = x.same_settings; own = own_kept u next _ refl x.own } }

      taken_6 : After (data_taken c now h tail)
      unfolding data_taken After
      taken_6 f = same u next _ refl refl refl refl g

      taken_all : Expects c.phase h.kind → After (message_taken c now h tail)
      unfolding message_taken start_taken answ1_taken answ2_taken est_taken end_taken data_taken
      taken_all (Expects.x1 p k) = rw k (taken_1 p)
      taken_all (Expects.x2 p k) = rw k (taken_2 p k)
      taken_all (Expects.x3 p k) = rw k (taken_3 p k)
      taken_all (Expects.x4 p k) = rw k (taken_4 p)
      taken_all (Expects.x5 p k) = rw k (taken_5 p)
      taken_all (Expects.x6 p k) = rw k taken_6

    receive_holds : (room : ℕ) → After (receive_outcome c now message room)
    unfolding refusing After At
    receive_holds room =
        receive_by After (λ _ _ x. x) c now message room (λ _ _. same u next c refl refl refl refl g) (λ _ _ _. over)
        (λ _. record {
          malformed_open = λ _ _. same u next _ refl refl refl refl g;
          malformed_set_up = λ _ _. over;
          unexpected = λ _ _. same u next _ refl refl refl refl g;
          unexpected_set_up = λ _ _. over;
          taken = λ h t w x _. taken_all h t w (expected_is c.phase h.kind x);
          refusing = λ h _ _. over;
          in_set_up = λ k f _ _. over;
          dropped = λ _. raised_after (clocked c now) 202 0 refl refl refl refl;
          too_far_lem = λ _ _. over;
          after_gap = λ h t _ _ _. raised_after (heard (clocked c now) h now) 204 t.«data» refl refl refl refl;
          raising = λ h _ _ k _ _ _ _. raised_after (heard (clocked c now) h now) k 0 refl refl refl refl;
        })

  -- ---- the other calls

  module _ (log : List (Ours W)) (t : W.Moment) (c : Connection) (u : W.Moment) (next : W.early t u) (g : Holds log t c) where
    abbrev at_u : Count
    at_u = count_of (W.ours u)

    Then : Outcome → Type 0
    Then o = Holds (with_written W u o.reply log) u o.next

    tick_holds : Then (tick_outcome c at_u)
    unfolding Then At
    tick_holds = tick_by Then c at_u (λ _. same u next c refl refl refl refl g) (λ _ _. over) (λ _. same u next _ refl refl refl refl g)

    close_holds : Then (close_outcome c)
    unfolding close_outcome Then At
    close_holds = both Then (not (eqb (close_refusal c) 0)) _ _ (λ _. same u next c refl refl refl refl g) (λ _. over)

    -- only an open connection sends
    sends_open : (size room : ℕ) → send_refusal c at_u size room ≡ 0 → c.phase ≡ opened
    unfolding send_refusal
    sends_open size room e =
        let a = then_off (tick_refusal c at_u) _ e in
        let b = row_off (not (eqb c.phase opened)) 106 _ (lit< tt) a.1 in
        eqb-true c.phase opened (not-false (eqb c.phase opened) b.0)

    send_holds : (size room : ℕ) → Then (send_outcome c at_u size room)
    unfolding send_outcome Then At
    send_holds size room =
        both Then (not (eqb (send_refusal c at_u size room) 0)) _ _ (λ _. same u next c refl refl refl refl g) (λ e.
        let p : c.phase ≡ opened = sends_open size room (none_refused (send_refusal c at_u size room) e) in
        let x : Answered log t c = at opened g p in
        holds_at _ u _ opened (record { same_settings = x.same_settings; own = own_more u next _ _ refl x.own }) p)

    not_begun_holds : (b : Given) (room : ℕ) → eqb (begin_outcome c b at_u room).number 0 ≡ false → Then (begin_outcome c b at_u room)
    unfolding begin_outcome Then
    not_begun_holds b room =
        both Refused (not (eqb (begin_refusal c b room) 0)) _ _ (λ _ _. same u next c refl refl refl refl g) (λ _.
        both Refused (eqb b.role initiator) _ _ (λ _ z. absurd (subst T z tt)) (λ _ z. absurd (subst T z tt)))
      where
        Refused : Outcome → Type 0
        Refused o = eqb o.number 0 ≡ false → Holds (with_written W u o.reply log) u o.next

  begin_holds : (c : Connection) (first period : ℕ) (t : W.Moment) (room : ℕ) → (role ≡ initiator → W.early began t)
      → (begin_outcome c (given role settings first period) (count_of (W.ours t)) room).number ≡ 0
      → Holds (with_written W t (begin_outcome c (given role settings first period) (count_of (W.ours t)) room).reply [])
      t (begin_outcome c (given role settings first period) (count_of (W.ours t)) room).next
  unfolding begin_outcome At
  begin_holds c first period t room s =
      both Begun (not (eqb (begin_refusal c b room) 0)) _ _
      (λ e z. absurd (eqb-false (begin_refusal c b room) 0 (not-true (eqb (begin_refusal c b room) 0) e) z)) (λ _.
      both Begun (eqb role initiator) _ _
      (λ r _. record {
        known = record {
          same_settings = refl;
          ours = _;
          alone = refl;
          type = rw r refl;
          since = s (eqb-true role initiator r);
          before = W.early_refl t;
          stamped = refl;
          waits = refl;
        };
      })
      (λ r _. record { known = record { same_settings = refl; is_responder = r; nothing_written = refl } }))
    where
      b : Given
      b = given role settings first period

      Begun : Outcome → Type 0
      Begun o = o.number ≡ 0 → Holds (with_written W t o.reply []) t o.next

  call_holds : (log : List (Ours W)) (t : W.Moment) (c : Connection) (u : W.Moment) (next : W.early t u) (g : Holds log t c) (call : Call) (lent : List ℕ) (room : ℕ)
      → ((rule_of call).begins ≡ true → eqb (outcome_of call c (count_of (W.ours u)) lent room).number 0 ≡ false)
      → (eqb c.phase opened ≡ false → (outcome_of call c (count_of (W.ours u)) lent room).number ≡ 0 → JudgedBytes W began log u ((rule_of call).message lent))
      → Holds (with_written W u (outcome_of call c (count_of (W.ours u)) lent room).reply log) u (outcome_of call c (count_of (W.ours u)) lent room).next
  unfolding After Then
  call_holds log t c u next g (Call.Begin b) lent room again f = not_begun_holds log t c u next g b room (again refl)
  call_holds log t c u next g Call.Receive lent room again f = receive_holds log t c u next lent g room f
  call_holds log t c u next g Call.Send lent room again f = send_holds log t c u next g (length lent) room
  call_holds log t c u next g Call.Tick lent room again f = tick_holds log t c u next g
  call_holds log t c u next g Call.Close lent room again f = close_holds log t c u next g

  history_holds : {log : List (Ours W)} {t : W.Moment} {c : Connection} → History W began role settings log t c → Holds log t c
  history_holds (History.begun c first period t lent room s z) = begin_holds c first period t room s z
  history_holds (History.called {log} {t} {c} x u e call lent room again f) = call_holds log t c u e (history_holds x) call lent room again f

  -- an open record has the settings of begin, and its offset comes from the reported arrival of our first message
  pub open_set_up : {log : List (Ours W)} {t : W.Moment} {c : Connection} → History W began role settings log t c → c.phase ≡ opened
      → (c.settings ≡ settings) × OwnSetUp W began role log t c
  unfolding At
  open_set_up {log} {t} {c} x o = let g : Answered log t c = at opened (history_holds x) o in (g.same_settings, g.own)
