-- A valid record stays valid, and a released one is all zero (RECORD-3): so our own calls never lead to RECORD-1's 101.
-- Assumes nothing.
use Prim.Native.Nat.{ℕ, ◌+◌, ◌≤◌}
use mathlib.Core.Path.{◌≡◌, refl, sym, subst, ◌∙◌}
use mathlib.Core.Bool.{Bool, true, false, not, ◌&&◌, ◌||◌}
use mathlib.Core.List.{List}
use mathlib.Core.Logic.{inl, inr}
use borrow.Author.Tests.{lt-leb, eq-eqb}
use lib.ListN.{length}
use lib.Dec.{T, ltb, leb, eqb, lit<}
use Rattle.rules.specs.Rows.{when◌answer◌else◌}
use Rattle.clock.specs.declared.Count.{Count}
use Rattle.message.specs.declared.Header.{Header}
use Rattle.message.specs.declared.Tail.{Tail}
use Rattle.connection.specs.declared.Connection.{Connection}
use Rattle.message.specs.Table.{offset_start, offset_answ1, offset_answ2, offset_est, offset_end}
use Rattle.message.specs.Layout.{data_tail}
use Rattle.message.specs.Read.{parsed_of}
use Rattle.connection.specs.Connection.{
  closed,
  initiator_waits_for2,
  responder_waits_for1,
  opened,
  out_of_range,
  unsound,
  ◌outside◌to◌,
  all_zero,
  clocked,
  heard,
  sent,
  begun,
}
use Rattle.connection.proofs.Ranges.{in_range}
use Rattle.std.proofs.lemmas.Bool.{or_parts}
use Rattle.what_follows.specs.declared.Outcome.{Outcome}
use Rattle.what_follows.specs.Follows.{kept, sending, start_taken, answ1_taken, answ2_taken, est_taken, end_taken, data_taken, message_taken, refusing, raised}
use Rattle.calls.specs.declared.Given.{Given}
use Rattle.calls.specs.declared.Call.{Call}
use Rattle.calls.specs.Calls.{
  bad,
  close_refusal,
  tick_refusal,
  receive_refusal,
  send_refusal,
  begin_refusal,
  receive_outcome,
  tick_outcome,
  close_outcome,
  send_outcome,
  begin_outcome,
  outcome_of,
  data_header,
  start_sent,
  initiator,
  responder,
}
use Rattle.promises.specs.Promises.{Valid, Stays}
use Rattle.calls.proofs.Replies.{both, none_refused, row_off, then_off}
use Rattle.promises.proofs.Promises.{Ageless, Ways, receive_by, tick_by}

pub no_way : {X : Type 0} → true ≡ false → X
no_way e = absurd (subst T e tt)

-- what is known of a record that is sound
pub record Sound (c : Connection) : Type 0 where
  pub settings : out_of_range c.settings ≡ false
  phase : c.phase outside initiator_waits_for2 to opened ≡ false
  errors : leb c.settings.limit c.errors ≡ false
  limit : 1 ≤ c.settings.limit

sound_of : (c : Connection) → unsound c ≡ false → Sound c
unfolding unsound
sound_of c e =
    let a = or_parts (out_of_range c.settings || c.phase outside initiator_waits_for2 to opened) (leb c.settings.limit c.errors) e in
    let b = or_parts (out_of_range c.settings) (c.phase outside initiator_waits_for2 to opened) a.0 in
    record { settings = b.0; phase = b.1; errors = a.1; limit = (in_range c.settings b.0).limit }

sound_is : (c : Connection) → out_of_range c.settings ≡ false → c.phase outside initiator_waits_for2 to opened ≡ false → leb c.settings.limit c.errors ≡ false
    → unsound c ≡ false
unfolding unsound
sound_is c a b d = rw (a, b, d)

-- ---- the outcomes

gone : {o : Outcome} → o.released ≡ true → o.next ≡ all_zero → Stays o
gone r z = record { zero = λ _. z; valid = λ f. no_way (sym r ∙ f) }

stays_ageless : Ageless Stays
stays_ageless age o s = record { zero = s.zero; valid = s.valid }

goes_on_lem : {o : Outcome} → o.released ≡ false → Valid o.next → Stays o
goes_on_lem r v = record { zero = λ t. no_way (sym t ∙ r); valid = λ _. v }

module _ (c : Connection) (s : Sound c) where
  no_errors : leb c.settings.limit 0 ≡ false
  no_errors = lt-leb c.settings.limit 0 s.limit

  taken_stays : (now : Count) (h : Header) (t : Tail) → Stays (message_taken c now h t)
  unfolding message_taken start_taken answ1_taken answ2_taken est_taken end_taken data_taken ◌outside◌to◌
  taken_stays now h t =
      both Stays (eqb h.kind offset_start) _ _ (λ _. goes_on_lem refl (inr (sound_is _ s.settings refl s.errors))) (λ _.
      both Stays (eqb h.kind offset_answ1) _ _ (λ _. goes_on_lem refl (inr (sound_is _ s.settings refl s.errors))) (λ _.
      both Stays (eqb h.kind offset_answ2) _ _ (λ _. goes_on_lem refl (inr (sound_is _ s.settings refl s.errors))) (λ _.
      both Stays (eqb h.kind offset_est) _ _ (λ _. goes_on_lem refl (inr (sound_is _ s.settings refl s.errors))) (λ _.
      both Stays (eqb h.kind offset_end) _ _ (λ _. goes_on_lem refl (inr (sound_is _ s.settings refl s.errors))) (λ _.
      goes_on_lem refl (inr (sound_is _ s.settings s.phase no_errors)))))))

-- one error more, under the limit or released
raised_stays : (d : Connection) (k n : ℕ) → Sound d → Stays (raised d k n)
unfolding raised
raised_stays d k n s =
    both Stays (leb d.settings.limit (d.errors + 1)) _ _ (λ _. gone refl refl) (λ e. goes_on_lem refl (inr (sound_is _ s.settings s.phase e)))

-- what is not refused is sound
not_bad : (c : Connection) → close_refusal c ≡ 0 → Sound c
unfolding close_refusal bad
not_bad c e =
    let a = row_off (not (eqb c.phase closed) && unsound c) 101 _ (lit< tt) e in
    let b = row_off (eqb c.phase closed) 102 0 (lit< tt) a.1 in
    sound_of c (go (eqb c.phase closed) (unsound c) b.0 a.0)
  where
    go : (p u : Bool) → p ≡ false → not p && u ≡ false → u ≡ false
    go true u p e = no_way p
    go false u p e = e

tick_sound : (c : Connection) (now : Count) → tick_refusal c now ≡ 0 → Sound c
unfolding tick_refusal
tick_sound c now e = not_bad c (then_off (close_refusal c) _ e).0

pub receive_sound : (c : Connection) (now : Count) (room : ℕ) → receive_refusal c now room ≡ 0 → Sound c
unfolding receive_refusal
receive_sound c now room e = tick_sound c now (then_off (tick_refusal c now) _ e).0

send_sound : (c : Connection) (now : Count) (size room : ℕ) → send_refusal c now size room ≡ 0 → Sound c
unfolding send_refusal
send_sound c now size room e = tick_sound c now (then_off (tick_refusal c now) _ e).0

is_sound : (c : Connection) → Sound c → unsound c ≡ false
is_sound c s = sound_is c s.settings s.phase s.errors

heard_sound : (c : Connection) (now : Count) (h : Header) → Sound c → Sound (heard (clocked c now) h now)
heard_sound c now h s = record { settings = s.settings; phase = s.phase; errors = s.errors; limit = s.limit }

clocked_sound : (c : Connection) (now : Count) → Sound c → Sound (clocked c now)
clocked_sound c now s = record { settings = s.settings; phase = s.phase; errors = s.errors; limit = s.limit }

pub receive_stays : (c : Connection) (now : Count) (message : List ℕ) (room : ℕ) → Valid c → Stays (receive_outcome c now message room)
unfolding refusing
receive_stays c now message room v =
    receive_by Stays stays_ageless c now message room (λ _. goes_on_lem refl v) (λ _ _. gone refl refl) (λ e. leaves (receive_sound c now room e))
  where
    leaves : Sound c → Ways Stays c now (parsed_of message)
    leaves s =
        record {
          malformed_open = λ _. goes_on_lem refl (inr (is_sound (clocked c now) (clocked_sound c now s)));
          malformed_set_up = λ _. gone refl refl;
          unexpected = λ _. goes_on_lem refl (inr (is_sound (clocked c now) (clocked_sound c now s)));
          unexpected_set_up = λ _. gone refl refl;
          taken = λ h t _ _ _. taken_stays c s now h t;
          refusing = λ _ _. gone refl refl;
          in_set_up = λ _ _ _. gone refl refl;
          dropped = λ _. raised_stays (clocked c now) 202 0 (clocked_sound c now s);
          too_far_lem = λ _. gone refl refl;
          after_gap = λ h t _ _ _. raised_stays (heard (clocked c now) h now) 204 t.«data» (heard_sound c now h s);
          raising = λ h _ _ k _ _ _ _. raised_stays (heard (clocked c now) h now) k 0 (heard_sound c now h s);
        }

pub tick_stays : (c : Connection) (now : Count) → Valid c → Stays (tick_outcome c now)
tick_stays c now v =
    tick_by Stays c now (λ _. goes_on_lem refl v) (λ _ _. gone refl refl)
    (λ e. goes_on_lem refl (inr (is_sound (clocked c now) (clocked_sound c now (tick_sound c now e)))))

pub close_stays : (c : Connection) → Valid c → Stays (close_outcome c)
unfolding close_outcome
close_stays c v = both Stays (not (eqb (close_refusal c) 0)) _ _ (λ _. goes_on_lem refl v) (λ _. gone refl refl)

pub send_stays : (c : Connection) (now : Count) (size room : ℕ) → Valid c → Stays (send_outcome c now size room)
unfolding send_outcome
send_stays c now size room v =
    both Stays (not (eqb (send_refusal c now size room) 0)) _ _ (λ _. goes_on_lem refl v)
    (λ e. go (send_sound c now size room (none_refused (send_refusal c now size room) e)))
  where
    go : Sound c → Stays (sending (data_header c now) (data_tail size) (sent (clocked c now)))
    go s = goes_on_lem refl (inr (sound_is (sent (clocked c now)) s.settings s.phase s.errors))

pub begin_stays : (c : Connection) (g : Given) (now : Count) (room : ℕ) → Valid c → Stays (begin_outcome c g now room)
unfolding begin_outcome begin_refusal ◌outside◌to◌
begin_stays c g now room v =
    both Stays (not (eqb (begin_refusal c g room) 0)) _ _ (λ _. goes_on_lem refl v) (λ e. go (settings_in (none_refused (begin_refusal c g room) e)))
  where
    settings_in : begin_refusal c g room ≡ 0 → out_of_range g.settings ≡ false
    settings_in e =
        let a = row_off (bad c) 101 _ (lit< tt) e in
        let b = row_off (not (eqb c.phase closed)) 103 _ (lit< tt) a.1 in
        let d = row_off (ltb responder g.role || out_of_range g.settings) 104 _ (lit< tt) b.1 in
        (or_parts (ltb responder g.role) (out_of_range g.settings) d.0).1

    go : out_of_range g.settings ≡ false
        → Stays (when eqb g.role initiator answer start_sent g now else kept 0 0 (begun g.settings g.own responder_waits_for1 now))
    go s =
        both Stays (eqb g.role initiator) _ _
        (λ _. goes_on_lem refl (inr (sound_is _ s refl (lt-leb g.settings.limit 0 (in_range g.settings s).limit))))
        (λ _. goes_on_lem refl (inr (sound_is _ s refl (lt-leb g.settings.limit 0 (in_range g.settings s).limit))))

pub call_stays : (call : Call) (c : Connection) (now : Count) (lent : List ℕ) (room : ℕ) → Valid c → Stays (outcome_of call c now lent room)
call_stays (Call.Begin g) c now lent room = begin_stays c g now room
call_stays Call.Receive c now lent room = receive_stays c now lent room
call_stays Call.Send c now lent room = send_stays c now (length lent) room
call_stays Call.Tick c now lent room = tick_stays c now
call_stays Call.Close c now lent room = close_stays c

-- a closed or valid record never has the record's 101
pub valid_is_not_bad : (c : Connection) → Valid c → bad c ≡ false
unfolding bad
valid_is_not_bad c (inl e) = rw (eq-eqb c.phase closed e)
valid_is_not_bad c (inr e) = rw e (go (eqb c.phase closed))
  where
    go : (p : Bool) → not p && false ≡ false
    go true = refl
    go false = refl
