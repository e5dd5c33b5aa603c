-- A call leaves a record of machine numbers, given one; and where it is closed it is the record from before, or all zero.
-- Assumes nothing.
use Prim.Native.Nat.{ℕ, ◌+◌, ◌^◌, ◌<◌}
use mathlib.Core.Path.{◌≡◌, refl, sym, subst}
use mathlib.Core.Bool.{false, not, ◌||◌}
use mathlib.Core.List.{List}
use mathlib.Core.Logic.{◌⊎◌, inl, inr}
use native.Mathlib.Omega.{arith}
use borrow.Author.Tests.{leb-false}
use lib.Dec.{ltb, leb, eqb, lit<}
use lib.ListN.{length}
use Rattle.clock.specs.declared.Count.{Count}
use Rattle.clock.proofs.Wrapped.{centred_range}
use Rattle.number.proofs.Following.{next_fits}
use Rattle.field.specs.Row.{Bytes}
use Rattle.field.proofs.Field.{field_fits}
use Rattle.message.specs.Table.{offset_start, offset_answ1, offset_answ2, offset_est, offset_end}
use Rattle.message.specs.Read.{parsed_of}
use Rattle.message.specs.declared.Header.{Header}
use Rattle.message.specs.declared.Tail.{Tail}
use Rattle.std.proofs.Common.{Some}
use Rattle.message.specs.Layout.{whole}
use Rattle.message.proofs.Accepted.{accepted}
use Rattle.connection.specs.declared.Connection.{Connection}
use Rattle.connection.specs.Connection.{closed, out_of_range, all_zero, clocked, counted, heard, heard_of, sent, one_more}
use Rattle.connection.proofs.Ranges.{in_range}
use Rattle.std.proofs.lemmas.Bool.{or_parts}
use Rattle.what_follows.specs.declared.Outcome.{Outcome}
use Rattle.what_follows.specs.Follows.{start_taken, answ1_taken, answ2_taken, est_taken, end_taken, data_taken, message_taken, refusing, raised}
use Rattle.calls.specs.declared.Given.{Given}
use Rattle.calls.specs.declared.Call.{Call}
use Rattle.calls.specs.Calls.{
  bad,
  close_refusal,
  tick_refusal,
  receive_refusal,
  send_refusal,
  begin_refusal,
  receive_outcome,
  tick_outcome,
  close_outcome,
  send_outcome,
  begin_outcome,
  outcome_of,
  initiator,
  responder,
}
use Rattle.calls.proofs.Replies.{both, none_refused, row_off, then_off}
use Rattle.promises.proofs.Promises.{Ageless, Ways, receive_by, tick_by}
use Rattle.row_promises.specs.Rows.{SettingsRanges, OwnRanges, PeerRanges, Ranges}
use Rattle.row_promises.specs.Calls.{GivenRanges}
use Rattle.row_promises.proofs.Rows.{zero_ranges}

-- what a call leaves of a record
pub record Keeps (c : Connection) (o : Outcome) : Type 0 where
  pub ranges : Ranges o.next
  pub how : (o.next ≡ c) ⊎ ((o.next ≡ all_zero) ⊎ (eqb o.next.phase closed ≡ false))

keeps_ageless : (c : Connection) → Ageless (Keeps c)
keeps_ageless c age o x = record { ranges = x.ranges; how = x.how }

same : {c : Connection} {o : Outcome} → Ranges c → o.next ≡ c → Keeps c o
same {c} {o} r e = record { ranges = subst Ranges (sym e) r; how = inl e }

gone : {c : Connection} {o : Outcome} → o.next ≡ all_zero → Keeps c o
gone e = record { ranges = subst Ranges (sym e) zero_ranges; how = inr (inl e) }

goes_on_lem : {c : Connection} {o : Outcome} → Ranges o.next → eqb o.next.phase closed ≡ false → Keeps c o
goes_on_lem r p = record { ranges = r; how = inr (inr p) }

-- ---- what is not refused is not closed

open_to_close : (c : Connection) → close_refusal c ≡ 0 → eqb c.phase closed ≡ false
unfolding close_refusal
open_to_close c e = (row_off (eqb c.phase closed) 102 0 (lit< tt) (row_off (bad c) 101 _ (lit< tt) e).1).0

open_to_tick : (c : Connection) (now : Count) → tick_refusal c now ≡ 0 → eqb c.phase closed ≡ false
unfolding tick_refusal
open_to_tick c now e = open_to_close c (then_off (close_refusal c) _ e).0

open_to_receive : (c : Connection) (now : Count) (room : ℕ) → receive_refusal c now room ≡ 0 → eqb c.phase closed ≡ false
unfolding receive_refusal
open_to_receive c now room e = open_to_tick c now (then_off (tick_refusal c now) _ e).0

open_to_send : (c : Connection) (now : Count) (size room : ℕ) → send_refusal c now size room ≡ 0 → eqb c.phase closed ≡ false
unfolding send_refusal
open_to_send c now size room e = open_to_tick c now (then_off (tick_refusal c now) _ e).0

-- ---- the parts that change

module _ (c : Connection) (now : Count) (r : Ranges c) (small : now.0 < 2 ^ 32) where
  clocked_ranges : Ranges (clocked c now)
  clocked_ranges =
      record {
        phase = r.phase;
        settings = r.settings;
        own = r.own;
        peer = r.peer;
        wait = r.wait;
        offsets = r.offsets;
        errors = r.errors;
        clock = small;
      }

  sent_ranges : Ranges (sent (clocked c now))
  sent_ranges =
      record {
        phase = r.phase;
        settings = r.settings;
        own = record { number = next_fits c.own.number; period = r.own.period };
        peer = r.peer;
        wait = r.wait;
        offsets = r.offsets;
        errors = r.errors;
        clock = small;
      }

  module _ (message : List ℕ) (b : Bytes message) (h : Header) (t : Tail) (w : parsed_of message ≡ Some (whole h t)) where
    heard_peer : PeerRanges (heard_of h now)
    heard_peer =
        subst (λ (x : Header). PeerRanges (heard_of x now)) (accepted message h t w).header
        (record { number = field_fits 2 message 1 b; stamp = field_fits 4 message 3 b; arrival = small })

    heard_ranges : Ranges (heard (clocked c now) h now)
    heard_ranges =
        record {
          phase = r.phase;
          settings = r.settings;
          own = r.own;
          peer = heard_peer;
          wait = r.wait;
          offsets = r.offsets;
          errors = r.errors;
          clock = small;
        }

    one_more_lem : OwnRanges (one_more c.own)
    one_more_lem = record { number = next_fits c.own.number; period = r.own.period }

    -- a message of set-up that is taken: another phase and wait, and sometimes the offsets
    taken_keeps : eqb c.phase closed ≡ false → Keeps c (message_taken c now h t)
    unfolding message_taken start_taken answ1_taken answ2_taken est_taken end_taken data_taken
    taken_keeps p =
        both (Keeps c) (eqb h.kind offset_start) _ _ (λ _. goes_on_lem (record { phase = lit< tt; settings = r.settings; own = one_more_lem; peer = heard_peer; wait = small; offsets = r.offsets; errors = r.errors; clock = small }) refl) (λ _.
        both (Keeps c) (eqb h.kind offset_answ1) _ _ (λ _. goes_on_lem (record { phase = lit< tt; settings = r.settings; own = one_more_lem; peer = heard_peer; wait = small; offsets = record { min = centred_range _; max = centred_range _ }; errors = r.errors; clock = small }) refl) (λ _.
        both (Keeps c) (eqb h.kind offset_answ2) _ _ (λ _. goes_on_lem (record { phase = lit< tt; settings = r.settings; own = one_more_lem; peer = heard_peer; wait = small; offsets = record { min = centred_range _; max = centred_range _ }; errors = r.errors; clock = small }) refl) (λ _.
        both (Keeps c) (eqb h.kind offset_est) _ _ (λ _. goes_on_lem (record { phase = lit< tt; settings = r.settings; own = one_more_lem; peer = heard_peer; wait = lit< tt; offsets = r.offsets; errors = r.errors; clock = small }) refl) (λ _.
        both (Keeps c) (eqb h.kind offset_end) _ _ (λ _. goes_on_lem (record { phase = lit< tt; settings = r.settings; own = r.own; peer = heard_peer; wait = lit< tt; offsets = r.offsets; errors = r.errors; clock = small }) refl) (λ _.
        goes_on_lem (record { phase = r.phase; settings = r.settings; own = r.own; peer = heard_peer; wait = r.wait; offsets = r.offsets; errors = lit< tt; clock = small }) p)))))

-- one error more, under the limit
raised_keeps : (c d : Connection) (k n : ℕ) → Ranges d → eqb d.phase closed ≡ false → Keeps c (raised d k n)
unfolding raised
raised_keeps c d k n r p =
    both (Keeps c) (leb d.settings.limit (d.errors + 1)) _ _ (λ _. gone refl) (λ e. goes_on_lem (more (leb-false d.settings.limit (d.errors + 1) e)) p)
  where
    more : d.errors + 1 < d.settings.limit → Ranges (counted d (d.errors + 1))
    more l =
        record {
          phase = r.phase;
          settings = r.settings;
          own = r.own;
          peer = r.peer;
          wait = r.wait;
          offsets = r.offsets;
          errors = omega (arith, r.settings.limit, l);
          clock = r.clock;
        }

-- ---- the calls

module _ (c : Connection) (now : Count) (r : Ranges c) (small : now.0 < 2 ^ 32) where
  receive_keeps : (message : List ℕ) (room : ℕ) → Bytes message → Keeps c (receive_outcome c now message room)
  unfolding refusing
  receive_keeps message room b =
      receive_by (Keeps c) (keeps_ageless c) c now message room (λ _. same r refl) (λ _ _. gone refl) (λ e. ways (open_to_receive c now room e))
    where
      ways : eqb c.phase closed ≡ false → Ways (Keeps c) c now (parsed_of message)
      ways p =
          record {
            malformed_open = λ _. goes_on_lem (clocked_ranges c now r small) p;
            malformed_set_up = λ _. gone refl;
            unexpected = λ _. goes_on_lem (clocked_ranges c now r small) p;
            unexpected_set_up = λ _. gone refl;
            taken = λ h t w _ _. taken_keeps c now r small message b h t w p;
            refusing = λ _ _. gone refl;
            in_set_up = λ _ _ _. gone refl;
            dropped = λ _. raised_keeps c (clocked c now) 202 0 (clocked_ranges c now r small) p;
            too_far_lem = λ _. gone refl;
            after_gap = λ h t w _ _. raised_keeps c (heard (clocked c now) h now) 204 t.«data» (heard_ranges c now r small message b h t w) p;
            raising = λ h t w k _ _ _ _. raised_keeps c (heard (clocked c now) h now) k 0 (heard_ranges c now r small message b h t w) p;
          }

  tick_keeps : Keeps c (tick_outcome c now)
  tick_keeps =
      tick_by (Keeps c) c now (λ _. same r refl) (λ _ _. gone refl) (λ e. goes_on_lem (clocked_ranges c now r small) (open_to_tick c now e))

  send_keeps : (size room : ℕ) → Keeps c (send_outcome c now size room)
  unfolding send_outcome
  send_keeps size room =
      both (Keeps c) (not (eqb (send_refusal c now size room) 0)) _ _ (λ _. same r refl)
      (λ e. goes_on_lem (sent_ranges c now r small) (open_to_send c now size room (none_refused (send_refusal c now size room) e)))

  close_keeps : Keeps c (close_outcome c)
  unfolding close_outcome
  close_keeps = both (Keeps c) (not (eqb (close_refusal c) 0)) _ _ (λ _. same r refl) (λ _. gone refl)

  begin_keeps : (g : Given) (room : ℕ) → GivenRanges (Call.Begin g) → Keeps c (begin_outcome c g now room)
  unfolding begin_outcome begin_refusal
  begin_keeps g room own =
      both (Keeps c) (not (eqb (begin_refusal c g room) 0)) _ _ (λ _. same r refl) (λ e.
      let s : SettingsRanges g.settings = settings_in (none_refused (begin_refusal c g room) e) in
      both (Keeps c) (eqb g.role initiator) _ _
      (λ _. goes_on_lem (record { phase = lit< tt; settings = s; own = record { number = next_fits g.own.number; period = own.1 }; peer = zero_ranges.peer; wait = small; offsets = zero_ranges.offsets; errors = lit< tt; clock = small }) refl)
      (λ _. goes_on_lem (record { phase = lit< tt; settings = s; own = record { number = own.0; period = own.1 }; peer = zero_ranges.peer; wait = lit< tt; offsets = zero_ranges.offsets; errors = lit< tt; clock = small }) refl))
    where
      settings_in : begin_refusal c g room ≡ 0 → SettingsRanges g.settings
      settings_in e =
          let a = row_off (bad c) 101 _ (lit< tt) e in
          let b = row_off (not (eqb c.phase closed)) 103 _ (lit< tt) a.1 in
          let d = row_off (ltb responder g.role || out_of_range g.settings) 104 _ (lit< tt) b.1 in
          let i = in_range g.settings (or_parts (ltb responder g.role) (out_of_range g.settings) d.0).1 in
          record { n = omega (arith, i.most_n_lem); t_max = omega (arith, i.most_t_max); e = omega (arith, i.most_e, i.most_t_max); t_start = omega (arith, i.t_start); t_off = omega (arith, i.most_t_off); limit = omega (arith, i.most_limit_lem) }

-- any call
pub call_keeps : (call : Call) (c : Connection) (now : Count) (lent : List ℕ) (room : ℕ) → Ranges c → now.0 < 2 ^ 32 → Bytes lent → GivenRanges call
    → Keeps c (outcome_of call c now lent room)
call_keeps (Call.Begin g) c now lent room r small b g' = begin_keeps c now r small g room g'
call_keeps Call.Receive c now lent room r small b g = receive_keeps c now r small lent room b
call_keeps Call.Send c now lent room r small b g = send_keeps c now r small (length lent) room
call_keeps Call.Tick c now lent room r small b g = tick_keeps c now r small
call_keeps Call.Close c now lent room r small b g = close_keeps c now r small
