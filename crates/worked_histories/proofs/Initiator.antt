-- The premises of demand 3 are met at an initiator, by computation.
-- Assumes nothing.
use Prim.Native.Nat.{ℕ, ◌+◌, ◌-◌, ◌≤◌}
use mathlib.Core.Path.{refl}
use native.Mathlib.Omega.{arith}
use lib.Dec.{lit<, lit≤}
use lib.ListN.{replicate}
use lib.IntN.{pos}
use Rattle.rules.specs.Modulo.{modulo}
use Rattle.clock.specs.Clock.{wrapped, centred, goes_back, wait_of, age_of, verdict_of, offset_read}
use Rattle.number.specs.Number.{distance_of, next_of}
use Rattle.field.specs.Field.{field_of}
use Rattle.message.specs.Layout.{data_tail}
use Rattle.message.specs.Table.{table_of, lists}
use Rattle.message.specs.Read.{later_stamp, check_over, whole_of, parsed_of}
use Rattle.connection.specs.Connection.{◌outside◌to◌, out_of_range, unsound}
use Rattle.peer_faults.specs.Faults.{expectation_of, number_judged, not_ahead, beyond_n, gap, wrong_echo, accepts, check_failed, age_fault, fault_number, reports_age, age_with}
use Rattle.what_follows.specs.Follows.{answ1_taken, est_taken, data_taken, message_taken, raised, open_follows_of, follows_of, step_of}
use Rattle.calls.specs.Calls.{bad, close_refusal, tick_refusal, receive_refusal, send_refusal, begin_refusal, timed, expired, receive_outcome, tick_outcome, send_outcome, begin_outcome, initiator}
use Rattle.true_age.specs.History.{newest, earlier}
use Rattle.worked_histories.specs.Worlds.{StaysInBand, DoesNotRunBack, responders, past}
use Rattle.worked_histories.specs.Histories.{room}
use Rattle.worked_histories.specs.SetUp.{at_initiator, our_start}
use Rattle.worked_histories.specs.Initiator.{peers, settings, fresh_message, gap_message, late_message, future_message, world, after_send, after_fresh, after_gap, after_late, after_tick, after_future, InitiatorMeets, slow_peers, settings200, LateReached}
use Rattle.worked_histories.proofs.Worlds.{past_most, responders_run, gaining_runs, responders_stand, at_least, at_most}
use Rattle.worked_histories.proofs.Histories.{Reaches, sent, ticked, goes_on_lem, judges}
use Rattle.worked_histories.proofs.SetUp.{initiator_set_up}

runs : DoesNotRunBack peers
runs = gaining_runs 2000 2060 responders responders_run

band : StaysInBand (world runs) 1000 60
band judged =
    record {
      floor = pos 790;
      over = λ t h _. at_least t (peers t) 790 0 (over t (past 2000 2060 t) h (past_most 2000 2060 t));
      under = λ t h _. at_most t (peers t) 850 0 (under t (past 2000 2060 t) h);
    }
  where
    over : (t p : ℕ) → 1000 ≤ t → p ≤ 60 → 790 + (t - 850 + p) ≤ t + 0
    over t p h k = omega arith

    under : (t p : ℕ) → 1000 ≤ t → t + 0 ≤ 850 + (t - 850 + p)
    under t p h = omega arith

pub initiator_meets : InitiatorMeets
unfolding modulo wrapped centred goes_back wait_of age_of verdict_of offset_read distance_of next_of field_of table_of lists later_stamp check_over whole_of parsed_of ◌outside◌to◌ out_of_range unsound expectation_of number_judged not_ahead beyond_n gap wrong_echo accepts check_failed age_fault fault_number reports_age age_with answ1_taken est_taken data_taken message_taken raised open_follows_of follows_of step_of bad close_refusal tick_refusal receive_refusal send_refusal begin_refusal timed expired receive_outcome tick_outcome send_outcome begin_outcome
initiator_meets =
    record {
      runs = runs;
      band = band;
      fresh = judges sends_4 refl
          (lit≤ tt) (lit≤ tt) (lit≤ tt) (data_tail 1) refl (lit< tt) refl (our_start peers runs) (earlier (earlier (earlier newest))) refl refl;
      gap = judges takes_fresh refl
          (lit≤ tt) (lit≤ tt) (lit≤ tt) (data_tail 1) refl (lit< tt) refl (our_start peers runs) (earlier (earlier (earlier newest))) refl refl;
      late = judges takes_gap refl
          (lit≤ tt) (lit≤ tt) (lit≤ tt) (data_tail 1) refl (lit< tt) refl (our_start peers runs) (earlier (earlier (earlier newest))) refl refl;
      future = judges ticks refl
          (lit≤ tt) (lit≤ tt) (lit≤ tt) (data_tail 1) refl (lit< tt) refl (our_start peers runs) (earlier (earlier (earlier newest))) refl refl;
      oldest = judges takes_future refl
          (lit≤ tt) (lit≤ tt) (lit≤ tt) (data_tail 1) refl (lit< tt) refl (our_start peers runs) (earlier (earlier (earlier newest))) refl refl;
    }
  where
    sends_4 : Reaches (world runs) 1000 initiator settings (after_send runs)
    sends_4 = sent (initiator_set_up peers runs refl refl refl settings refl newest) 1130 (lit≤ tt) (replicate 4 0x55) room

    takes_fresh : Reaches (world runs) 1000 initiator settings (after_fresh runs)
    takes_fresh = goes_on_lem (after_send runs) sends_4 refl 1172 (lit≤ tt) fresh_message

    takes_gap : Reaches (world runs) 1000 initiator settings (after_gap runs)
    takes_gap = goes_on_lem (after_fresh runs) takes_fresh refl 1215 (lit≤ tt) gap_message

    takes_late : Reaches (world runs) 1000 initiator settings (after_late runs)
    takes_late = goes_on_lem (after_gap runs) takes_gap refl 1271 (lit≤ tt) late_message

    ticks : Reaches (world runs) 1000 initiator settings (after_tick runs)
    ticks = ticked takes_late 1500 (lit≤ tt)

    takes_future : Reaches (world runs) 1000 initiator settings (after_future runs)
    takes_future = goes_on_lem (after_tick runs) ticks refl 2139 (lit≤ tt) future_message

-- ---- the peer's clock stands still

pub slow_runs : DoesNotRunBack slow_peers
slow_runs = responders_stand 1120 1180

pub slow_band : StaysInBand (at_initiator slow_peers slow_runs) 1000 60
slow_band judged =
    record {
      floor = pos 850;
      over = λ t h _. at_least t (slow_peers t) 850 0 (over t (past 1120 1180 t) h);
      under = λ t h _. at_most t (slow_peers t) 910 0 (under t (past 1120 1180 t) h (past_most 1120 1180 t));
    }
  where
    over : (t p : ℕ) → 1000 ≤ t → 850 + (t - 850 - p) ≤ t + 0
    over t p h = omega arith

    under : (t p : ℕ) → 1000 ≤ t → p ≤ 60 → t + 0 ≤ 910 + (t - 850 - p)
    under t p h k = omega arith

pub late_reached : LateReached
unfolding modulo wrapped centred goes_back wait_of age_of verdict_of offset_read distance_of next_of field_of table_of lists later_stamp check_over whole_of parsed_of ◌outside◌to◌ out_of_range unsound expectation_of number_judged not_ahead beyond_n gap wrong_echo accepts check_failed age_fault fault_number reports_age age_with answ1_taken est_taken message_taken raised open_follows_of follows_of step_of bad close_refusal tick_refusal receive_refusal begin_refusal timed expired receive_outcome begin_outcome
late_reached =
    record {
      runs = slow_runs;
      band = slow_band;
      late = judges (initiator_set_up slow_peers slow_runs refl refl refl settings200 refl newest) refl
          (lit≤ tt) (lit≤ tt) (lit≤ tt) (data_tail 1) refl (lit< tt) refl (our_start slow_peers slow_runs) (earlier (earlier newest)) refl refl;
    }
