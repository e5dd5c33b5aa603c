-- The premises of demand 3 are met at a responder, by computation.
-- Assumes nothing.
use Prim.Native.Nat.{ℕ, ◌+◌, ◌-◌, ◌≤◌}
use mathlib.Core.Path.{refl}
use native.Mathlib.Omega.{arith}
use lib.Dec.{lit<, lit≤}
use lib.IntN.{pos, neg_ℤ}
use Rattle.rules.specs.Modulo.{modulo}
use Rattle.clock.specs.Clock.{wrapped, centred, goes_back, wait_of, age_of, verdict_of}
use Rattle.number.specs.Number.{distance_of, next_of}
use Rattle.field.specs.Field.{field_of}
use Rattle.message.specs.Layout.{data_tail}
use Rattle.message.specs.Table.{table_of, lists}
use Rattle.message.specs.Read.{later_stamp, check_over, whole_of, parsed_of}
use Rattle.connection.specs.Connection.{◌outside◌to◌, out_of_range, unsound}
use Rattle.peer_faults.specs.Faults.{expectation_of, number_judged, not_ahead, beyond_n, gap, wrong_echo, check_failed, age_fault, fault_number, reports_age, age_with}
use Rattle.what_follows.specs.Follows.{start_taken, answ2_taken, end_taken, data_taken, message_taken, raised, open_follows_of, follows_of, step_of}
use Rattle.calls.specs.Calls.{bad, close_refusal, tick_refusal, receive_refusal, begin_refusal, timed, expired, receive_outcome, begin_outcome, responder}
use Rattle.true_age.specs.History.{newest, earlier}
use Rattle.worked_histories.specs.Worlds.{StaysInBand, DoesNotRunBack, initiators, responders, past}
use Rattle.worked_histories.specs.SetUp.{at_responder, our_answ1}
use Rattle.worked_histories.specs.Initiator.{settings200}
use Rattle.worked_histories.specs.Responder.{peers, settings, fresh_message, gap_message, late_message, future_message, world, after_end, after_fresh, after_gap, after_late, after_future, ResponderMeets, slow_peers, ResponderLateReached}
use Rattle.worked_histories.proofs.Worlds.{past_most, responders_run, initiators_stand, gaining_runs, at_least, at_most}
use Rattle.worked_histories.proofs.Histories.{Reaches, goes_on_lem, judges}
use Rattle.worked_histories.proofs.SetUp.{responder_set_up}

runs : DoesNotRunBack peers
runs = gaining_runs 2000 2060 initiators (λ t u h. h)

band : StaysInBand (world responders_run runs) 1000 60
band judged =
    record {
      floor = neg_ℤ (pos 910);
      over = λ t h _. at_least (responders t) (peers t) 0 910 (over t (past 2000 2060 t) h (past_most 2000 2060 t));
      under = λ t h _. at_most (responders t) (peers t) 0 850 (under t (past 2000 2060 t) h);
    }
  where
    over : (t p : ℕ) → 1000 ≤ t → p ≤ 60 → 0 + (t + p) ≤ t - 850 + 910
    over t p h k = omega arith

    under : (t p : ℕ) → 1000 ≤ t → t - 850 + 850 ≤ 0 + (t + p)
    under t p h = omega arith

pub responder_meets : ResponderMeets
unfolding modulo wrapped centred goes_back wait_of age_of verdict_of distance_of next_of field_of table_of lists later_stamp check_over whole_of parsed_of ◌outside◌to◌ out_of_range unsound expectation_of number_judged not_ahead beyond_n gap wrong_echo check_failed age_fault fault_number reports_age age_with start_taken answ2_taken end_taken data_taken message_taken raised open_follows_of follows_of step_of bad close_refusal tick_refusal receive_refusal begin_refusal timed expired receive_outcome begin_outcome
responder_meets =
    record {
      ours_runs = responders_run;
      runs = runs;
      band = band;
      fresh = judges opens refl
          (lit≤ tt) (lit≤ tt) (lit≤ tt) (data_tail 1) refl (lit< tt) refl (our_answ1 peers responders_run runs) (earlier newest) refl refl;
      gap = judges takes_fresh refl
          (lit≤ tt) (lit≤ tt) (lit≤ tt) (data_tail 1) refl (lit< tt) refl (our_answ1 peers responders_run runs) (earlier newest) refl refl;
      late = judges takes_gap refl
          (lit≤ tt) (lit≤ tt) (lit≤ tt) (data_tail 1) refl (lit< tt) refl (our_answ1 peers responders_run runs) (earlier newest) refl refl;
      future = judges takes_late refl
          (lit≤ tt) (lit≤ tt) (lit≤ tt) (data_tail 1) refl (lit< tt) refl (our_answ1 peers responders_run runs) (earlier newest) refl refl;
      oldest = judges takes_future refl
          (lit≤ tt) (lit≤ tt) (lit≤ tt) (data_tail 1) refl (lit< tt) refl (our_answ1 peers responders_run runs) (earlier newest) refl refl;
    }
  where
    opens : Reaches (world responders_run runs) 1000 responder settings (after_end responders_run runs)
    opens = responder_set_up peers responders_run runs refl refl refl refl settings refl newest

    takes_fresh : Reaches (world responders_run runs) 1000 responder settings (after_fresh responders_run runs)
    takes_fresh = goes_on_lem (after_end responders_run runs) opens refl 1215 (lit≤ tt) fresh_message

    takes_gap : Reaches (world responders_run runs) 1000 responder settings (after_gap responders_run runs)
    takes_gap = goes_on_lem (after_fresh responders_run runs) takes_fresh refl 1260 (lit≤ tt) gap_message

    takes_late : Reaches (world responders_run runs) 1000 responder settings (after_late responders_run runs)
    takes_late = goes_on_lem (after_gap responders_run runs) takes_gap refl 1316 (lit≤ tt) late_message

    takes_future : Reaches (world responders_run runs) 1000 responder settings (after_future responders_run runs)
    takes_future = goes_on_lem (after_late responders_run runs) takes_late refl 2124 (lit≤ tt) future_message

-- ---- the peer's clock stands still

slow_runs : DoesNotRunBack slow_peers
slow_runs = initiators_stand 1145 1205

slow_band : StaysInBand (at_responder slow_peers responders_run slow_runs) 1000 60
slow_band judged =
    record {
      floor = neg_ℤ (pos 850);
      over = λ t h _. at_least (responders t) (slow_peers t) 0 850 (over t (past 1145 1205 t) h);
      under = λ t h _. at_most (responders t) (slow_peers t) 0 790 (under t (past 1145 1205 t) h (past_most 1145 1205 t));
    }
  where
    over : (t p : ℕ) → 1000 ≤ t → 0 + (t - p) ≤ t - 850 + 850
    over t p h = omega arith

    under : (t p : ℕ) → 1000 ≤ t → p ≤ 60 → t - 850 + 790 ≤ 0 + (t - p)
    under t p h k = omega arith

pub responder_late_reached : ResponderLateReached
unfolding modulo wrapped centred goes_back wait_of age_of verdict_of distance_of next_of field_of table_of lists later_stamp check_over whole_of parsed_of ◌outside◌to◌ out_of_range unsound expectation_of number_judged not_ahead beyond_n gap wrong_echo check_failed age_fault fault_number reports_age age_with start_taken answ2_taken end_taken message_taken raised open_follows_of follows_of step_of bad close_refusal tick_refusal receive_refusal begin_refusal timed expired receive_outcome begin_outcome
responder_late_reached =
    record {
      ours_runs = responders_run;
      runs = slow_runs;
      band = slow_band;
      late = judges (responder_set_up slow_peers responders_run slow_runs refl refl refl refl settings200 refl newest) refl
          (lit≤ tt) (lit≤ tt) (lit≤ tt) (data_tail 1) refl (lit< tt) refl (our_answ1 slow_peers responders_run slow_runs) (earlier newest) refl refl;
    }
