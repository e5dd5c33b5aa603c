-- The premises of demand 3 missed one at a time, by computation.
-- Assumes nothing.
use Prim.Native.Nat.{ℕ, ◌+◌, ◌-◌, ◌≤◌}
use mathlib.Core.Path.{◌≡◌, refl, ap}
use mathlib.Core.List.{[]}
use native.Mathlib.Omega.{arith}
use lib.Dec.{lit<, lit≤}
use lib.IntN.{pos, neg_ℤ, ◌+ℤ◌}
use Rattle.rules.proofs.Integers.{sum_is, le_is}
use Rattle.rules.specs.Modulo.{modulo}
use Rattle.clock.specs.Clock.{wrapped, centred, goes_back, wait_of, age_of, verdict_of, offset_read}
use Rattle.number.specs.Number.{distance_of, next_of}
use Rattle.field.specs.Field.{field_of}
use Rattle.message.specs.Layout.{data_tail}
use Rattle.message.specs.Table.{offset_est, table_of, lists}
use Rattle.message.specs.Read.{later_stamp, check_over, whole_of, parsed_of}
use Rattle.connection.specs.Connection.{◌outside◌to◌, out_of_range, unsound, all_zero}
use Rattle.peer_faults.specs.Faults.{expectation_of, number_judged, not_ahead, beyond_n, gap, wrong_echo, accepts, check_failed, age_fault, fault_number, reports_age, age_with}
use Rattle.what_follows.specs.Follows.{answ1_taken, est_taken, data_taken, message_taken, raised, open_follows_of, follows_of, step_of}
use Rattle.calls.specs.Calls.{start_header, bad, close_refusal, tick_refusal, receive_refusal, begin_refusal, timed, expired, receive_outcome, tick_outcome, begin_outcome, initiator}
use Rattle.promises.specs.Promises.{delivers_to, tells_age}
use Rattle.true_age.specs.Clocks.{count_of}
use Rattle.true_age.specs.History.{Ours, newest, earlier, begun}
use Rattle.worked_histories.specs.Worlds.{StaysInBand, DoesNotRunBack, arrivals, responders, past, standing_before}
use Rattle.worked_histories.specs.Histories.{room}
use Rattle.worked_histories.specs.SetUp.{answ1, est, at_initiator, our_start}
use Rattle.worked_histories.specs.Initiator.{slow_peers, settings200}
use Rattle.worked_histories.specs.CallsMissed.{drifting_peers, as_reported, open_as_reported}
use Rattle.worked_histories.specs.PremisesMissed.{after_tick, false_answ1, lagging, as_called, open_as_called, EachIsNeeded}
use Rattle.worked_histories.proofs.Worlds.{past_most, responders_run, initiators_stand, standing_before_runs, at_least, at_most}
use Rattle.worked_histories.proofs.Histories.{type_4_on, Reaches, received, ticked, judges}
use Rattle.worked_histories.proofs.SetUp.{initiator_set_up}
use Rattle.worked_histories.proofs.Initiator.{slow_runs, slow_band}
use Rattle.worked_histories.proofs.CallsMissed.{no_drift, drifting_runs, number, another_record, begun_after, taken_before_sent, start_as_reported, opens_as_reported, report_of_another}

-- ---- the clocks

standing_before_band : StaysInBand (at_initiator standing_before standing_before_runs) 1000 0
standing_before_band judged =
    record {
      floor = pos 850;
      over = λ t h _. at_least t (standing_before t) 850 0 (omega arith);
      under = λ t h _. at_most t (standing_before t) 850 0 (omega arith);
    }

now_runs : DoesNotRunBack lagging
now_runs = initiators_stand 1150 1200

called_band : StaysInBand (as_called now_runs responders_run) 1000 50
called_band judged =
    record {
      floor = pos 800;
      over = λ t h _. at_least (lagging t) (responders t) 800 0 (over t (past 1150 1200 t) h (past_most 1150 1200 t));
      under = λ t h _. at_most (lagging t) (responders t) 850 0 (under t (past 1150 1200 t) h);
    }
  where
    over : (t p : ℕ) → 1000 ≤ t → p ≤ 50 → 800 + (t - 850) ≤ t - p + 0
    over t p h k = omega arith

    under : (t p : ℕ) → 1000 ≤ t → t - p + 0 ≤ 850 + (t - 850)
    under t p h = omega arith

-- ---- each premise missed

pub each_is_needed : EachIsNeeded
unfolding modulo wrapped centred goes_back wait_of age_of verdict_of offset_read distance_of next_of field_of table_of lists later_stamp check_over whole_of parsed_of ◌outside◌to◌ out_of_range unsound expectation_of number_judged not_ahead beyond_n gap wrong_echo accepts check_failed age_fault fault_number reports_age age_with answ1_taken est_taken data_taken message_taken raised open_follows_of follows_of step_of bad close_refusal tick_refusal receive_refusal begin_refusal timed expired receive_outcome tick_outcome begin_outcome delivers_to tells_age
each_is_needed =
    record {
      at_the_bound = record {
        runs = slow_runs;
        band = slow_band;
        message = judges ticks refl
            (lit≤ tt) (lit≤ tt) (lit≤ tt) (data_tail 1) refl (lit< tt) refl (our_start slow_peers slow_runs) (earlier (earlier newest)) refl refl;
        bound_missed = refl;
        claim_fails = λ claim. (claim.bounds refl).least.le;
      };
      past_the_bound = record {
        runs = slow_runs;
        band = slow_band;
        message = judges (ticked ticks 4000000000 (lit≤ tt)) refl
            (lit≤ tt) (lit≤ tt) (lit≤ tt) (data_tail 1) refl (lit< tt) refl (our_start slow_peers slow_runs) (earlier (earlier newest)) refl refl;
        bound_missed = lit< tt;
        claim_fails = λ claim. (claim.handed_up_lem refl).le;
      };
      outside_the_band = record {
        runs = drifting_runs;
        -- at 1000 the difference is 850, at 3000 it is -150
        band_missed = λ j h b. omega (
          arith,
          le_is b.floor (neg_ℤ (pos 150)) (b.over 3000 (lit≤ tt) (lit≤ tt)),
          le_is (pos 850) (b.floor +ℤ pos j) (b.under 1000 (lit≤ tt) (lit≤ tt)),
          sum_is b.floor (pos j),
        );
        message = judges (initiator_set_up drifting_peers drifting_runs refl refl refl settings200 refl newest) refl
            (lit≤ tt) (lit≤ tt) (lit≤ tt) (data_tail 1) refl (lit< tt) refl (our_start drifting_peers drifting_runs) (earlier (earlier newest)) refl refl;
        claim_fails = λ claim. (claim.handed_up_lem refl).le;
      };
      sent_before = record {
        runs = standing_before_runs;
        band = standing_before_band;
        message = judges (initiator_set_up standing_before standing_before_runs refl refl refl settings200 refl newest) refl
            (lit≤ tt) (lit≤ tt) (lit≤ tt) (data_tail 1) refl (lit< tt) refl (our_start standing_before standing_before_runs) (earlier (earlier newest)) refl refl;
        since_missed = λ h. omega arith;
        claim_fails = λ claim. (claim.handed_up_lem refl).le;
      };
      taken_before_sent = taken_before_sent;
      begun_after = begun_after;
      false_stamp = record {
        runs = responders_run;
        band = no_drift (arrivals 1020 1090 1120);
        message = judges (initiator_set_up responders responders_run refl refl refl settings200 refl newest) refl
            (lit≤ tt) (lit≤ tt) (lit≤ tt) (data_tail 1) refl (lit< tt) refl (our_start responders responders_run) (earlier (earlier newest)) refl refl;
        since = lit≤ tt;
        onward = lit≤ tt;
        stamp_missed = λ e. let f : ◌≡◌ {A = ℕ} 1150 270 = ap number e in omega arith;
        numbers_are = refl;
        claim_fails = λ claim. (claim.handed_up_lem refl).le;
      };
      false_arrival = record {
        runs = responders_run;
        band = no_drift (arrivals 1000 1090 1120);
        message = judges opens refl
            (lit≤ tt) (lit≤ tt) (lit≤ tt) (data_tail 1) refl (lit< tt) refl (start_as_reported 1000) (earlier (earlier newest)) refl refl;
        arrival_missed = λ e. let f : ◌≡◌ {A = ℕ} 150 170 = ap number e in omega arith;
        common_is = refl;
        numbers_are = refl;
        claim_fails = λ claim. (claim.handed_up_lem refl).le;
      };
      report_of_another = report_of_another;
      false_now = record {
        now_runs = now_runs;
        runs = responders_run;
        band = no_drift (arrivals 1020 1090 1120);
        called_band = called_band;
        message = judges opens_as_called refl
            (lit≤ tt) (lit≤ tt) (lit≤ tt) (data_tail 1) refl (lit< tt) refl first_as_called (earlier (earlier newest)) refl refl;
        now_missed = λ e. let f : ◌≡◌ {A = ℕ} 1290 1340 = ap number e in omega arith;
        true_age_is = refl;
        claim_fails = λ claim. (claim.handed_up_lem refl).le;
      };
      another_record = another_record;
    }
  where
    ticks : Reaches (at_initiator slow_peers slow_runs) 1000 initiator settings200 (after_tick slow_runs)
    ticks = ticked (initiator_set_up slow_peers slow_runs refl refl refl settings200 refl newest) 2000000000 (lit≤ tt)

    opens : Reaches (as_reported 1000 responders_run) 1000 initiator settings200 (open_as_reported 1000 false_answ1 responders_run)
    opens =
        opens_as_reported 1000 false_answ1
        (record {
          sent = 1050;
          since = lit≤ tt;
          onward = lit≤ tt;
          stamped = refl;
          reports = λ _. record { which = 0; ours = start_as_reported 1000; of_ours = newest; onward = lit≤ tt; echoes = refl; reported = refl };
        })

    first_as_called : Ours (as_called now_runs responders_run)
    first_as_called = record { at = 1000; header = start_header 7 (count_of 1000) }

    opens_as_called : Reaches (as_called now_runs responders_run) 1000 initiator settings200 (open_as_called now_runs responders_run)
    opens_as_called =
        received
        (received (begun all_zero 7 50 1000 [] room (λ _. lit≤ tt) refl) 1080 (lit≤ tt) answ1 room
        (λ _ _. record {
          sent = 1050;
          since = lit≤ tt;
          onward = lit≤ tt;
          stamped = refl;
          reports = λ _. record { which = 0; ours = first_as_called; of_ours = newest; onward = lit≤ tt; echoes = refl; reported = refl };
        }))
        1110 (lit≤ tt) est room
        (λ _ _. record { sent = 1095; since = lit≤ tt; onward = lit≤ tt; stamped = refl; reports = type_4_on offset_est (lit< tt) })
