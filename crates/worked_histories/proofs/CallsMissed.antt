-- Four premises of demand 3 missed one at a time, by computation: the record, the set-up's beginning, the taking, the message reported.
-- Assumes nothing.
use Prim.Native.Nat.{ℕ, ◌+◌, ◌-◌, ◌≤◌}
use mathlib.Core.Path.{◌≡◌, refl, ap}
use native.Mathlib.Omega.{arith}
use lib.Dec.{lit<, lit≤}
use lib.IntN.{ℤ, pos}
use mathlib.Core.List.{List, []}
use Rattle.clock.specs.declared.Count.{Count}
use Rattle.rules.specs.Modulo.{modulo}
use Rattle.clock.specs.Clock.{wrapped, centred, goes_back, wait_of, age_of, verdict_of, offset_read}
use Rattle.number.specs.Number.{distance_of, next_of}
use Rattle.field.specs.Field.{field_of}
use Rattle.message.specs.Layout.{data_tail}
use Rattle.message.specs.Table.{offset_est, table_of, lists}
use Rattle.message.specs.Read.{later_stamp, check_over, whole_of, parsed_of}
use Rattle.connection.specs.Connection.{◌outside◌to◌, out_of_range, unsound, all_zero}
use Rattle.peer_faults.specs.Faults.{expectation_of, number_judged, not_ahead, beyond_n, gap, wrong_echo, accepts, check_failed, age_fault, fault_number, reports_age, age_with}
use Rattle.what_follows.specs.Follows.{answ1_taken, est_taken, data_taken, message_taken, raised, open_follows_of, follows_of, step_of}
use Rattle.connection.specs.declared.Connection.{Connection}
use Rattle.calls.specs.Calls.{start_header, bad, close_refusal, tick_refusal, receive_refusal, begin_refusal, timed, expired, receive_outcome, begin_outcome, initiator}
use Rattle.promises.specs.Promises.{delivers_to, tells_age}
use Rattle.true_age.specs.Clocks.{InBand, count_of}
use Rattle.true_age.specs.History.{Ours, JudgedBytes, newest, earlier, begun}
use Rattle.worked_histories.specs.Worlds.{StaysInBand, DoesNotRunBack, arrivals, world_of, initiators, responders}
use Rattle.worked_histories.specs.Histories.{room}
use Rattle.worked_histories.specs.SetUp.{est, at_initiator, our_start}
use Rattle.worked_histories.specs.Initiator.{settings200}
use Rattle.worked_histories.specs.CallsMissed.{quick_peers, drifting_peers, as_reported, begin_as_reported, open_as_reported, earliers_answ1, AnotherRecord, BegunAfter, TakenBeforeSent, ReportOfAnother}
use Rattle.worked_histories.proofs.Worlds.{responders_run, gaining_runs, at_least, at_most}
use Rattle.worked_histories.proofs.Histories.{type_4_on, Reaches, received, judges}
use Rattle.worked_histories.proofs.SetUp.{initiator_set_up}

-- ---- the clocks

-- whenever our messages arrive
pub no_drift : (arrived : ℕ → ℕ) → StaysInBand (world_of initiators responders arrived (λ t u h. h) responders_run) 1000 0
no_drift arrived judged =
    record {
      floor = pos 850;
      over = λ t h _. at_least t (responders t) 850 0 (omega arith);
      under = λ t h _. at_most t (responders t) 850 0 (omega arith);
    }

quick_runs : DoesNotRunBack quick_peers
quick_runs = gaining_runs 1000 1020 (λ t. t - 870) (λ t u h. omega arith)

-- all 20 ticks are past from 1030 on
quick_band : StaysInBand (at_initiator quick_peers quick_runs) 1030 0
quick_band judged =
    record {
      floor = pos 850;
      over = λ t h _. at_least t (quick_peers t) 850 0 (over t h);
      under = λ t h _. at_most t (quick_peers t) 850 0 (under t h);
    }
  where
    over : (t : ℕ) → 1030 ≤ t → 850 + (t - 870 + (t - 1000 - (t - 1020))) ≤ t + 0
    over t h = omega arith

    under : (t : ℕ) → 1030 ≤ t → t + 0 ≤ 850 + (t - 870 + (t - 1000 - (t - 1020)))
    under t h = omega arith

pub drifting_runs : DoesNotRunBack drifting_peers
drifting_runs = gaining_runs 2000 3000 responders responders_run

-- up to 2000 they do not drift
before_drift : InBand (at_initiator drifting_peers drifting_runs) 1000 2000 0
before_drift =
    record {
      floor = pos 850;
      over = λ t h k. at_least t (drifting_peers t) 850 0 (over t h k);
      under = λ t h k. at_most t (drifting_peers t) 850 0 (under t h k);
    }
  where
    over : (t : ℕ) → 1000 ≤ t → t ≤ 2000 → 850 + (t - 850 + (t - 2000 - (t - 3000))) ≤ t + 0
    over t h k = omega arith

    under : (t : ℕ) → 1000 ≤ t → t ≤ 2000 → t + 0 ≤ 850 + (t - 850 + (t - 2000 - (t - 3000)))
    under t h k = omega arith

abbrev pub number : Count → ℕ
number c = c.0

abbrev offset_min : Connection → ℤ
offset_min c = c.offsets.min.0

-- ---- each premise missed

pub another_record : AnotherRecord
unfolding modulo wrapped centred goes_back wait_of age_of verdict_of offset_read distance_of next_of field_of table_of lists later_stamp check_over whole_of parsed_of ◌outside◌to◌ out_of_range unsound expectation_of number_judged not_ahead beyond_n gap wrong_echo accepts check_failed age_fault fault_number reports_age age_with answ1_taken est_taken data_taken message_taken raised open_follows_of follows_of step_of bad close_refusal tick_refusal receive_refusal begin_refusal timed expired receive_outcome begin_outcome delivers_to tells_age
another_record =
    record {
      runs = responders_run;
      band = no_drift (arrivals 1020 1090 1120);
      message = judges (initiator_set_up responders responders_run refl refl refl settings200 refl newest) refl
          (lit≤ tt) (lit≤ tt) (lit≤ tt) (data_tail 1) refl (lit< tt) refl (our_start responders responders_run) (earlier (earlier newest)) refl refl;
      record_missed = λ e. let f : pos 930 ≡ pos 830 = ap offset_min e in let g : ◌≡◌ {A = ℕ} 930 830 = cc in omega arith;
      numbers_are = refl;
      claim_fails = λ claim. (claim.handed_up_lem refl).le;
    }

pub begun_after : BegunAfter
unfolding modulo wrapped centred goes_back wait_of age_of verdict_of offset_read distance_of next_of field_of table_of lists later_stamp check_over whole_of parsed_of ◌outside◌to◌ out_of_range unsound expectation_of number_judged not_ahead beyond_n gap wrong_echo accepts check_failed age_fault fault_number reports_age age_with answ1_taken est_taken data_taken message_taken raised open_follows_of follows_of step_of bad close_refusal tick_refusal receive_refusal begin_refusal timed expired receive_outcome begin_outcome delivers_to tells_age
begun_after =
    record {
      runs = quick_runs;
      band = quick_band;
      answ1_since = lit≤ tt;
      est_since = lit≤ tt;
      message_since = lit≤ tt;
      message = judges (initiator_set_up quick_peers quick_runs refl refl refl settings200 refl newest) refl
          (lit≤ tt) (lit≤ tt) (lit≤ tt) (data_tail 1) refl (lit< tt) refl (our_start quick_peers quick_runs) (earlier (earlier newest)) refl refl;
      begun_missed = λ h. omega arith;
      claim_fails = λ claim. (claim.handed_up_lem refl).le;
    }

pub taken_before_sent : TakenBeforeSent
unfolding modulo wrapped centred goes_back wait_of age_of verdict_of offset_read distance_of next_of field_of table_of lists later_stamp check_over whole_of parsed_of ◌outside◌to◌ out_of_range unsound expectation_of number_judged not_ahead beyond_n gap wrong_echo accepts check_failed age_fault fault_number reports_age age_with answ1_taken est_taken data_taken message_taken raised open_follows_of follows_of step_of bad close_refusal tick_refusal receive_refusal begin_refusal timed expired receive_outcome begin_outcome delivers_to tells_age
taken_before_sent =
    record {
      runs = drifting_runs;
      band = before_drift;
      history = initiator_set_up drifting_peers drifting_runs refl refl refl settings200 refl newest;
      next = lit≤ tt;
      since = lit≤ tt;
      stamped = refl;
      onward_missed = λ h. omega arith;
      common_is = refl;
      numbers_are = refl;
      claim_fails = λ claim. (claim.bounds refl).least.le;
    }

-- ---- the set-up in a world as an OffsetAnsw1 reports it

module _ (first : ℕ) where
  abbrev pub start_as_reported : Ours (as_reported first responders_run)
  start_as_reported = record { at = 1000; header = start_header 7 (count_of 1000) }

  pub opens_as_reported : (reports : List ℕ)
      → JudgedBytes (as_reported first responders_run) 1000 (begin_as_reported first responders_run).log 1080 (parsed_of reports)
      → Reaches (as_reported first responders_run) 1000 initiator settings200 (open_as_reported first reports responders_run)
  unfolding modulo wrapped centred goes_back wait_of age_of verdict_of offset_read distance_of next_of field_of table_of lists later_stamp check_over whole_of parsed_of ◌outside◌to◌ out_of_range unsound expectation_of number_judged not_ahead beyond_n gap wrong_echo accepts check_failed age_fault fault_number reports_age age_with answ1_taken est_taken data_taken message_taken raised open_follows_of follows_of step_of bad close_refusal tick_refusal receive_refusal begin_refusal timed expired receive_outcome begin_outcome delivers_to tells_age
  opens_as_reported reports judged =
      received
      (received (begun all_zero 7 50 1000 [] room (λ _. lit≤ tt) refl) 1080 (lit≤ tt) reports room (λ _ _. judged))
      1110 (lit≤ tt) est room
      (λ _ _. record { sent = 1095; since = lit≤ tt; onward = lit≤ tt; stamped = refl; reports = type_4_on offset_est (lit< tt) })

pub report_of_another : ReportOfAnother
unfolding modulo wrapped centred goes_back wait_of age_of verdict_of offset_read distance_of next_of field_of table_of lists later_stamp check_over whole_of parsed_of ◌outside◌to◌ out_of_range unsound expectation_of number_judged not_ahead beyond_n gap wrong_echo accepts check_failed age_fault fault_number reports_age age_with answ1_taken est_taken data_taken message_taken raised open_follows_of follows_of step_of bad close_refusal tick_refusal receive_refusal begin_refusal timed expired receive_outcome begin_outcome delivers_to tells_age
report_of_another =
    record {
      runs = responders_run;
      band = no_drift (arrivals 1005 1090 1120);
      reported = refl;
      echoes = refl;
      message = judges opens refl
          (lit≤ tt) (lit≤ tt) (lit≤ tt) (data_tail 1) refl (lit< tt) refl (start_as_reported 1005) (earlier (earlier newest)) refl refl;
      of_ours_missed = λ e. let f : ◌≡◌ {A = ℕ} 155 170 = ap number e in omega arith;
      common_is = refl;
      numbers_are = refl;
      claim_fails = λ claim. (claim.handed_up_lem refl).le;
    }
  where
    opens : Reaches (as_reported 1005 responders_run) 1000 initiator settings200 (open_as_reported 1005 earliers_answ1 responders_run)
    opens =
        opens_as_reported 1005 earliers_answ1
        (record {
          sent = 1050;
          since = lit≤ tt;
          onward = lit≤ tt;
          stamped = refl;
          reports = λ _. record { which = 0; ours = start_as_reported 1005; of_ours = newest; onward = lit≤ tt; echoes = refl; reported = refl };
        })
