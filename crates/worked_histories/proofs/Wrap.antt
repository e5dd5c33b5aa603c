-- The premises of demand 3 are met where both counts pass 2^32, by computation.
-- Assumes nothing.
use mathlib.Core.Path.{refl}
use mathlib.Core.List.{[]}
use native.Mathlib.Omega.{arith}
use lib.Dec.{lit<, lit≤}
use lib.IntN.{pos}
use Rattle.rules.specs.Modulo.{modulo}
use Rattle.clock.specs.Clock.{wrapped, centred, goes_back, wait_of, age_of, verdict_of, offset_read}
use Rattle.number.specs.Number.{distance_of, next_of}
use Rattle.field.specs.Field.{field_of}
use Rattle.message.specs.Layout.{data_tail}
use Rattle.message.specs.Table.{offset_est, table_of, lists}
use Rattle.message.specs.Read.{later_stamp, check_over, whole_of, parsed_of}
use Rattle.connection.specs.Connection.{◌outside◌to◌, out_of_range, unsound, all_zero}
use Rattle.peer_faults.specs.Faults.{expectation_of, number_judged, not_ahead, beyond_n, gap, wrong_echo, accepts, check_failed, age_fault, fault_number, reports_age, age_with}
use Rattle.what_follows.specs.Follows.{answ1_taken, est_taken, data_taken, message_taken, raised, open_follows_of, follows_of, step_of}
use Rattle.calls.specs.Calls.{bad, close_refusal, tick_refusal, receive_refusal, begin_refusal, timed, expired, receive_outcome, begin_outcome, initiator}
use Rattle.true_age.specs.History.{newest, earlier, begun}
use Rattle.worked_histories.specs.Worlds.{StaysInBand, DoesNotRunBack}
use Rattle.worked_histories.specs.Histories.{room}
use Rattle.worked_histories.specs.Initiator.{settings200}
use Rattle.worked_histories.specs.Wrap.{ours, peers, answ1, est, fresh_message, world, our_start, after_est, AcrossTheWrap}
use Rattle.worked_histories.proofs.Worlds.{at_least, at_most}
use Rattle.worked_histories.proofs.Histories.{type_4_on, Reaches, received, goes_on_lem, judges}

ours_runs : DoesNotRunBack ours
ours_runs t u h = omega arith

runs : DoesNotRunBack peers
runs t u h = omega arith

band : StaysInBand (world ours_runs runs) 0 0
band judged =
    record {
      floor = pos 850;
      over = λ t h _. at_least (ours t) (peers t) 850 0 (omega arith);
      under = λ t h _. at_most (ours t) (peers t) 850 0 (omega arith);
    }

pub across_the_wrap : AcrossTheWrap
unfolding modulo wrapped centred goes_back wait_of age_of verdict_of offset_read distance_of next_of field_of table_of lists later_stamp check_over whole_of parsed_of ◌outside◌to◌ out_of_range unsound expectation_of number_judged not_ahead beyond_n gap wrong_echo accepts check_failed age_fault fault_number reports_age age_with answ1_taken est_taken data_taken message_taken raised open_follows_of follows_of step_of bad close_refusal tick_refusal receive_refusal begin_refusal timed expired receive_outcome begin_outcome
across_the_wrap =
    record {
      ours_runs = ours_runs;
      runs = runs;
      band = band;
      fresh = judges opens refl
          (lit≤ tt) (lit≤ tt) (lit≤ tt) (data_tail 1) refl (lit< tt) refl (our_start ours_runs runs) (earlier (earlier newest)) refl refl;
      late = judges (goes_on_lem (after_est ours_runs runs) opens refl 930 (lit≤ tt) fresh_message) refl
          (lit≤ tt) (lit≤ tt) (lit≤ tt) (data_tail 1) refl (lit< tt) refl (our_start ours_runs runs) (earlier (earlier newest)) refl refl;
    }
  where
    opens : Reaches (world ours_runs runs) 0 initiator settings200 (after_est ours_runs runs)
    opens =
        received
        (received (begun all_zero 7 50 0 [] room (λ _. lit≤ tt) refl) 80 (lit≤ tt) answ1 room
        (λ _ _. record {
          sent = 50;
          since = lit≤ tt;
          onward = lit≤ tt;
          stamped = refl;
          reports = λ _. record { which = 0; ours = our_start ours_runs runs; of_ours = newest; onward = lit≤ tt; echoes = refl; reported = refl };
        }))
        110 (lit≤ tt) est room
        (λ _ _. record { sent = 95; since = lit≤ tt; onward = lit≤ tt; stamped = refl; reports = type_4_on offset_est (lit< tt) })
