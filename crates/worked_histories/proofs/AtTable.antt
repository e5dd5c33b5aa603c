-- A run of calls on a table meets the premises of demand 3, by computation.
-- Assumes nothing.
use mathlib.Core.Path.{refl, sym}
use mathlib.Core.Bool.{true≢false}
use mathlib.Core.List.{[]}
use native.Mathlib.Omega.{arith}
use lib.Dec.{lit<, lit≤}
use Rattle.rules.specs.Modulo.{modulo}
use Rattle.clock.specs.Clock.{wrapped, centred, goes_back, wait_of, age_of, verdict_of, offset_read}
use Rattle.number.specs.Number.{distance_of, next_of}
use Rattle.field.specs.Field.{field_of}
use Rattle.message.specs.Table.{offset_est, table_of, lists}
use Rattle.message.specs.Read.{later_stamp, check_over, whole_of, parsed_of}
use Rattle.connection.specs.Connection.{◌outside◌to◌, out_of_range, unsound}
use Rattle.peer_faults.specs.Faults.{expectation_of, number_judged, not_ahead, beyond_n, gap, wrong_echo, accepts, check_failed, age_fault, fault_number, reports_age, age_with}
use Rattle.what_follows.specs.Follows.{answ1_taken, est_taken, data_taken, message_taken, raised, open_follows_of, follows_of, step_of}
use Rattle.calls.specs.declared.Call.{Call}
use Rattle.calls.specs.Calls.{bad, close_refusal, tick_refusal, receive_refusal, begin_refusal, timed, expired, receive_outcome, tick_outcome, begin_outcome, delivered_of}
use Rattle.table.specs.Table.{bad_slot, made_at}
use Rattle.true_age.specs.History.{newest}
use Rattle.age_at_table.specs.Run.{none, begun, on_slot, on_another}
use Rattle.worked_histories.specs.Worlds.{arrivals, responders}
use Rattle.worked_histories.specs.SetUp.{answ1, est, our_start}
use Rattle.worked_histories.specs.AtTable.{out, table0, as_responder, TableMeets}
use Rattle.worked_histories.proofs.Worlds.{responders_run}
use Rattle.worked_histories.proofs.Histories.{type_4_on}
use Rattle.worked_histories.proofs.CallsMissed.{no_drift}

pub table_meets : TableMeets
unfolding modulo wrapped centred goes_back wait_of age_of verdict_of offset_read distance_of next_of field_of table_of lists later_stamp check_over whole_of parsed_of ◌outside◌to◌ out_of_range unsound expectation_of number_judged not_ahead beyond_n gap wrong_echo accepts check_failed age_fault fault_number reports_age age_with answ1_taken est_taken data_taken message_taken raised open_follows_of follows_of step_of bad close_refusal tick_refusal receive_refusal begin_refusal timed expired receive_outcome tick_outcome begin_outcome delivered_of bad_slot made_at
table_meets =
    record {
      runs = responders_run;
      band = no_drift (arrivals 1020 1090 1120);
      numbers_are = refl;
      log = _;
      since =
          on_another
          (on_slot
          (on_slot
          (on_another
          (on_slot
          (on_another (begun (none 900 table0) 1000 (lit≤ tt) 7 50 [] out (λ _. lit≤ tt) refl)
          1010 (lit≤ tt) 0 (λ e. omega arith) Call.Tick [] [])
          1080 (lit≤ tt) Call.Receive answ1 out (λ e. absurd (true≢false (sym e))) (λ _ _. record {
            sent = 1050;
            since = lit≤ tt;
            onward = lit≤ tt;
            stamped = refl;
            reports = λ _. record {
              which = 0;
              ours = our_start responders responders_run;
              of_ours = newest;
              onward = lit≤ tt;
              echoes = refl;
              reported = refl;
            };
          }))
          1090 (lit≤ tt) 7 (λ e. omega arith) Call.Receive est out)
          1110 (lit≤ tt) Call.Receive est out (λ e. absurd (true≢false (sym e)))
          (λ _ _. record { sent = 1095; since = lit≤ tt; onward = lit≤ tt; stamped = refl; reports = type_4_on offset_est (lit< tt) }))
          1115 (lit≤ tt) as_responder [] out (λ _. refl) (λ _ _. tt))
          1120 (lit≤ tt) 0 (λ e. omega arith) as_responder [] out;
      is_open = refl;
      answers = refl;
      bytes = refl;
    }
