-- The starred lines hold (OPEN-4), by computation: a line of `refl` for each of them.
-- Assumes nothing.
use mathlib.Core.Path.{refl}
use Rattle.rules.specs.Modulo.{modulo}
use Rattle.clock.specs.Clock.{wrapped, centred, goes_back, wait_of, age_of, verdict_of, offset_read}
use Rattle.number.specs.Number.{distance_of}
use Rattle.field.specs.Field.{field_of, bytes_of}
use Rattle.message.specs.Table.{table_of, lists}
use Rattle.message.specs.Read.{later_stamp, check_over, whole_of, parsed_of}
use Rattle.connection.specs.Connection.{◌outside◌to◌, out_of_range, unsound}
use Rattle.peer_faults.specs.Faults.{expectation_of, number_judged, not_ahead, beyond_n, gap, wrong_echo, accepts, check_failed, age_fault, fault_number, reports_age, age_with}
use Rattle.what_follows.specs.Follows.{start_taken, answ1_taken, answ2_taken, est_taken, end_taken, data_taken, message_taken, refusing, raised, open_follows_of, follows_of, step_of}
use Rattle.calls.specs.Calls.{bad, close_refusal, tick_refusal, receive_refusal, begin_refusal, timed, expired, receive_outcome, begin_outcome, delivered_of}
use Rattle.worked_numbers.specs.Worked.{begins, gets_answ1, gets_est, gets_start, gets_answ2, gets_end, early_gets_answ1, early_gets_est, AllHold, nothing, ◌and◌, starred}

pub starred_lines_hold : AllHold starred
unfolding modulo wrapped centred goes_back wait_of age_of verdict_of offset_read distance_of field_of bytes_of table_of lists later_stamp check_over whole_of parsed_of ◌outside◌to◌ out_of_range unsound expectation_of number_judged not_ahead beyond_n gap wrong_echo accepts check_failed age_fault fault_number reports_age age_with start_taken answ1_taken answ2_taken est_taken end_taken data_taken message_taken refusing raised open_follows_of follows_of step_of bad close_refusal tick_refusal receive_refusal begin_refusal timed expired receive_outcome begin_outcome delivered_of begins gets_answ1 gets_est gets_start gets_answ2 gets_end early_gets_answ1 early_gets_est
starred_lines_hold =
    refl and refl and refl and refl
    and refl and refl
    and refl
    and refl and refl and refl
    and refl
    and refl and refl
    and refl and refl
    and refl and refl and refl
    and refl and refl and refl and refl
    and refl and refl and refl
    and refl and refl
    and refl
    and refl
    and refl
    and nothing
