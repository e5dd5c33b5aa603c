-- The set-up of the worked histories is a history, in any world whose peer's clock reads what its messages say.
-- Assumes nothing.
use Prim.Native.Nat.{ℕ}
use native.Mathlib.Omega.{arith}
use mathlib.Core.Path.{◌≡◌, refl, sym, ap}
use mathlib.Core.List.{[]}
use lib.Dec.{lit<, lit≤}
use Rattle.rules.specs.Modulo.{modulo}
use Rattle.clock.specs.Clock.{wrapped, offset_read}
use Rattle.field.specs.Field.{field_of}
use Rattle.message.specs.Table.{offset_start, offset_est, offset_end, table_of, lists}
use Rattle.message.specs.Read.{later_stamp, check_over, whole_of, parsed_of}
use Rattle.connection.specs.declared.Settings.{Settings}
use Rattle.connection.specs.Connection.{all_zero}
use Rattle.calls.specs.Calls.{begin_outcome, initiator, responder, given}
use Rattle.true_age.specs.Clocks.{count_of}
use Rattle.true_age.specs.History.{Written, History, begun}
use Rattle.worked_histories.specs.Worlds.{DoesNotRunBack, responders}
use Rattle.worked_histories.specs.Histories.{room}
use Rattle.worked_histories.specs.SetUp.{answ1, est, start, answ2, end, at_initiator, our_start, initiator_awaits2, initiator_open, at_responder, our_answ1, responder_awaits3, responder_open}
use Rattle.worked_histories.proofs.Histories.{type_1, type_4_on, received}

module _ (peers : ℕ → ℕ) (runs : DoesNotRunBack peers) where
  pub initiator_set_up : peers 1020 ≡ 170 → peers 1050 ≡ 200 → peers 1095 ≡ 245
      → (settings : Settings) → (begin_outcome all_zero (given initiator settings 7 50) (count_of 1000) room).number ≡ 0
      → Written (at_initiator peers runs) 0 (our_start peers runs) (initiator_awaits2 peers runs settings).log
      → History (at_initiator peers runs) 1000 initiator settings
      (initiator_open peers runs settings).log 1110 (initiator_open peers runs settings).c
  unfolding modulo wrapped offset_read field_of table_of lists later_stamp check_over whole_of parsed_of
  initiator_set_up at1020 at1050 at1095 settings begins written =
      received
      (received (begun all_zero 7 50 1000 [] room (λ _. lit≤ tt) begins) 1080 (lit≤ tt) answ1 room
      (λ _ _. record {
        sent = 1050;
        since = lit≤ tt;
        onward = lit≤ tt;
        stamped = sym (ap count_of at1050);
        reports = λ _. record {
          which = 0;
          ours = our_start peers runs;
          of_ours = written;
          onward = lit≤ tt;
          echoes = refl;
          reported = sym (ap count_of at1020);
        };
      }))
      1110 (lit≤ tt) est room
      (λ _ _. record {
        sent = 1095;
        since = lit≤ tt;
        onward = lit≤ tt;
        stamped = sym (ap count_of at1095);
        reports = type_4_on offset_est (lit< tt);
      })

module _ (peers : ℕ → ℕ) (ours_runs : DoesNotRunBack responders) (runs : DoesNotRunBack peers) where
  pub responder_set_up : peers 1000 ≡ 1000 → peers 1080 ≡ 1080 → peers 1100 ≡ 1100 → peers 1130 ≡ 1130
      → (settings : Settings) → (begin_outcome all_zero (given responder settings 30 50) (count_of 50) room).number ≡ 0
      → Written (at_responder peers ours_runs runs) 0 (our_answ1 peers ours_runs runs) (responder_awaits3 peers ours_runs runs settings).log
      → History (at_responder peers ours_runs runs) 1000 responder settings
      (responder_open peers ours_runs runs settings).log 1140 (responder_open peers ours_runs runs settings).c
  unfolding modulo wrapped offset_read field_of table_of lists later_stamp check_over whole_of parsed_of
  responder_set_up at1000 at1080 at1100 at1130 settings begins written =
      received
      (received
      (received (begun all_zero 30 50 900 [] room (λ e. let z : ⊥ = omega arith in absurd z) begins) 1050 (lit≤ tt) start room
      (λ _ _. record {
        sent = 1000;
        since = lit≤ tt;
        onward = lit≤ tt;
        stamped = sym (ap count_of at1000);
        reports = type_1 offset_start (lit< tt);
      }))
      1110 (lit≤ tt) answ2 room
      (λ _ _. record {
        sent = 1100;
        since = lit≤ tt;
        onward = lit≤ tt;
        stamped = sym (ap count_of at1100);
        reports = λ _. record {
          which = 0;
          ours = our_answ1 peers ours_runs runs;
          of_ours = written;
          onward = lit≤ tt;
          echoes = refl;
          reported = sym (ap count_of at1080);
        };
      }))
      1140 (lit≤ tt) end room
      (λ _ _. record {
        sent = 1130;
        since = lit≤ tt;
        onward = lit≤ tt;
        stamped = sym (ap count_of at1130);
        reports = type_4_on offset_end (lit< tt);
      })
