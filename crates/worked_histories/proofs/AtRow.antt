-- A run of calls over a row meets the premises of demand 3, by computation.
-- Assumes nothing.
use Prim.Native.Nat.{ℕ}
use mathlib.Core.Path.{◌≡◌, refl, sym, subst}
use mathlib.Core.Bool.{Bool, true, false, true≢false, ◌&&◌}
use mathlib.Core.List.{List, [], ◌∷◌}
use borrow.Author.Tests.{ltb-true}
use lib.Dec.{T, ltb, lit<, lit≤}
use Rattle.rules.specs.Modulo.{modulo}
use Rattle.clock.specs.Clock.{wrapped, centred, goes_back, wait_of, age_of, verdict_of, offset_read}
use Rattle.number.specs.Number.{distance_of, next_of}
use Rattle.field.specs.Field.{field_of, bytes_of}
use Rattle.field.specs.Row.{Bytes}
use Rattle.message.specs.Table.{offset_est, table_of, lists}
use Rattle.message.specs.Read.{later_stamp, check_over, whole_of, parsed_of}
use Rattle.connection.specs.Connection.{◌outside◌to◌, out_of_range, unsound}
use Rattle.connection_row.specs.Row.{stands_for, row_bytes}
use Rattle.connection_row.specs.Stored.{zeros, row_refusal}
use Rattle.peer_faults.specs.Faults.{expectation_of, number_judged, not_ahead, beyond_n, gap, wrong_echo, accepts, check_failed, age_fault, fault_number, reports_age, age_with}
use Rattle.what_follows.specs.Follows.{answ1_taken, est_taken, data_taken, message_taken, raised, open_follows_of, follows_of, step_of}
use Rattle.calls.specs.declared.Call.{Call}
use Rattle.calls.specs.Calls.{bad, close_refusal, tick_refusal, receive_refusal, begin_refusal, timed, expired, receive_outcome, tick_outcome, begin_outcome}
use Rattle.row_calls.specs.Answer.{place_of, answer_bytes}
use Rattle.row_calls.specs.RowCalls.{refused_rows, stored_in, made_in}
use Rattle.true_age.specs.History.{newest}
use Rattle.age_at_row.specs.Run.{Run}
use Rattle.worked_histories.specs.Worlds.{arrivals, responders}
use Rattle.worked_histories.specs.SetUp.{answ1, est, our_start}
use Rattle.worked_histories.specs.AtTable.{out, as_responder}
use Rattle.worked_histories.specs.AtRow.{row0, answer_row, longer, RowMeets}
use Rattle.worked_histories.proofs.Worlds.{responders_run}
use Rattle.worked_histories.proofs.Histories.{type_4_on}
use Rattle.worked_histories.proofs.CallsMissed.{no_drift}

-- bytes that are written out
abbrev small : List ℕ → Bool
small [] = true
small (b ∷ s) = ltb b 256 && small s

are_bytes : (s : List ℕ) → small s ≡ true → Bytes s
are_bytes [] e = tt
are_bytes (b ∷ s) e = let x = all (ltb b 256) (small s) e in (ltb-true b 256 x.0, are_bytes s x.1)
  where
    all : (p q : Bool) → p && q ≡ true → (p ≡ true) × (q ≡ true)
    all true q e = (refl, e)
    all false q e = absurd (subst T (sym e) tt)

pub row_meets : RowMeets
unfolding modulo wrapped centred goes_back wait_of age_of verdict_of offset_read distance_of next_of field_of bytes_of table_of lists later_stamp check_over whole_of parsed_of ◌outside◌to◌ out_of_range unsound stands_for row_bytes zeros row_refusal expectation_of number_judged not_ahead beyond_n gap wrong_echo accepts check_failed age_fault fault_number reports_age age_with answ1_taken est_taken data_taken message_taken raised open_follows_of follows_of step_of bad close_refusal tick_refusal receive_refusal begin_refusal timed expired receive_outcome tick_outcome begin_outcome place_of answer_bytes refused_rows stored_in made_in
row_meets =
    record {
      runs = responders_run;
      band = no_drift (arrivals 1020 1090 1120);
      numbers_are = refl;
      log = _;
      run =
          Run.called
          (Run.called
          (Run.refused
          (Run.called (Run.begun row0 (are_bytes row0 refl) 7 50 (lit< tt) (lit< tt) 1000 out answer_row (λ _. lit≤ tt) refl)
          1080 (lit≤ tt) Call.Receive tt answ1 (are_bytes answ1 refl) out answer_row refl (λ e. absurd (true≢false (sym e))) (λ _ _. record {
            sent = 1050;
            since = lit≤ tt;
            onward = lit≤ tt;
            stamped = refl;
            reports = λ _. record {
              which = 0;
              ours = our_start responders responders_run;
              of_ours = newest;
              onward = lit≤ tt;
              echoes = refl;
              reported = refl;
            };
          }))
          1090 (lit≤ tt) Call.Receive est out longer refl)
          1110 (lit≤ tt) Call.Receive tt est (are_bytes est refl) out answer_row refl (λ e. absurd (true≢false (sym e)))
          (λ _ _. record { sent = 1095; since = lit≤ tt; onward = lit≤ tt; stamped = refl; reports = type_4_on offset_est (lit< tt) }))
          1115 (lit≤ tt) as_responder (lit< tt, lit< tt) [] tt out answer_row refl (λ _. refl) (λ _ _. tt);
      is_open = refl;
      number = refl;
      age = refl;
      bytes = refl;
    }
