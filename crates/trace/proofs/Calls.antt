-- Which call each kind of record makes, that begin's bytes of another size or role are answered 104, and that those of a tick and a close have no effect.
-- Assumes nothing.
use Prim.Native.Nat.{ℕ, ◌<◌}
use mathlib.Core.Path.{◌≡◌, refl, sym, ap, ◌∙◌}
use mathlib.Core.Bool.{Bool, true, false, not}
use mathlib.Core.List.{List, []}
use native.Mathlib.Omega.{arith}
use borrow.Author.Tests.{eqb-true, eqb-false, lt-ltb}
use Rattle.std.proofs.lemmas.Bool.Decides.{nat_tests}
use lib.Dec.{eqb}
use lib.ListN.{length, get_or}
use Rattle.rules.specs.Rows.{when◌answer◌else◌}
use Rattle.clock.specs.declared.Count.{Count}
use Rattle.field.specs.Row.{fields_of, width_of}
use Rattle.connection.specs.declared.Connection.{Connection}
use Rattle.connection.specs.Connection.{closed, no_settings}
use Rattle.what_follows.specs.declared.Outcome.{Outcome}
use Rattle.calls.specs.declared.Call.{Call}
use Rattle.calls.specs.Calls.{bad, responder, begin_refusal, refused, begin_outcome, tick_outcome, close_outcome, outcome_of, given, made}
use Rattle.calls.proofs.Replies.{tick_silent, close_silent, silent_leaves}
use Rattle.trace.specs.Record.{begin_kind, receive_kind, send_kind, tick_kind}
use Rattle.trace.specs.Call.{room, begin_widths, given_from, no_role, given_in, call_of, OthersGive104, NoBytesOfTickAndClose}

module _ (kind : ℕ) (bytes : List ℕ) where
  pub begins : kind ≡ begin_kind → Call.Begin (given_in bytes) ≡ call_of kind bytes
  unfolding call_of
  begins e = rw e

  pub ticks : kind ≡ tick_kind → Call.Tick ≡ call_of kind bytes
  unfolding call_of
  ticks e = rw e

  pub closes : (kind ≡ begin_kind → ⊥) → (kind ≡ receive_kind → ⊥) → (kind ≡ send_kind → ⊥) → (kind ≡ tick_kind → ⊥) → Call.Close ≡ call_of kind bytes
  unfolding call_of
  closes n1 n2 n3 n4 = grind (arith, nat_tests)

-- bytes of another size, or with a role over 1, hold a role over 1
no_role_lem : (bytes : List ℕ) → (length bytes ≡ width_of begin_widths → responder < get_or (fields_of begin_widths bytes 0) 0 0) → responder < (given_in bytes).role
unfolding given_in
no_role_lem bytes over = by (eqb (length bytes) (width_of begin_widths)) refl
  where
    by : (whole : Bool) → eqb (length bytes) (width_of begin_widths) ≡ whole
        → responder < (when whole answer given_from (fields_of begin_widths bytes 0) else given no_role no_settings 0 0).role
    by true e = over (eqb-true (length bytes) (width_of begin_widths) e)
    by false e = omega arith

others_refused : (c : Connection) (now : Count) (bytes : List ℕ) → responder < (given_in bytes).role
    → begin_outcome c (given_in bytes) now room ≡ refused (when bad c answer 101 else when not (eqb c.phase closed) answer 103 else 104) c
unfolding begin_outcome begin_refusal
others_refused c now bytes over = rw (lt-ltb responder (given_in bytes).role over) (by (bad c) (not (eqb c.phase closed)) _)
  where
    by : (unsound in_use : Bool) (o : Outcome)
        → (when not (eqb (when unsound answer 101 else when in_use answer 103 else 104) 0) answer refused (when unsound answer 101 else when in_use answer 103 else 104) c else o)
        ≡ refused (when unsound answer 101 else when in_use answer 103 else 104) c
    by true in_use o = refl
    by false true o = refl
    by false false o = refl

pub others_give_104 : OthersGive104
others_give_104 c now bytes over =
    sym (ap (λ (call : Call). outcome_of call c now bytes room) (begins begin_kind bytes refl)) ∙ others_refused c now bytes (no_role_lem bytes over)

module _ (c : Connection) (now : Count) (bytes out : List ℕ) where
  tick_bytes : made Call.Tick c now bytes out ≡ made Call.Tick c now [] out
  tick_bytes =
      sym (silent_leaves (tick_outcome c now) (tick_silent c now) bytes out) ∙ silent_leaves (tick_outcome c now) (tick_silent c now) [] out

  close_bytes : made Call.Close c now bytes out ≡ made Call.Close c now [] out
  close_bytes =
      sym (silent_leaves (close_outcome c) (close_silent c) bytes out) ∙ silent_leaves (close_outcome c) (close_silent c) [] out

pub no_bytes_of_tick_and_close : NoBytesOfTickAndClose
no_bytes_of_tick_and_close kind c now bytes out h = by (eqb kind tick_kind) refl
  where
    is : {call : Call} → call ≡ call_of kind bytes → call ≡ call_of kind [] → made call c now bytes out ≡ made call c now [] out
        → made (call_of kind bytes) c now bytes out ≡ made (call_of kind []) c now [] out
    is e f same =
        sym (ap (λ (call : Call). made call c now bytes out) e) ∙ same ∙ ap (λ (call : Call). made call c now [] out) f

    by : (ticking : Bool) → eqb kind tick_kind ≡ ticking → made (call_of kind bytes) c now bytes out ≡ made (call_of kind []) c now [] out
    by true e = let k = eqb-true kind tick_kind e in is (ticks kind bytes k) (ticks kind [] k) (tick_bytes c now bytes out)
    by false e =
        let n4 = eqb-false kind tick_kind e in
        let n1 : kind ≡ begin_kind → ⊥ = λ k. omega arith in
        let n2 : kind ≡ receive_kind → ⊥ = λ k. omega arith in
        let n3 : kind ≡ send_kind → ⊥ = λ k. omega arith in
        is (closes kind bytes n1 n2 n3 n4) (closes kind [] n1 n2 n3 n4) (close_bytes c now bytes out)
