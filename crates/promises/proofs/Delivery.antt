-- What a receive delivers: the message's bytes from 15 on with a 0 or a 204 of an open connection, and nothing with any other answer.
-- Assumes nothing.
use Prim.Native.Nat.{ℕ, ◌+◌}
use mathlib.Core.Path.{◌≡◌, refl}
use mathlib.Core.Bool.{Bool, true, false, ◌&&◌, ◌||◌}
use mathlib.Core.List.{List, []}
use native.Mathlib.Omega.{arith}
use borrow.Author.Tests.{eqb-true, not-true}
use lib.Dec.{leb, eqb}
use lib.ListN.{drop, length-drop}
use lib.Seq.{take_all}
use Rattle.rules.specs.Rows.{when◌answer◌else◌}
use Rattle.clock.specs.declared.Count.{Count}
use Rattle.message.specs.Table.{application, header_size}
use Rattle.message.specs.Read.{parsed_of, data_of}
use Rattle.message.specs.declared.Header.{Header}
use Rattle.message.specs.declared.Tail.{Tail}
use Rattle.std.proofs.Common.{Some}
use Rattle.message.specs.Layout.{whole}
use Rattle.message.proofs.Accepted.{accepted_data}
use Rattle.connection.specs.declared.Connection.{Connection}
use Rattle.connection.specs.Connection.{opened, clocked, heard}
use Rattle.what_follows.specs.declared.Outcome.{Outcome}
use Rattle.what_follows.specs.Follows.{start_taken, answ1_taken, answ2_taken, est_taken, end_taken, data_taken, message_taken, refusing, raised}
use Rattle.calls.specs.Calls.{receive_refusal, receive_outcome, delivered_of}
use Rattle.promises.specs.Promises.{delivers_to}
use Rattle.calls.proofs.Replies.{both}
use Rattle.promises.proofs.Promises.{IsFault, receive_by, receive_refusal_by}
use Rattle.promises.proofs.Opening.{Expects, expected_is}

module _ (c : Connection) (now : Count) (message : List ℕ) where
  abbrev Delivers : Outcome → Type 0
  Delivers o = delivered_of message o.delivered ≡ (when delivers_to c o.number answer data_of message else [])

  -- nothing, where nothing is to be delivered
  nothing : (k : ℕ) → delivers_to c k ≡ false → delivered_of message 0 ≡ (when delivers_to c k answer data_of message else [])
  unfolding delivered_of
  nothing k e = rw e

  -- all, of a message of type 6
  all : (h : Header) (t : Tail) → parsed_of message ≡ Some (whole h t) → h.kind ≡ application → (k : ℕ) → delivers_to c k ≡ true
      → delivered_of message t.«data» ≡ (when delivers_to c k answer data_of message else [])
  unfolding delivered_of
  all h t w i k e = rw e (take_all t.«data» (drop header_size message) (omega (arith, length-drop header_size message, accepted_data message h t w i)))

  none_but : (k : ℕ) → eqb k 0 ≡ false → eqb k 204 ≡ false → delivers_to c k ≡ false
  unfolding delivers_to
  none_but k a b = rw (a, b) (go (eqb c.phase opened))
    where
      go : (p : Bool) → p && (false || false) ≡ false
      go true = refl
      go false = refl

  in_set_up : (k : ℕ) → eqb c.phase opened ≡ false → delivers_to c k ≡ false
  unfolding delivers_to
  in_set_up k e = rw e

  open_0 : eqb c.phase opened ≡ true → delivers_to c 0 ≡ true
  unfolding delivers_to
  open_0 e = rw e

  open_204 : eqb c.phase opened ≡ true → delivers_to c 204 ≡ true
  unfolding delivers_to
  open_204 e = rw e

  raised_delivers : (d : Connection) (k n : ℕ) → delivered_of message n ≡ (when delivers_to c k answer data_of message else []) → Delivers (raised d k n)
  unfolding raised
  raised_delivers d k n e = both Delivers (leb d.settings.limit (d.errors + 1)) _ _ (λ _. e) (λ _. e)

  -- the type that an open connection expects
  pub is_data : (h : Header) → Expects c.phase h.kind → eqb c.phase opened ≡ true → h.kind ≡ application
  is_data h (Expects.x2 p k) o = let z : c.phase ≡ opened = eqb-true c.phase opened o in let q : ⊥ = omega arith in absurd q
  is_data h (Expects.x4 p k) o = let z : c.phase ≡ opened = eqb-true c.phase opened o in let q : ⊥ = omega arith in absurd q
  is_data h (Expects.x1 p k) o = let z : c.phase ≡ opened = eqb-true c.phase opened o in let q : ⊥ = omega arith in absurd q
  is_data h (Expects.x3 p k) o = let z : c.phase ≡ opened = eqb-true c.phase opened o in let q : ⊥ = omega arith in absurd q
  is_data h (Expects.x5 p k) o = let z : c.phase ≡ opened = eqb-true c.phase opened o in let q : ⊥ = omega arith in absurd q
  is_data h (Expects.x6 p k) o = k

  taken : (h : Header) (t : Tail) → parsed_of message ≡ Some (whole h t) → Expects c.phase h.kind → Delivers (message_taken c now h t)
  unfolding message_taken start_taken answ1_taken answ2_taken est_taken end_taken data_taken
  taken h t w (Expects.x1 p k) = rw k (nothing 0 (in_set_up 0 (rw p refl)))
  taken h t w (Expects.x2 p k) = rw k (nothing 0 (in_set_up 0 (rw p refl)))
  taken h t w (Expects.x3 p k) = rw k (nothing 0 (in_set_up 0 (rw p refl)))
  taken h t w (Expects.x4 p k) = rw k (nothing 0 (in_set_up 0 (rw p refl)))
  taken h t w (Expects.x5 p k) = rw k (nothing 0 (in_set_up 0 (rw p refl)))
  taken h t w (Expects.x6 p k) = rw k (all h t w k 0 (open_0 (rw p refl)))

  fault_nothing : {k : ℕ} → IsFault k → eqb k 0 ≡ false
  fault_nothing IsFault.f202 = refl
  fault_nothing IsFault.f203 = refl
  fault_nothing IsFault.f208 = refl
  fault_nothing IsFault.f209 = refl
  fault_nothing IsFault.f206 = refl
  fault_nothing IsFault.f205 = refl
  fault_nothing IsFault.f204 = refl

  pub delivers_bytes_from_15 : (room : ℕ)
      → delivered_of message (receive_outcome c now message room).delivered
      ≡ (when delivers_to c (receive_outcome c now message room).number answer data_of message else [])
  unfolding refusing
  delivers_bytes_from_15 room =
      receive_by Delivers (λ _ _ x. x) c now message room
      (λ e. nothing (receive_refusal c now room) (none_but (receive_refusal c now room) (not-true (eqb (receive_refusal c now room) 0) e)
      (receive_refusal_by (λ k. eqb k 204 ≡ false) refl refl c now room refl refl refl)))
      (λ _ _. nothing 207 (none_but 207 refl refl))
      (λ _. record {
        malformed_open = λ _. nothing 201 (none_but 201 refl refl);
        malformed_set_up = λ _. nothing 201 (none_but 201 refl refl);
        unexpected = λ _. nothing 211 (none_but 211 refl refl);
        unexpected_set_up = λ _. nothing 211 (none_but 211 refl refl);
        taken = λ h t w x _. taken h t w (expected_is c.phase h.kind x);
        refusing = λ h _. nothing 209 (none_but 209 refl refl);
        in_set_up = λ k f s. nothing k (in_set_up k s);
        dropped = λ _. raised_delivers (clocked c now) 202 0 (nothing 202 (none_but 202 refl refl));
        too_far_lem = λ _. nothing 203 (none_but 203 refl refl);
        after_gap = λ h t w x o. raised_delivers (heard (clocked c now) h now) 204 t.«data» (all h t w (is_data h (expected_is c.phase h.kind x) o) 204 (open_204 o));
        raising = λ h _ _ k f _ n _. raised_delivers (heard (clocked c now) h now) k 0 (nothing k (none_but k (fault_nothing f) n));
      })
