-- How many bytes a receive delivers: all of the message's from 15 on with a 0 or a 204 of an open record, none with any other answer.
-- Assumes nothing.
use Prim.Native.Nat.{ℕ, ◌+◌, ◌<◌}
use mathlib.Core.Path.{◌≡◌, refl, sym, ◌∙◌}
use mathlib.Core.Bool.{Bool, true, false, ◌&&◌, ◌||◌}
use mathlib.Core.List.{List}
use native.Mathlib.Omega.{arith}
use borrow.Author.Tests.{not-true}
use lib.Dec.{leb, eqb}
use lib.ListN.{length, length-drop}
use Rattle.rules.specs.Rows.{when◌answer◌else◌}
use Rattle.clock.specs.declared.Count.{Count}
use Rattle.message.specs.Read.{parsed_of, data_of}
use Rattle.message.specs.declared.Header.{Header}
use Rattle.message.specs.declared.Tail.{Tail}
use Rattle.std.proofs.Common.{Some}
use Rattle.message.specs.Layout.{whole}
use Rattle.message.proofs.Accepted.{accepted_data}
use Rattle.connection.specs.declared.Connection.{Connection}
use Rattle.connection.specs.Connection.{opened, clocked, heard}
use Rattle.what_follows.specs.declared.Outcome.{Outcome}
use Rattle.what_follows.specs.Follows.{start_taken, answ1_taken, answ2_taken, est_taken, end_taken, data_taken, message_taken, refusing, raised}
use Rattle.calls.specs.Calls.{receive_refusal, receive_outcome}
use Rattle.promises.specs.Promises.{delivers_to}
use Rattle.calls.proofs.Replies.{both}
use Rattle.promises.proofs.Promises.{IsFault, receive_by, receive_refusal_by}
use Rattle.promises.proofs.Opening.{Expects, expected_is}
use Rattle.promises.proofs.Delivery.{is_data, delivers_bytes_from_15}
use Rattle.true_age.specs.Claim.{HandsUp}

pub other_delivers_none : (c : Connection) (k : ℕ) → eqb k 0 ≡ false → eqb k 204 ≡ false → delivers_to c k ≡ false
unfolding delivers_to
other_delivers_none c k z g = rw (z, g) (go (eqb c.phase opened))
  where
    go : (p : Bool) → p && false ≡ false
    go true = refl
    go false = refl

module _ (c : Connection) (now : Count) (message : List ℕ) where
  abbrev Counts : Outcome → Type 0
  Counts o = o.delivered ≡ (when delivers_to c o.number answer length (data_of message) else 0)

  none_but : (k : ℕ) → eqb k 0 ≡ false → eqb k 204 ≡ false → 0 ≡ (when delivers_to c k answer length (data_of message) else 0)
  none_but k z g = rw (other_delivers_none c k z g) refl

  in_set_up : (k : ℕ) → eqb c.phase opened ≡ false → 0 ≡ (when delivers_to c k answer length (data_of message) else 0)
  unfolding delivers_to
  in_set_up k e = rw e refl

  all_with : (k : ℕ) → delivers_to c k ≡ true → (h : Header) (t : Tail) → parsed_of message ≡ Some (whole h t) → h.kind ≡ 6
      → t.«data» ≡ (when delivers_to c k answer length (data_of message) else 0)
  all_with k e h t w i = rw e (accepted_data message h t w i ∙ sym (length-drop 15 message))

  open_delivers : (k : ℕ) → eqb k 0 || eqb k 204 ≡ true → eqb c.phase opened ≡ true → delivers_to c k ≡ true
  unfolding delivers_to
  open_delivers k e o = rw (e, o)

  raised_counted : (d : Connection) (k n : ℕ) → n ≡ (when delivers_to c k answer length (data_of message) else 0) → Counts (raised d k n)
  unfolding raised
  raised_counted d k n e = both Counts (leb d.settings.limit (d.errors + 1)) _ _ (λ _. e) (λ _. e)

  taken : (h : Header) (t : Tail) → parsed_of message ≡ Some (whole h t) → Expects c.phase h.kind → Counts (message_taken c now h t)
  unfolding message_taken start_taken answ1_taken answ2_taken est_taken end_taken data_taken
  taken h t w (Expects.x1 p k) = rw k (in_set_up 0 (rw p refl))
  taken h t w (Expects.x2 p k) = rw k (in_set_up 0 (rw p refl))
  taken h t w (Expects.x3 p k) = rw k (in_set_up 0 (rw p refl))
  taken h t w (Expects.x4 p k) = rw k (in_set_up 0 (rw p refl))
  taken h t w (Expects.x5 p k) = rw k (in_set_up 0 (rw p refl))
  taken h t w (Expects.x6 p k) = rw k (all_with 0 (open_delivers 0 refl (rw p refl)) h t w k)

  fault_not_0 : {k : ℕ} → IsFault k → eqb k 0 ≡ false
  fault_not_0 IsFault.f202 = refl
  fault_not_0 IsFault.f203 = refl
  fault_not_0 IsFault.f208 = refl
  fault_not_0 IsFault.f209 = refl
  fault_not_0 IsFault.f206 = refl
  fault_not_0 IsFault.f205 = refl
  fault_not_0 IsFault.f204 = refl

  counted : (room : ℕ) → Counts (receive_outcome c now message room)
  unfolding refusing
  counted room =
      receive_by Counts (λ _ _ x. x) c now message room
      (λ e. none_but (receive_refusal c now room) (not-true (eqb (receive_refusal c now room) 0) e) (receive_refusal_by (λ k. eqb k 204 ≡ false) refl refl c now room refl refl refl))
      (λ _ _. none_but 207 refl refl)
      (λ _. record {
        malformed_open = λ _. none_but 201 refl refl;
        malformed_set_up = λ _. none_but 201 refl refl;
        unexpected = λ _. none_but 211 refl refl;
        unexpected_set_up = λ _. none_but 211 refl refl;
        taken = λ h t w x _. taken h t w (expected_is c.phase h.kind x);
        refusing = λ h _. none_but 209 refl refl;
        in_set_up = λ k f s. in_set_up k s;
        dropped = λ _. raised_counted (clocked c now) 202 0 (none_but 202 refl refl);
        too_far_lem = λ _. none_but 203 refl refl;
        after_gap = λ h t w x o. raised_counted (heard (clocked c now) h now) 204 t.«data» (all_with 204 (open_delivers 204 refl o) h t w
            (is_data c now message h (expected_is c.phase h.kind x) o));
        raising = λ h _ _ k f _ n _. raised_counted (heard (clocked c now) h now) k 0 (none_but k (fault_not_0 f) n);
      })

  pub hands_up : (room : ℕ) → HandsUp c message (receive_outcome c now message room).number (receive_outcome c now message room).delivered
  hands_up room = record { count = counted room; bytes = delivers_bytes_from_15 c now message room }

-- bytes that go up go with a 0 or a 204 of an open record
pub delivers : (c : Connection) (message : List ℕ) (k n : ℕ) → HandsUp c message k n → 0 < n → delivers_to c k ≡ true
delivers c message k n x = go (delivers_to c k) x.count
  where
    go : (b : Bool) → n ≡ (when b answer length (data_of message) else 0) → 0 < n → b ≡ true
    go true e p = refl
    go false e p = let q : ⊥ = omega arith in absurd q
