-- What an open connection remembers of a message (ERR-5, ERR-6): its number and its stamp, whatever its age says.
-- Assumes nothing.
use Prim.Native.Nat.{ℕ, ◌+◌, ◌≤◌}
use mathlib.Core.Path.{◌≡◌, refl, sym, subst, ◌∙◌}
use mathlib.Core.Bool.{Bool, true, false, not, ◌||◌}
use mathlib.Core.List.{List}
use native.Mathlib.Omega.{arith}
use borrow.Author.Tests.{eqb-true, eqb-false, leb-true, ltb-false, le-leb, lt-leb, eq-eqb}
use lib.Dec.{leb, eqb}
use Rattle.clock.specs.declared.Count.{Count}
use Rattle.number.specs.Number.{distance_of, behind_from}
use Rattle.message.specs.Table.{application}
use Rattle.message.specs.Read.{parsed_of}
use Rattle.message.specs.declared.Header.{Header}
use Rattle.message.specs.declared.Tail.{Tail}
use Rattle.std.proofs.Common.{Option, Some}
use Rattle.message.specs.declared.Message.{Message}
use Rattle.message.specs.Layout.{whole}
use Rattle.connection.specs.declared.Connection.{Connection}
use Rattle.connection.specs.Connection.{opened, clocked, counted, heard, heard_of}
use Rattle.connection.proofs.Ranges.{in_range}
use Rattle.std.proofs.lemmas.Bool.{or_parts}
use Rattle.peer_faults.specs.declared.Expectation.{Expectation}
use Rattle.peer_faults.specs.declared.Expectation.TheVariants.{Expected}
use Rattle.peer_faults.specs.Faults.{expectation_of, number_judged, not_ahead, beyond_n, wrong_echo, check_failed, age_fault, gap, fault_number}
use Rattle.what_follows.specs.declared.Outcome.{Outcome}
use Rattle.what_follows.specs.Follows.{data_taken, message_taken, refusing, raised, open_follows_of, follows_of, met_of, step_of}
use Rattle.calls.specs.Calls.{receive_refusal, expired, receive_outcome}
use Rattle.promises.specs.Promises.{◌among◌, remembered_with, Remembers, remembered_by}
use Rattle.calls.proofs.Replies.{both}
use Rattle.promises.proofs.Promises.{receive_by, receive_refusal_by, not_open}
use Rattle.promises.proofs.Opening.{expected_is}
use Rattle.promises.proofs.Delivery.{is_data}
use Rattle.promises.proofs.Valid.{no_way, receive_sound}

-- ---- by the answer

module _ (c : Connection) (now : Count) (message : List ℕ) where
  abbrev Kept : Outcome → Type 0
  Kept x = x.number among remembered_with ≡ true → x.released ≡ false → Remembers message now x.next

  -- another answer
  other : (k : ℕ) → k among remembered_with ≡ false → (next : Connection) → k among remembered_with ≡ true → false ≡ false → Remembers message now next
  other k e next f _ = no_way (sym f ∙ e)

  gone : (k : ℕ) (next : Connection) → k among remembered_with ≡ true → true ≡ false → Remembers message now next
  gone k next _ r = no_way r

  heard_kept : (h : Header) (t : Tail) → parsed_of message ≡ Some (whole h t) → (errors : ℕ) → Remembers message now (counted (heard (clocked c now) h now) errors)
  heard_kept h t w errors = record { header = h; tail = t; taken_apart = w; number = refl; stamp = refl; arrival = refl }

  raised_kept : (before : Connection) (k delivered : ℕ)
      → (k among remembered_with ≡ true → false ≡ false → Remembers message now (counted before (before.errors + 1))) → Kept (raised before k delivered)
  unfolding raised
  raised_kept before k delivered f = both Kept (leb before.settings.limit (before.errors + 1)) _ _ (λ _. gone k _) (λ _. f)

  taken_kept : (h : Header) (t : Tail) → parsed_of message ≡ Some (whole h t) → h.kind ≡ application → Kept (message_taken c now h t)
  unfolding message_taken data_taken
  taken_kept h t w k = rw k (λ _ _. heard_kept h t w 0)

  -- ERR-6: after a receive on an open connection that answers 0, 204, 205 or 206 and does not release
  pub receive_remembers : c.phase ≡ opened → (room : ℕ)
      → (receive_outcome c now message room).number among remembered_with ≡ true
      → (receive_outcome c now message room).released ≡ false
      → Remembers message now (receive_outcome c now message room).next
  unfolding refusing
  receive_remembers o room =
      receive_by Kept (λ _ _ x. x) c now message room
      (λ e. other (receive_refusal c now room) (receive_refusal_by (λ k. not (eqb k 0) ≡ true → k among remembered_with ≡ false)
      (λ z. sym z) (λ _. refl) c now room (λ _. refl) (λ _. refl) (λ _. refl) e) c)
      (λ _ _. gone 207 _)
      (λ _. record {
        malformed_open = λ _. other 201 refl _;
        malformed_set_up = λ _. gone 201 _;
        unexpected = λ _. other 211 refl _;
        unexpected_set_up = λ _. gone 211 _;
        taken = λ h t w x _. taken_kept h t w (is_data c now message h (expected_is c.phase h.kind x) is_open);
        refusing = λ _ _. gone 209 _;
        in_set_up = λ k _ _. gone k _;
        dropped = λ _. raised_kept (clocked c now) 202 0 (other 202 refl _);
        too_far_lem = λ _. gone 203 _;
        after_gap = λ h t w _ _. raised_kept (heard (clocked c now) h now) 204 t.«data» (λ _ _. heard_kept h t w (c.errors + 1));
        raising = λ h t w k _ _ _ _. raised_kept (heard (clocked c now) h now) k 0 (λ _ _. heard_kept h t w (c.errors + 1));
      })
    where
      is_open : eqb c.phase opened ≡ true
      is_open = eq-eqb c.phase opened o

-- ---- by the number

abbrev ByNumber : Connection → Count → Header → Outcome → Type 0
ByNumber c now h x = x.released ≡ false → x.next.peer ≡ remembered_by c now h

module _ (c : Connection) (now : Count) (h : Header) (t : Tail) (o : c.phase ≡ opened) (type : h.kind ≡ application) (most : c.settings.n ≤ 1000) where
  abbrev d : ℕ
  d = distance_of h.number c.peer.number

  is_open : eqb c.phase opened ≡ true
  is_open = eq-eqb c.phase opened o

  stays : not_ahead h.kind d ≡ true → remembered_by c now h ≡ c.peer
  unfolding remembered_by not_ahead number_judged
  stays e = go (eqb d 0) refl (rw type at e)
    where
      go : (z : Bool) → eqb d 0 ≡ z → z || leb behind_from d ≡ true → remembered_by c now h ≡ c.peer
      go true z _ = let q = eqb-true d 0 z in rw (lt-leb 1 d (omega arith))
      go false _ b = let q = leb-true behind_from d b in rw (lt-leb d c.settings.n (omega arith), le-leb 1 d (omega arith))

  moves : not_ahead h.kind d ≡ false → beyond_n h.kind d c.settings.n ≡ false → remembered_by c now h ≡ heard_of h now
  unfolding remembered_by not_ahead beyond_n number_judged
  moves a b =
      let ahead = or_parts (eqb d 0) (leb behind_from d) (rw type at a) in
      let some = eqb-false d 0 ahead.0 in
      rw (le-leb 1 d (omega (arith, some)), le-leb d c.settings.n (ltb-false c.settings.n d (rw type at b)))

  raised_as : (before : Connection) → before.peer ≡ remembered_by c now h → (k delivered : ℕ) → ByNumber c now h (raised before k delivered)
  unfolding raised
  raised_as before e k delivered = both (ByNumber c now h) (leb before.settings.limit (before.errors + 1)) _ _ (λ _ r. no_way r) (λ _ _. e)

  dropped : not_ahead h.kind d ≡ true → ByNumber c now h (follows_of c now h t 202)
  unfolding follows_of open_follows_of
  dropped e = rw is_open (raised_as (clocked c now) (sym (stays e)) 202 0)

  too_far_lem : ByNumber c now h (follows_of c now h t 203)
  unfolding follows_of open_follows_of
  too_far_lem = rw is_open (λ r. no_way r)

  -- any other fault
  fault_moves : remembered_by c now h ≡ heard_of h now → (k : ℕ) → eqb k 0 ≡ false → eqb k 202 ≡ false → eqb k 203 ≡ false → ByNumber c now h (follows_of c now h t k)
  unfolding follows_of open_follows_of
  fault_moves e k z a b =
      rw (z, is_open, a, b) (both (ByNumber c now h) (eqb k 204) _ _ (λ _. raised_as (heard (clocked c now) h now) (sym e) 204 t.«data») (λ _. raised_as (heard (clocked c now) h now) (sym e) k 0))

  taken_moves : remembered_by c now h ≡ heard_of h now → ByNumber c now h (follows_of c now h t 0)
  unfolding follows_of message_taken data_taken remembered_by
  taken_moves e = rw type (λ _. sym e)

  follows : ByNumber c now h (follows_of c now h t (fault_number c now h t))
  unfolding fault_number
  follows =
      both By (not_ahead h.kind d) _ _ (λ a. dropped a) (λ a.
      both By (beyond_n h.kind d c.settings.n) _ _ (λ _. too_far_lem) (λ b.
      both By (wrong_echo h.kind h.last_peer_stamp.0 c.wait_start.0) _ _ (λ _. fault_moves (moves a b) 208 refl refl refl) (λ _.
      both By (check_failed c h.kind t) _ _ (λ _. fault_moves (moves a b) 209 refl refl refl) (λ _.
      both By (eqb (age_fault c now h).number 206) _ _ (λ _. fault_moves (moves a b) 206 refl refl refl) (λ _.
      both By (eqb (age_fault c now h).number 205) _ _ (λ _. fault_moves (moves a b) 205 refl refl refl) (λ _.
      both By (gap h.kind d) _ _ (λ _. fault_moves (moves a b) 204 refl refl refl) (λ _. taken_moves (moves a b))))))))
    where
      By : ℕ → Type 0
      By k = ByNumber c now h (follows_of c now h t k)

  expected : expectation_of c.phase h.kind ≡ Expected
  unfolding expectation_of
  expected = rw (o, type)

  step : ByNumber c now h (step_of c now (Some (whole h t)))
  unfolding step_of
  step = subst (λ (x : Expectation). ByNumber c now h (met_of c now h t x)) (sym expected) follows

-- ERR-5, ERR-6: what an open connection remembers after a type 6 that is not refused and does not release goes by the message's d alone
pub remembers_by_number : (c : Connection) (now : Count) (message : List ℕ) (room : ℕ) (h : Header) (t : Tail)
    → c.phase ≡ opened → receive_refusal c now room ≡ 0 → parsed_of message ≡ Some (whole h t) → h.kind ≡ application
    → (receive_outcome c now message room).released ≡ false
    → (receive_outcome c now message room).next.peer ≡ remembered_by c now h
unfolding receive_outcome
remembers_by_number c now message room h t o z w type =
    rw z (both (ByNumber c now h) (expired c now) _ _ (λ e. no_way (sym (eq-eqb c.phase opened o) ∙ not_open c now e))
    (λ _. subst (λ (p : Option Message). ByNumber c now h (step_of c now p)) (sym w) (step c now h t o type (in_range c.settings (receive_sound c now room z).settings).most_n_lem)))
