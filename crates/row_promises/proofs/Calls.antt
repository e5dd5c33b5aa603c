-- The promises of a call over a row.
-- Assumes nothing.
use Prim.Native.Nat.{ℕ, ◌+◌, ◌^◌, ◌<◌}
use mathlib.Core.Path.{◌≡◌, refl, sym, ap, subst, ◌∙◌}
use mathlib.Core.Bool.{Bool, true, false, not, ◌&&◌, ◌||◌}
use mathlib.Core.List.{List, [], append-nil}
use mathlib.Core.Logic.{◌⊎◌, inl, inr}
use borrow.Author.Tests.{eqb-true, eq-eqb}
use lib.Dec.{T, ltb, leb, eqb, lit<}
use lib.ListN.{length, take, drop}
use lib.Seq.{sets}
use Rattle.rules.specs.Rows.{when◌answer◌else◌}
use Rattle.clock.specs.Clock.{goes_back}
use Rattle.clock.specs.declared.Count.{Count}
use Rattle.clock.proofs.Wrapped.{wrapped_lt}
use Rattle.field.specs.Row.{fields_of, row_of, Bytes}
use Rattle.field.proofs.Row.{fields_of_row}
use Rattle.message.specs.Table.{offset_start, offset_answ1, offset_answ2, offset_est, offset_end, header_size, start_size, est_size, most_data}
use Rattle.message.specs.declared.Header.{Header}
use Rattle.message.specs.declared.Tail.{Tail}
use Rattle.connection.specs.declared.Connection.{Connection}
use Rattle.connection.specs.Connection.{closed, opened, out_of_range, all_zero, clocked, heard}
use Rattle.std.proofs.Common.{Option}
use Rattle.message.specs.declared.Message.{Message}
use Rattle.what_follows.specs.declared.Outcome.{Outcome}
use Rattle.what_follows.specs.Follows.{start_taken, answ1_taken, answ2_taken, est_taken, end_taken, data_taken, message_taken, refusing, raised}
use Rattle.calls.specs.declared.Answer.{Answer}
use Rattle.calls.specs.declared.Call.{Call}
use Rattle.calls.specs.declared.Called.{Called}
use Rattle.calls.specs.declared.Given.{Given}
use Rattle.calls.specs.Calls.{
  bad,
  close_refusal,
  tick_refusal,
  receive_refusal,
  send_refusal,
  begin_refusal,
  close_outcome,
  send_outcome,
  begin_outcome,
  initiator,
  responder,
  rule_of,
  outcome_of,
  reply_bytes,
  made,
  delivered_of,
}
use Rattle.calls.proofs.Replies.{both}
use Rattle.promises.specs.Promises.{◌among◌, callers_fault, Unchanged, Valid, Stays}
use Rattle.promises.proofs.Promises.{IsFault, call_number, call_refusal_changes_nothing, receive_by, tick_by}
use Rattle.promises.proofs.Valid.{call_stays, valid_is_not_bad}
use Rattle.connection_row.specs.Row.{stands_for, row_bytes}
use Rattle.connection_row.specs.Stored.{row_refusal}
use Rattle.row_calls.specs.Answer.{answer_widths, answer_numbers, answer_bytes, place_of}
use Rattle.row_calls.specs.RowCalls.{refused_rows, StoredIn, stored, stored_in, LeftIn, leaves_in, made_in}
use Rattle.row_calls.proofs.Small.{Small, answer_small}
use Rattle.row_calls.proofs.Leaves.{accepted_row, not_stored, both_stored}
use Rattle.row_promises.specs.Rows.{Storable}
use Rattle.row_promises.specs.Calls.{Passed, row_numbers, NothingChanges, Moves, RowPromises, DeliveredPart}
use Rattle.row_promises.proofs.Rows.{row_is_bytes, stands_for_lem, ranges_of, valid_of, valid_accepted}
use Rattle.row_promises.proofs.Ranges.{Keeps, call_keeps}

-- ---- the record that a call leaves may be stored

valid_record : (c : Connection) → Storable c → Valid c
valid_record c (inl e) = inl (ap (λ (d : Connection). d.phase) e)
valid_record c (inr u) = inr u

storable_next : (c : Connection) (o : Outcome) → Storable c → Stays o → Keeps c o → Storable o.next
storable_next c o v s k = go k.how
  where
    not_closed_next : eqb o.next.phase closed ≡ false → Valid o.next → Storable o.next
    not_closed_next n (inl e) = absurd (subst T (sym (eq-eqb o.next.phase closed e) ∙ n) tt)
    not_closed_next n (inr u) = inr u

    by_release : (b : Bool) → o.released ≡ b → eqb o.next.phase closed ≡ false → Storable o.next
    by_release true e n = inl (s.zero e)
    by_release false e n = not_closed_next n (s.valid e)

    go : (o.next ≡ c) ⊎ ((o.next ≡ all_zero) ⊎ (eqb o.next.phase closed ≡ false)) → Storable o.next
    go (inl e) = subst Storable (sym e) v
    go (inr (inl e)) = inl e
    go (inr (inr n)) = by_release o.released refl n

-- ---- 101 is not answered to a record that may be stored

abbrev Not101 : ℕ → Type 0
Not101 k = eqb k 101 ≡ false

abbrev Other : Outcome → Type 0
Other o = Not101 o.number

module _ (c : Connection) (good : bad c ≡ false) where
  close_other : Not101 (close_refusal c)
  unfolding close_refusal
  close_other = rw good (both Not101 (eqb c.phase closed) _ _ (λ _. refl) (λ _. refl))

  tick_other : (now : Count) → Not101 (tick_refusal c now)
  unfolding tick_refusal
  tick_other now =
      both Not101 (eqb (close_refusal c) 0) _ _ (λ _. both Not101 (goes_back now.0 c.clock.0) _ _ (λ _. refl) (λ _. refl)) (λ _. close_other)

  receive_other : (now : Count) (room : ℕ) → Not101 (receive_refusal c now room)
  unfolding receive_refusal
  receive_other now room =
      both Not101 (eqb (tick_refusal c now) 0) _ _ (λ _. both Not101 (ltb room est_size) _ _ (λ _. refl) (λ _. refl)) (λ _. tick_other now)

  send_other : (now : Count) (size room : ℕ) → Not101 (send_refusal c now size room)
  unfolding send_refusal
  send_other now size room =
      both Not101 (eqb (tick_refusal c now) 0) _ _
      (λ _. both Not101 (not (eqb c.phase opened)) _ _ (λ _. refl) (λ _.
      both Not101 (ltb most_data size) _ _ (λ _. refl) (λ _. both Not101 (ltb room (header_size + size)) _ _ (λ _. refl) (λ _. refl))))
      (λ _. tick_other now)

  begin_other : (g : Given) (room : ℕ) → Not101 (begin_refusal c g room)
  unfolding begin_refusal
  begin_other g room =
      rw good
      (both Not101 (not (eqb c.phase closed)) _ _ (λ _. refl) (λ _.
      both Not101 (ltb responder g.role || out_of_range g.settings) _ _ (λ _. refl) (λ _.
      both Not101 (eqb g.role initiator && ltb room start_size) _ _ (λ _. refl) (λ _. refl))))

  raised_other : (d : Connection) (k n : ℕ) → Not101 k → Other (raised d k n)
  unfolding raised
  raised_other d k n e = both Other (leb d.settings.limit (d.errors + 1)) _ _ (λ _. e) (λ _. e)

  taken_other : (now : Count) (h : Header) (t : Tail) → Other (message_taken c now h t)
  unfolding message_taken start_taken answ1_taken answ2_taken est_taken end_taken data_taken
  taken_other now h t =
      both Other (eqb h.kind offset_start) _ _ (λ _. refl) (λ _.
      both Other (eqb h.kind offset_answ1) _ _ (λ _. refl) (λ _.
      both Other (eqb h.kind offset_answ2) _ _ (λ _. refl) (λ _.
      both Other (eqb h.kind offset_est) _ _ (λ _. refl) (λ _.
      both Other (eqb h.kind offset_end) _ _ (λ _. refl) (λ _. refl)))))

  call_other : (call : Call) (now : Count) (lent : List ℕ) (room : ℕ) → Other (outcome_of call c now lent room)
  unfolding begin_outcome send_outcome close_outcome refusing
  call_other (Call.Begin g) now lent room =
      both Other (not (eqb (begin_refusal c g room) 0)) _ _ (λ _. begin_other g room) (λ _. both Other (eqb g.role initiator) _ _ (λ _. refl) (λ _. refl))
  call_other Call.Receive now lent room =
      receive_by Other (λ _ _ x. x) c now lent room (λ _. receive_other now room) (λ _ _. refl) (λ _. record {
        malformed_open = λ _. refl;
        malformed_set_up = λ _. refl;
        unexpected = λ _. refl;
        unexpected_set_up = λ _. refl;
        taken = λ h t _ _ _. taken_other now h t;
        refusing = λ _ _. refl;
        in_set_up = λ k f _. fault_other f;
        dropped = λ _. raised_other (clocked c now) 202 0 refl;
        too_far_lem = λ _. refl;
        after_gap = λ h t _ _ _. raised_other (heard (clocked c now) h now) 204 t.«data» refl;
        raising = λ h _ _ k f _ _ _. raised_other (heard (clocked c now) h now) k 0 (fault_other f);
      })
    where
      fault_other : {k : ℕ} → IsFault k → Not101 k
      fault_other IsFault.f202 = refl
      fault_other IsFault.f203 = refl
      fault_other IsFault.f208 = refl
      fault_other IsFault.f209 = refl
      fault_other IsFault.f206 = refl
      fault_other IsFault.f205 = refl
      fault_other IsFault.f204 = refl
  call_other Call.Send now lent room = both Other (not (eqb (send_refusal c now (length lent) room) 0)) _ _ (λ _. send_other now (length lent) room) (λ _. refl)
  call_other Call.Tick now lent room = tick_by Other c now (λ _. tick_other now) (λ _ _. refl) (λ _. refl)
  call_other Call.Close now lent room = both Other (not (eqb (close_refusal c) 0)) _ _ (λ _. close_other) (λ _. refl)

-- ---- a number that is listed for the call by value, and is not 101, is listed for the call over a row

behind : (k : ℕ) (ns : List ℕ) → k among ns ≡ true → eqb k 109 || (k among ns) ≡ true
behind k ns e = rw e (go (eqb k 109))
  where
    go : (b : Bool) → b || true ≡ true
    go true = refl
    go false = refl

listed : (call : Call) (k : ℕ) → k among (rule_of call).numbers ≡ true → Not101 k → k among row_numbers call ≡ true
listed (Call.Begin g) k e n = behind k (drop 1 (rule_of (Call.Begin g)).numbers) (rw n at e)
listed Call.Receive k e n = behind k (drop 1 (rule_of Call.Receive).numbers) (rw n at e)
listed Call.Send k e n = behind k (drop 1 (rule_of Call.Send).numbers) (rw n at e)
listed Call.Tick k e n = behind k (drop 1 (rule_of Call.Tick).numbers) (rw n at e)
listed Call.Close k e n = behind k (drop 1 (rule_of Call.Close).numbers) (rw n at e)

small_place : (n : ℕ) → place_of n < 256 ^ 2
unfolding place_of
small_place n = go (eqb n 0)
  where
    go : (b : Bool) → (when b answer 0 else header_size) < 256 ^ 2
    go true = lit< tt
    go false = lit< tt

-- the fields of an answer row are the answer's
answer_fields : (a : Answer) → Small a → fields_of answer_widths (answer_bytes a) 0 ≡ answer_numbers a
unfolding answer_bytes
answer_fields a s =
    ap (λ (l : List ℕ). fields_of answer_widths l 0) (sym (append-nil (row_of answer_widths (answer_numbers a))))
    ∙ fields_of_row answer_widths (answer_numbers a) [] [] 0 refl (one_bit a.released, (s.written, (small_place a.delivered, (s.delivered, (wrapped_lt a.age.0, tt)))))
  where
    one_bit : (b : Bool) → (when b answer 1 else 0) < 256 ^ 1
    one_bit true = lit< tt
    one_bit false = lit< tt

-- ---- the promises

module _ (call : Call) (row : List ℕ) (now : Count) (lent out answer_row : List ℕ) where
  -- what the call comes to on the record that the row stands for, what it says and leaves there, and what it leaves over the row
  abbrev comes : Outcome
  comes = outcome_of call (stands_for row) now lent (length out)

  abbrev called : Called
  called = (made call (stands_for row) now lent out).called

  abbrev left : LeftIn
  left = made_in call row now lent out answer_row

  refused : refused_rows row (length answer_row) ≡ true → left ≡ leaves_in (stored 109 row answer_row) out
  unfolding made_in
  refused e = rw e refl

  taken : refused_rows row (length answer_row) ≡ false → left ≡ leaves_in (stored_in row answer_row called) (made call (stands_for row) now lent out).out
  unfolding made_in
  taken e = rw e refl

  module _ (good : refused_rows row (length answer_row) ≡ false) where
    accepted_here : row_refusal row ≡ 0
    accepted_here = accepted_row row (length answer_row) good

    kept_rows : callers_fault comes.number ≡ true → left.said ≡ stored comes.number row answer_row
    kept_rows e = ap (λ (l : LeftIn). l.said) (taken good) ∙ sym (not_stored row answer_row called e)

    new_rows : callers_fault comes.number ≡ false → left.said ≡ stored comes.number (row_bytes comes.next) (answer_bytes called.answer)
    new_rows e = ap (λ (l : LeftIn). l.said) (taken good) ∙ sym (both_stored row answer_row called e)

    -- by whether it is a caller's fault
    by_fault : (P : StoredIn → Type 0) → (callers_fault comes.number ≡ true → P (stored comes.number row answer_row))
        → (callers_fault comes.number ≡ false → P (stored comes.number (row_bytes comes.next) (answer_bytes called.answer)))
        → P left.said
    by_fault P f g = go (callers_fault comes.number) refl
      where
        go : (b : Bool) → callers_fault comes.number ≡ b → P left.said
        go true e = subst P (sym (kept_rows e)) (f e)
        go false e = subst P (sym (new_rows e)) (g e)

    same_number : left.said.number ≡ comes.number
    same_number = by_fault (λ (s : StoredIn). s.number ≡ comes.number) (λ _. refl) (λ _. refl)

    unchanged : callers_fault comes.number ≡ true → Unchanged (stands_for row) comes
    unchanged e = call_refusal_changes_nothing call (stands_for row) now lent (length out) e

    module _ (p : Passed call row now lent) where
      keeps : Keeps (stands_for row) comes
      keeps = call_keeps call (stands_for row) now lent (length out) (ranges_of row p.row_bytes_lem) p.count p.lent_bytes p.given

      storable : Storable comes.next
      storable =
          storable_next (stands_for row) comes (valid_of row accepted_here)
          (call_stays call (stands_for row) now lent (length out) (valid_record (stands_for row) (valid_of row accepted_here))) keeps

      next : stands_for left.said.row ≡ comes.next
      next =
          by_fault (λ (s : StoredIn). stands_for s.row ≡ comes.next) (λ e. sym (unchanged e).same_record) (λ _. stands_for_lem comes.next keeps.ranges)

      accepted_next : row_refusal left.said.row ≡ 0
      accepted_next =
          by_fault (λ (s : StoredIn). row_refusal s.row ≡ 0) (λ _. accepted_here) (λ _. valid_accepted comes.next keeps.ranges storable)

      bytes_next : Bytes left.said.row
      bytes_next = by_fault (λ (s : StoredIn). Bytes s.row) (λ _. p.row_bytes_lem) (λ _. row_is_bytes comes.next)

    answer_row_lem : callers_fault left.said.number ≡ false → fields_of answer_widths left.said.answer 0 ≡ answer_numbers called.answer
    answer_row_lem n = ap (λ (s : StoredIn). fields_of answer_widths s.answer 0) (new_rows (subst (λ (k : ℕ). callers_fault k ≡ false) same_number n)) ∙ answer_fields called.answer (answer_small call (stands_for row) now lent out)

    moves : Moves call row now lent out answer_row
    moves =
        record {
          same_number = same_number;
          same_out = ap (λ (l : LeftIn). l.out) (taken good);
          next = next;
          accepted = accepted_next;
          bytes = bytes_next;
          answer_row_lem = answer_row_lem;
        }

    listed_here : left.said.number among row_numbers call ≡ true
    listed_here =
        subst (λ (k : ℕ). k among row_numbers call ≡ true) (sym same_number)
        (listed call comes.number (call_number call (stands_for row) now lent (length out))
        (call_other (stands_for row) (valid_is_not_bad (stands_for row) (valid_record (stands_for row) (valid_of row accepted_here))) call now lent (length out)))

    nothing_changes_lem : callers_fault left.said.number ≡ true → NothingChanges row out answer_row left
    nothing_changes_lem f =
        let e : callers_fault comes.number ≡ true = subst (λ (k : ℕ). callers_fault k ≡ true) same_number f in
        record {
          same_row = ap (λ (s : StoredIn). s.row) (kept_rows e);
          same_out = ap (λ (l : LeftIn). l.out) (taken good) ∙ ap (λ (r : Option Message). sets out 0 (reply_bytes r lent)) (unchanged e).nothing_written;
          same_answer = ap (λ (s : StoredIn). s.answer) (kept_rows e);
        }

  either : {P : Type 0} → (refused_rows row (length answer_row) ≡ true → P) → (refused_rows row (length answer_row) ≡ false → P) → P
  either {P} f g = go (refused_rows row (length answer_row)) refl
    where
      go : (b : Bool) → refused_rows row (length answer_row) ≡ b → P
      go true e = f e
      go false e = g e

  -- any call over any row
  pub row_promises : RowPromises call row now lent out answer_row
  row_promises =
      record {
        refused = refused;
        moves = moves;
        number_listed = either (λ e. subst (λ (l : LeftIn). l.said.number among row_numbers call ≡ true) (sym (refused e)) refl) listed_here;
        refusal_changes_nothing = λ f. either
            (λ e. subst (NothingChanges row out answer_row) (sym (refused e)) (record { same_row = refl; same_out = refl; same_answer = refl }))
            (λ e. nothing_changes_lem e f);
      }

-- the place and the length in an answer row give the delivered part
pub delivered_part : DeliveredPart
unfolding place_of delivered_of
delivered_part message n = go (eqb n 0) refl
  where
    go : (b : Bool) → eqb n 0 ≡ b → take n (drop (when b answer 0 else header_size) message) ≡ take n (drop header_size message)
    go true e = rw (eqb-true n 0 e) refl
    go false e = refl
