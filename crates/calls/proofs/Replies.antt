-- What a call sends is a message that the table allows and has room, so that the writer writes it whole; tick and close send nothing.
-- Assumes nothing.
use Prim.Native.Nat.{ℕ, ◌+◌, ◌≤◌, ◌<◌}
use mathlib.Core.Path.{◌≡◌, refl, sym, subst}
use mathlib.Core.Bool.{Bool, true, false, not, ◌&&◌, ◌||◌}
use native.Mathlib.Omega.{arith}
use borrow.Author.Tests.{le-leb, eq-eqb, ltb-false, eqb-true, eqb-false, not-false}
use lib.Dec.{T, ltb, leb, eqb, lit<}
use lib.ListN.{length}
use mathlib.Core.List.{List}
use Rattle.rules.specs.Rows.{when◌answer◌else◌}
use Rattle.clock.specs.declared.Count.{Count}
use Rattle.message.specs.Table.{
  offset_start,
  offset_answ1,
  offset_answ2,
  offset_est,
  offset_end,
  header_size,
  start_size,
  est_size,
  most_message,
  most_data,
  table_of,
  lists,
  total_of,
}
use Rattle.message.specs.Layout.{period_tail, data_tail}
use Rattle.message.specs.Read.{later_stamp, check_over, parsed_of}
use Rattle.message_writing.specs.Writing.{allowed_of, writes, message_written}
use Rattle.message.specs.declared.Header.{Header}
use Rattle.message.specs.declared.Tail.{Tail}
use Rattle.message.specs.declared.Message.{Message}
use Rattle.connection.specs.declared.Connection.{Connection}
use Rattle.connection.specs.Connection.{closed, opened, initiator_waits_for4, out_of_range}
use Rattle.peer_faults.specs.declared.Expectation.{Expectation}
use Rattle.peer_faults.specs.declared.Expectation.TheVariants.{Expected, Unexpected, Released}
use Rattle.std.proofs.Common.{Option, Some, None}
use Rattle.what_follows.specs.declared.Outcome.{Outcome}
use Rattle.peer_faults.specs.Faults.{expectation_of, fault_number}
use Rattle.what_follows.specs.Follows.{malformed_of, start_taken, answ1_taken, answ2_taken, est_taken, end_taken, data_taken, message_taken, refusing, raised, open_follows_of, follows_of, met_of, step_of}
use Rattle.calls.specs.declared.Given.{Given}
use Rattle.calls.specs.declared.Call.{Call}
use Rattle.calls.specs.Calls.{
  close_refusal,
  tick_refusal,
  receive_refusal,
  send_refusal,
  begin_refusal,
  expired,
  receive_outcome,
  tick_outcome,
  close_outcome,
  send_outcome,
  begin_outcome,
  outcome_of,
  called_with,
  leaves,
  left_by,
  initiator,
  responder,
  bad,
  ◌then◌,
  data_header,
  start_header,
  reply_bytes,
  writable,
}

-- what holds of both rows holds of the one that applies
pub both : {A : Type 0} (P : A → Type 0) (b : Bool) (x y : A) → (b ≡ true → P x) → (b ≡ false → P y) → P (when b answer x else y)
both P true x y f g = f refl
both P false x y f g = g refl

abbrev Whole : ℕ → ℕ → Outcome → Type 0
Whole room n o = writable o.reply room n ≡ true

module _ (room n : ℕ) (enough : est_size ≤ room) where
  start_whole : (c : Connection) (now : Count) (h : Header) → Whole room n (start_taken c now h)
  unfolding start_taken writes allowed_of table_of lists total_of later_stamp check_over
  start_whole c now h = simp (le-leb 19 room (omega arith))

  answ1_whole : (c : Connection) (now : Count) (h : Header) → Whole room n (answ1_taken c now h)
  unfolding answ1_taken writes allowed_of table_of lists total_of later_stamp check_over
  answ1_whole c now h = simp (le-leb 15 room (omega arith))

  answ2_whole : (c : Connection) (now : Count) (h : Header) → Whole room n (answ2_taken c now h)
  unfolding answ2_taken writes allowed_of table_of lists total_of later_stamp check_over
  answ2_whole c now h = simp (le-leb 25 room enough)

  est_whole : (c : Connection) (now : Count) (h : Header) → Whole room n (est_taken c now h)
  unfolding est_taken writes allowed_of table_of lists total_of later_stamp check_over
  est_whole c now h = simp (le-leb 16 room (omega arith))

  refusing_whole : (c : Connection) (now : Count) (h : Header) → Whole room n (refusing c now h)
  unfolding refusing writes allowed_of table_of lists total_of later_stamp check_over
  refusing_whole c now h = simp (le-leb 16 room (omega arith))

  taken_whole : (c : Connection) (now : Count) (h : Header) (t : Tail) → Whole room n (message_taken c now h t)
  unfolding message_taken end_taken data_taken
  taken_whole c now h t =
      both (Whole room n) (eqb h.kind offset_start) _ _ (λ _. start_whole c now h) (λ _.
      both (Whole room n) (eqb h.kind offset_answ1) _ _ (λ _. answ1_whole c now h) (λ _.
      both (Whole room n) (eqb h.kind offset_answ2) _ _ (λ _. answ2_whole c now h) (λ _.
      both (Whole room n) (eqb h.kind offset_est) _ _ (λ _. est_whole c now h) (λ _.
      both (Whole room n) (eqb h.kind offset_end) _ _ (λ _. refl) (λ _. refl)))))

  raised_whole : (c : Connection) (k delivered : ℕ) → Whole room n (raised c k delivered)
  unfolding raised
  raised_whole c k delivered = both (Whole room n) (leb c.settings.limit (c.errors + 1)) _ _ (λ _. refl) (λ _. refl)

  open_whole : (c : Connection) (now : Count) (h : Header) (t : Tail) (k : ℕ) → Whole room n (open_follows_of c now h t k)
  unfolding open_follows_of
  open_whole c now h t k =
      both (Whole room n) (eqb k 202) _ _ (λ _. raised_whole _ 202 0) (λ _.
      both (Whole room n) (eqb k 203) _ _ (λ _. refl) (λ _.
      both (Whole room n) (eqb k 204) _ _ (λ _. raised_whole _ 204 _) (λ _. raised_whole _ k 0)))

  follows_whole : (c : Connection) (now : Count) (h : Header) (t : Tail) (k : ℕ) → Whole room n (follows_of c now h t k)
  unfolding follows_of
  follows_whole c now h t k =
      both (Whole room n) (eqb k 0) _ _ (λ _. taken_whole c now h t) (λ _.
      both (Whole room n) (eqb c.phase opened) _ _ (λ _. open_whole c now h t k) (λ _.
      both (Whole room n) (eqb c.phase initiator_waits_for4 && eqb k 209) _ _ (λ _. refusing_whole c now h) (λ _. refl)))

  met_whole : (c : Connection) (now : Count) (h : Header) (t : Tail) (x : Expectation) → Whole room n (met_of c now h t x)
  met_whole c now h t Expected = follows_whole c now h t (fault_number c now h t)
  met_whole c now h t Unexpected = refl
  met_whole c now h t Released = refl

  step_whole : (c : Connection) (now : Count) (p : Option Message) → Whole room n (step_of c now p)
  unfolding step_of malformed_of
  step_whole c now None = both (Whole room n) (eqb c.phase opened) _ _ (λ _. refl) (λ _. refl)
  step_whole c now (Some m) = met_whole c now m.header m.tail (expectation_of c.phase m.header.kind)

-- ---- where nothing is refused, no row of the refusals applies

pub row_off : (b : Bool) (k rest : ℕ) → 0 < k → (when b answer k else rest) ≡ 0 → (b ≡ false) × (rest ≡ 0)
row_off true k rest h e = let z : ⊥ = omega arith in absurd z
row_off false k rest h e = (refl, e)

pub then_off : (k rest : ℕ) → (k then rest) ≡ 0 → (k ≡ 0) × (rest ≡ 0)
then_off k rest e = go (eqb k 0) refl e
  where
    go : (t : Bool) → eqb k 0 ≡ t → (when t answer rest else k) ≡ 0 → (k ≡ 0) × (rest ≡ 0)
    go true q r = (eqb-true k 0 q, r)
    go false q r = absurd (eqb-false k 0 q r)

pub none_refused : (k : ℕ) → not (eqb k 0) ≡ false → k ≡ 0
none_refused k e = eqb-true k 0 (not-false (eqb k 0) e)

and_off : (a b : Bool) → a ≡ true → a && b ≡ false → b ≡ false
and_off true b p e = e
and_off false b p e = absurd (subst T (sym p) tt)

-- ---- the calls

pub receive_whole : (c : Connection) (now : Count) (message : List ℕ) (room n : ℕ) → Whole room n (receive_outcome c now message room)
unfolding receive_outcome receive_refusal
receive_whole c now message room n =
    both (Whole room n) (not (eqb (receive_refusal c now room) 0)) _ _ (λ _. refl) (λ e.
    both (Whole room n) (expired c now) _ _ (λ _. refl) (λ _. step_whole room n (enough (none_refused (receive_refusal c now room) e)) c now (parsed_of message)))
  where
    enough : receive_refusal c now room ≡ 0 → est_size ≤ room
    enough e = ltb-false room est_size (row_off (ltb room est_size) 108 0 (lit< tt) (then_off (tick_refusal c now) _ e).1).0

-- send's rows past tick's
abbrev last_rows : ℕ → ℕ → ℕ → ℕ
last_rows phase size room =
    when not (eqb phase opened) answer 106 else
    when ltb most_data size answer 107 else
    when ltb room (header_size + size) answer 108 else
    0

pub send_whole : (c : Connection) (now : Count) (size room : ℕ) → Whole room size (send_outcome c now size room)
unfolding send_outcome send_refusal writes allowed_of table_of lists total_of later_stamp check_over
send_whole c now size room =
    both (Whole room size) (not (eqb (send_refusal c now size room) 0)) _ _ (λ _. refl)
    (λ e. fits (then_off (tick_refusal c now) _ (none_refused (send_refusal c now size room) e)).1)
  where
    fits : last_rows c.phase size room ≡ 0 → writes room (data_header c now) (data_tail size) size ≡ true
    fits e =
        let a = row_off (not (eqb c.phase opened)) 106 _ (lit< tt) e in
        let b = row_off (ltb most_data size) 107 _ (lit< tt) a.1 in
        let d = row_off (ltb room (header_size + size)) 108 0 (lit< tt) b.1 in
        let l : size ≤ most_data = ltb-false most_data size b.0 in
        let r : header_size + size ≤ room = ltb-false room (header_size + size) d.0 in
        simp (
          le-leb header_size (header_size + size) (omega arith),
          le-leb (header_size + size) most_message (omega arith),
          eq-eqb size size refl,
          le-leb (header_size + size) room r,
        )

pub begin_whole : (c : Connection) (g : Given) (now : Count) (room n : ℕ) → Whole room n (begin_outcome c g now room)
unfolding begin_outcome begin_refusal writes allowed_of table_of lists total_of later_stamp check_over
begin_whole c g now room n =
    both (Whole room n) (not (eqb (begin_refusal c g room) 0)) _ _ (λ _. refl) (λ e.
    both (Whole room n) (eqb g.role initiator) _ _ (λ i. fits i (none_refused (begin_refusal c g room) e)) (λ _. refl))
  where
    fits : eqb g.role initiator ≡ true → begin_refusal c g room ≡ 0
        → writes room (start_header g.own.number now) (period_tail g.own.period) n ≡ true
    fits i e =
        let a = row_off (bad c) 101 _ (lit< tt) e in
        let b = row_off (not (eqb c.phase closed)) 103 _ (lit< tt) a.1 in
        let d = row_off (ltb responder g.role || out_of_range g.settings) 104 _ (lit< tt) b.1 in
        let f = row_off (eqb g.role initiator && ltb room start_size) 108 0 (lit< tt) d.1 in
        simp (le-leb start_size room (ltb-false room start_size (and_off (eqb g.role initiator) (ltb room start_size) i f.0)))

abbrev Silent : Outcome → Type 0
Silent o = o.reply ≡ None

pub tick_silent : (c : Connection) (now : Count) → Silent (tick_outcome c now)
unfolding tick_outcome
tick_silent c now =
    both Silent (not (eqb (tick_refusal c now) 0)) _ _ (λ _. refl) (λ _. both Silent (expired c now) _ _ (λ _. refl) (λ _. refl))

pub close_silent : (c : Connection) → Silent (close_outcome c)
unfolding close_outcome
close_silent c = both Silent (not (eqb (close_refusal c) 0)) _ _ (λ _. refl) (λ _. refl)

silent_whole : (room n : ℕ) (o : Outcome) → Silent o → Whole room n o
silent_whole room n o e = rw e refl

-- so that it leaves the out buffer as it was
pub silent_leaves : (o : Outcome) → Silent o → (lent out : List ℕ) → leaves (called_with o 0) out ≡ left_by o lent out
silent_leaves o e lent out = rw e refl

-- any call
pub call_whole : (call : Call) (c : Connection) (now : Count) (lent : List ℕ) (room : ℕ) → Whole room (length lent) (outcome_of call c now lent room)
call_whole (Call.Begin g) c now lent room = begin_whole c g now room (length lent)
call_whole Call.Receive c now lent room = receive_whole c now lent room (length lent)
call_whole Call.Send c now lent room = send_whole c now (length lent) room
call_whole Call.Tick c now lent room = silent_whole room (length lent) (tick_outcome c now) (tick_silent c now)
call_whole Call.Close c now lent room = silent_whole room (length lent) (close_outcome c) (close_silent c)

-- ---- the writer

pub put_is : (reply : Option Message) (m : Message) (lent out : List ℕ) → reply ≡ Some m → writable reply (length out) (length lent) ≡ true
    → message_written (length out) m.header m.tail lent ≡ reply_bytes reply lent
unfolding message_written
put_is reply m lent out e w =
    let v : writes (length out) m.header m.tail (length lent) ≡ true = rw e at w in
    rw e (simp v)
