-- Two boxes of ours, joined, do open.
-- Assumes nothing.
use Prim.Native.Nat.{ℕ, suc, ◌+◌, ◌-◌, ◌^◌, ◌≤◌, ◌<◌}
use Rattle.std.proofs.Math.Bool.{and-false}
use mathlib.Core.Path.{◌≡◌, refl, ap, ◌∙◌}
use mathlib.Core.Bool.{Bool, true, false, not, ◌||◌}
use mathlib.Core.List.{List, []}
use native.Mathlib.Omega.{arith}
use borrow.Author.Tests.{lt-ltb, le-ltb, le-leb, lt-leb, eq-eqb, ne_eqb}
use lib.Dec.{ltb, leb, eqb, lit<, lit≤, ltb→lt}
use lib.IntN.{pos, negsuc, nat_abs, ◌+ℤ◌, ◌-ℤ◌}
use lib.ListN.{length, take, drop}
use lib.Seq.{sets, sets-eq, take-append_seam}
use lib.Signed.{mag}
use Rattle.rules.specs.Modulo.{modulo}
use Rattle.rules.specs.Rows.{when◌answer◌else◌}
use Rattle.rules.proofs.Integers.{cond_both, sum_is, less_is, less_pos}
use Rattle.clock.specs.Clock.{wrapped, centred, goes_back, wait_of, no_age}
use Rattle.clock.specs.declared.Age.{Age}
use Rattle.clock.specs.declared.Count.{Count}
use Rattle.clock.specs.declared.Offset.{Offset}
use Rattle.clock.proofs.Wrapped.{≈-sum, ≈-less, ≈-sym, ≈-trans, wrapped-≈, centred-≈, centred_is, centred_range, centred_same, waited_goes_on}
use Rattle.number.specs.Number.{distance_of, next_of}
use Rattle.number.proofs.Following.{next_fits, distance_next}
use Rattle.message.specs.Layout.{period_tail, empty_tail, offsets_tail, check_tail}
use Rattle.message.specs.Table.{
  offset_start,
  offset_answ1,
  offset_answ2,
  offset_est,
  offset_end,
  application,
  start_size,
  est_size,
  table_of,
  lists,
  total_of,
}
use Rattle.message.specs.Read.{later_stamp, check_over, parsed_of}
use Rattle.message_writing.specs.Writing.{message_bytes, allowed_of}
use Rattle.round_trips.specs.Message.{Ranges, Allowed}
use Rattle.round_trips.proofs.Message.{totals, written_reads_back}
use Rattle.message.specs.declared.Header.{Header}
use Rattle.message.specs.declared.Tail.{Tail}
use Rattle.std.proofs.Common.{Option, Some}
use Rattle.message.specs.declared.Message.{Message}
use Rattle.message.specs.Layout.{whole}
use Rattle.connection.specs.declared.Connection.{Connection}
use Rattle.connection.specs.Connection.{
  closed,
  initiator_waits_for2,
  initiator_waits_for4,
  responder_waits_for1,
  responder_waits_for3,
  responder_waits_for5,
  opened,
  ◌outside◌to◌,
  out_of_range,
  unsound,
  no_count,
  clocked,
  heard,
  sent,
  waiting,
  with_offsets,
  begun,
}
use Rattle.connection.proofs.Ranges.{in_range}
use Rattle.peer_faults.specs.declared.Expectation.TheVariants.{Expected}
use Rattle.what_follows.specs.declared.Outcome.{Outcome}
use Rattle.peer_faults.specs.Faults.{expectation_of, number_judged, not_ahead, beyond_n, gap, wrong_echo, accepts, check_failed, age_fault, fault_number}
use Rattle.what_follows.specs.Follows.{
  reporting,
  kept,
  released,
  sending,
  min_of,
  max_of,
  reply_header,
  answered,
  start_taken,
  answ1_taken,
  answ2_taken,
  est_taken,
  end_taken,
  message_taken,
  refusing,
  follows_of,
  step_of,
}
use Rattle.calls.specs.declared.Call.{Call}
use Rattle.calls.specs.Calls.{
  bad,
  close_refusal,
  tick_refusal,
  receive_refusal,
  begin_refusal,
  timed,
  expired,
  receive_outcome,
  start_header,
  begin_outcome,
  initiator,
  responder,
  reply_bytes,
  Leaves,
  left_by,
  made,
}
use Rattle.promises.proofs.Reported.{no_age_lem}
use Rattle.two_boxes.specs.TwoBoxes.{
  Boxes,
  given_to,
  slot_after,
  sent_by,
  begins,
  waits,
  gets_start,
  gets_answ1,
  gets_answ2,
  gets_est,
  gets_end,
  size_of_min_plus_peers_max,
  Joined,
  UpToEst,
  BothOpen,
  BothReleased,
  TwoBoxesOpen,
  TwoBoxesRelease,
  SizeIsOfWaits,
  TwoBoxesOpenInTime,
  worked,
  WorkedPair,
}

or_none : (a : Bool) → a || false ≡ a
or_none true = refl
or_none false = refl

-- ---- the bytes

-- what a call sends stands at the start of its out buffer
sent_bytes : (o : Outcome) (h : Header) (t : Tail) (lent out : List ℕ) → o.reply ≡ Some (whole h t) → length (message_bytes h t lent) ≤ length out
    → sent_by (left_by o lent out) ≡ message_bytes h t lent
sent_bytes o h t lent out e r =
    ap (λ (x : Option Message). take (length (reply_bytes x lent)) (sets out 0 (reply_bytes x lent))) e
    ∙ ap (take (length (message_bytes h t lent))) (sets-eq (message_bytes h t lent) out 0 (omega arith))
    ∙ take-append_seam (message_bytes h t lent) (drop (0 + length (message_bytes h t lent)) out)

sent_reads : (x : Leaves) (o : Outcome) (h : Header) (t : Tail) (lent out : List ℕ) → x ≡ left_by o lent out → o.reply ≡ Some (whole h t)
    → length (message_bytes h t lent) ≤ length out → Ranges h t → Allowed h t lent → parsed_of (sent_by x) ≡ Some (whole h t)
sent_reads x o h t lent out i e r f a =
    ap (λ (y : Leaves). parsed_of (sent_by y)) i ∙ ap parsed_of (sent_bytes o h t lent out e r) ∙ written_reads_back h t f lent a

-- ---- a receive that is refused nothing, and whose wait runs: the message is judged

-- of a record that our own calls left in set-up
record Live (c : Connection) : Type 0 where
  settings : out_of_range c.settings ≡ false
  not_closed : eqb c.phase closed ≡ false
  phase : c.phase outside initiator_waits_for2 to opened ≡ false
  errors : c.errors ≡ 0

no_refusal : (c : Connection) (now : Count) (room : ℕ) → Live c → goes_back now.0 c.clock.0 ≡ false → est_size ≤ room
    → receive_refusal c now room ≡ 0
unfolding receive_refusal tick_refusal close_refusal bad unsound
no_refusal c now room l g r =
    rw (
      l.not_closed,
      l.phase,
      l.settings,
      l.errors,
      lt-leb c.settings.limit 0 (in_range c.settings l.settings).limit,
      g,
      le-ltb room est_size r,
    )

module _ (c : Connection) (now : Count) (message : List ℕ) (room : ℕ) (h : Header) (t : Tail) (l : Live c) (r : est_size ≤ room)
    (p : parsed_of message ≡ Some (whole h t)) (x : expectation_of c.phase h.kind ≡ Expected) (k : ℕ) (f : fault_number c now h t ≡ k)
    (no-data : eqb h.kind application ≡ false) where
  judged : goes_back now.0 c.clock.0 ≡ false → expired c now ≡ false → receive_outcome c now message room ≡ reporting no_age (follows_of c now h t k)
  unfolding receive_outcome step_of
  judged g e = rw (no_refusal c now room l g r, e, p, x, f) (ap (λ (a : Age). reporting a (follows_of c now h t k)) (no_age_lem c now h t k no-data))

  -- a wait that began with the last call, and is within T_start
  judged_in_time : c.clock.0 ≡ c.wait_start.0 → wait_of now.0 c.wait_start.0 < c.settings.t_start
      → receive_outcome c now message room ≡ reporting no_age (follows_of c now h t k)
  unfolding expired
  judged_in_time e w =
      judged (rw e (waited_goes_on now.0 c.wait_start.0 (omega (arith, (in_range c.settings l.settings).t_start))))
      (rw (lt-leb c.settings.t_start (wait_of now.0 c.wait_start.0) w) (and-false (timed c.phase)))

-- of messages 3 to 5: where d is 1 and the echo is right, the clock check decides
check_decides : (c : Connection) (now : Count) (h : Header) (t : Tail) → offset_answ2 ≤ h.kind → h.kind ≤ offset_end
    → distance_of h.number c.peer.number ≡ 1
    → out_of_range c.settings ≡ false → h.last_peer_stamp.0 ≡ c.wait_start.0 → (k : Bool) → check_failed c h.kind t ≡ k
    → fault_number c now h t ≡ (when k answer 209 else 0)
unfolding fault_number not_ahead beyond_n gap number_judged wrong_echo age_fault
check_decides c now h t l u d s e k f =
    let no-data : eqb h.kind application ≡ false = ne_eqb h.kind application (λ q. omega arith) in
    simp (
      d,
      f,
      no-data,
      lt-ltb offset_answ1 h.kind l,
      le-ltb c.settings.n 1 (in_range c.settings s).n,
      le-leb offset_answ1 h.kind (omega arith),
      le-leb h.kind offset_end u,
      eq-eqb h.last_peer_stamp.0 c.wait_start.0 e,
    )

-- ---- the clock check of two boxes of ours

-- the difference of two numbers under 2^31 is in range
less_range : (a b : ℕ) → a < 2 ^ 31 → b < 2 ^ 31 → mag (pos a -ℤ pos b) < 2 ^ 31
less_range a b h k =
    rw (less_pos a b) (cond_both (ltb a b) (negsuc (b - suc a)) (pos (a - b)) (λ z. mag z < 2 ^ 31) (λ _. omega arith) (λ _. omega arith))

module _ (i1 i2 r1 r3 : ℕ) where
  -- its max + peer's min is 0
  sum_is_0 : centred (centred (pos i2 -ℤ pos r1) +ℤ centred (pos r1 -ℤ pos i2)) ≡ pos 0
  sum_is_0 =
      centred_is (centred (pos i2 -ℤ pos r1) +ℤ centred (pos r1 -ℤ pos i2)) (pos 0)
      (≈-trans {b = (pos i2 -ℤ pos r1) +ℤ (pos r1 -ℤ pos i2)}
      (record { on = 0; off = 0; apart = omega (arith, sum_is (pos i2 -ℤ pos r1) (pos r1 -ℤ pos i2), less_is (pos i2) (pos r1), less_is (pos r1) (pos i2)) })
      (≈-sym (≈-sum (centred-≈ (pos i2 -ℤ pos r1)) (centred-≈ (pos r1 -ℤ pos i2)))))
      (lit< tt)

  -- its max - its min is what it waited
  max_less_min : centred (centred (pos i2 -ℤ pos r1) -ℤ centred (pos i1 -ℤ pos r1)) ≡ centred (pos i2 -ℤ pos i1)
  max_less_min =
      centred_same
      (≈-trans {b = (pos i2 -ℤ pos r1) -ℤ (pos i1 -ℤ pos r1)} (≈-less (centred-≈ (pos i2 -ℤ pos r1)) (centred-≈ (pos i1 -ℤ pos r1)))
      (record { on = 0; off = 0; apart = omega (arith, less_is (pos i2 -ℤ pos r1) (pos i1 -ℤ pos r1), less_is (pos i2) (pos r1), less_is (pos i1) (pos r1), less_is (pos i2) (pos i1)) }))

  accepted_by : (t-off : ℕ) → goes_back i2 i1 ≡ false
      → accepts (centred (pos i1 -ℤ pos r1)) (centred (pos i2 -ℤ pos r1)) (centred (pos r1 -ℤ pos i2)) (centred (pos r3 -ℤ pos i2)) t-off
      ≡ leb (nat_abs (centred (centred (pos i1 -ℤ pos r1) +ℤ centred (pos r3 -ℤ pos i2)))) t-off
  unfolding accepts goes_back
  accepted_by t-off g = rw (sum_is_0, max_less_min, g)

  -- its min + peer's max is what the peer waited less what it waited
  difference_of_waits : wait_of r3 r1 < 2 ^ 31 → wait_of i2 i1 < 2 ^ 31
      → centred (centred (pos i1 -ℤ pos r1) +ℤ centred (pos r3 -ℤ pos i2)) ≡ pos (wait_of r3 r1) -ℤ pos (wait_of i2 i1)
  unfolding wait_of
  difference_of_waits h k =
      centred_is (centred (pos i1 -ℤ pos r1) +ℤ centred (pos r3 -ℤ pos i2)) (pos (wrapped (pos r3 -ℤ pos r1)) -ℤ pos (wrapped (pos i2 -ℤ pos i1)))
      (≈-trans {b = (pos r3 -ℤ pos r1) -ℤ (pos i2 -ℤ pos i1)} (≈-less (wrapped-≈ (pos r3 -ℤ pos r1)) (wrapped-≈ (pos i2 -ℤ pos i1)))
      (≈-trans {b = (pos i1 -ℤ pos r1) +ℤ (pos r3 -ℤ pos i2)}
      (record {
        on = 0;
        off = 0;
        apart = omega (
          arith,
          less_is (pos r3 -ℤ pos r1) (pos i2 -ℤ pos i1),
          sum_is (pos i1 -ℤ pos r1) (pos r3 -ℤ pos i2),
          less_is (pos r3) (pos r1),
          less_is (pos i2) (pos i1),
          less_is (pos i1) (pos r1),
          less_is (pos r3) (pos i2),
        );
      })
      (≈-sym (≈-sum (centred-≈ (pos i1 -ℤ pos r1)) (centred-≈ (pos r3 -ℤ pos i2))))))
      (less_range (wrapped (pos r3 -ℤ pos r1)) (wrapped (pos i2 -ℤ pos i1)) h k)

-- ---- the first message of a peer has no fault but a wrong echo

no_fault_1 : (c : Connection) (now : Count) (h : Header) (t : Tail) → h.kind ≡ offset_start → fault_number c now h t ≡ 0
unfolding fault_number not_ahead beyond_n gap number_judged wrong_echo check_failed age_fault
no_fault_1 c now h t k = rw k

no_fault_2 : (c : Connection) (now : Count) (h : Header) (t : Tail) → h.kind ≡ offset_answ1 → h.last_peer_stamp.0 ≡ c.wait_start.0
    → fault_number c now h t ≡ 0
unfolding fault_number not_ahead beyond_n gap number_judged wrong_echo check_failed age_fault
no_fault_2 c now h t k e = rw (k, eq-eqb h.last_peer_stamp.0 c.wait_start.0 e)

-- ---- what the table of messages allows

start_allowed : (first : ℕ) (now : Count) (period : ℕ) (lent : List ℕ) → Allowed (start_header first now) (period_tail period) lent
unfolding allowed_of table_of lists total_of later_stamp check_over
start_allowed first now period lent = record { by_table = refl; only = refl }

answ1_allowed : (c : Connection) (now : Count) (h : Header) (period : ℕ) (lent : List ℕ)
    → Allowed (reply_header offset_answ1 c now h) (period_tail period) lent
unfolding allowed_of table_of lists total_of later_stamp check_over
answ1_allowed c now h period lent = record { by_table = refl; only = refl }

answ2_allowed : (c : Connection) (now : Count) (h : Header) (lent : List ℕ) → Allowed (reply_header offset_answ2 c now h) empty_tail lent
unfolding allowed_of table_of lists total_of later_stamp check_over
answ2_allowed c now h lent = record { by_table = refl; only = refl }

est_allowed : (c : Connection) (now : Count) (h : Header) (min max : Offset) (lent : List ℕ)
    → Allowed (reply_header offset_est c now h) (offsets_tail min max) lent
unfolding allowed_of table_of lists total_of later_stamp check_over
est_allowed c now h min max lent = record { by_table = refl; only = refl }

end_allowed : (c : Connection) (now : Count) (h : Header) (check : ℕ) (lent : List ℕ) → check ≤ 1
    → Allowed (reply_header offset_end c now h) (check_tail check) lent
unfolding allowed_of table_of lists total_of later_stamp check_over
end_allowed c now h check lent l = record { by_table = rw (le-ltb 1 check l); only = refl }

-- ---- the five messages, the records that the calls leave, and what the calls come to that send one

module _ (b : Boxes) where
  abbrev start : Header
  start = start_header b.initiator.first b.i1

  abbrev sent_start : Connection
  sent_start =
      waiting (sent (begun b.initiator.settings (given_to b.initiator initiator).own initiator_waits_for2 b.i1)) initiator_waits_for2 b.i1

  abbrev waits_for_start : Connection
  waits_for_start = begun b.responder.settings (given_to b.responder responder).own responder_waits_for1 b.r0

  abbrev answ1 : Header
  answ1 = reply_header offset_answ1 waits_for_start b.r1 start

  abbrev sent_answ1 : Connection
  sent_answ1 = answered waits_for_start b.r1 start responder_waits_for3

  abbrev answ2 : Header
  answ2 = reply_header offset_answ2 sent_start b.i2 answ1

  abbrev sent_answ2 : Connection
  sent_answ2 = with_offsets (answered sent_start b.i2 answ1 initiator_waits_for4) (min_of sent_start answ1) (max_of b.i2 answ1)

  abbrev est : Header
  est = reply_header offset_est sent_answ1 b.r3 answ2

  abbrev est_tail : Tail
  est_tail = offsets_tail (min_of sent_answ1 answ2) (max_of b.r3 answ2)

  abbrev sent_est : Connection
  sent_est = with_offsets (answered sent_answ1 b.r3 answ2 responder_waits_for5) (min_of sent_answ1 answ2) (max_of b.r3 answ2)

  abbrev end : Header
  end = reply_header offset_end sent_answ2 b.i4 est

  abbrev initiator_open : Connection
  initiator_open = waiting (sent (heard (clocked sent_answ2 b.i4) est b.i4)) opened no_count

  abbrev responder_open : Connection
  responder_open = waiting (heard (clocked sent_est b.r5) end b.r5) opened no_count

  abbrev sends_start : Outcome
  sends_start = sending start (period_tail b.initiator.period) sent_start

  abbrev sends_answ1 : Outcome
  sends_answ1 = sending answ1 (period_tail b.responder.period) sent_answ1

  abbrev sends_answ2 : Outcome
  sends_answ2 = sending answ2 empty_tail sent_answ2

  abbrev sends_est : Outcome
  sends_est = sending est est_tail sent_est

-- a receive on the record that the box's call before left
receives : (before : Leaves) (c : Connection) (now : Count) (message out : List ℕ) (o : Outcome) → slot_after before ≡ c
    → receive_outcome c now message (length out) ≡ o → made Call.Receive (slot_after before) now message out ≡ left_by o message out
receives before c now message out o e f =
    ap (λ (x : Connection). left_by (receive_outcome x now message (length out)) message out) e
    ∙ ap (λ (x : Outcome). left_by x message out) f

module _ (b : Boxes) (j : Joined b) where
  -- ---- the begins

  begins_is : begins b ≡ left_by (sends_start b) [] b.out.start
  unfolding begins begin_outcome begin_refusal bad
  begins_is = rw (j.initiator.slot_closed, j.initiator.in_range, le-ltb (length b.out.start) start_size j.room_for_start)

  waits_is : waits b ≡ left_by (kept 0 0 (waits_for_start b)) [] b.out.waits
  unfolding waits begin_outcome begin_refusal bad
  waits_is = rw (j.responder.slot_closed, j.responder.in_range)

  -- ---- OffsetStart arrives

  start_reads : parsed_of (sent_by (begins b)) ≡ Some (whole (start b) (period_tail b.initiator.period))
  start_reads =
      sent_reads (begins b) (sends_start b) (start b) (period_tail b.initiator.period) [] b.out.start begins_is refl
      (omega (arith, (totals (start b) (period_tail b.initiator.period) []).0 refl, j.room_for_start))
      (record {
        kind = lit< tt;
        number = j.initiator.first;
        stamp = j.i1;
        last_peer_stamp = lit< tt;
        arrival = lit< tt;
        period = j.initiator.period;
        min = lit< tt;
        max = lit< tt;
        check = lit< tt;
      })
      (start_allowed b.initiator.first b.i1 b.initiator.period [])

  gets_start_is : gets_start b ≡ left_by (sends_answ1 b) (sent_by (begins b)) b.out.answ1
  unfolding gets_start expectation_of follows_of message_taken start_taken expired timed ◌outside◌to◌
  gets_start_is =
      receives (waits b) (waits_for_start b) b.r1 (sent_by (begins b)) b.out.answ1 (sends_answ1 b) (ap slot_after waits_is)
      (judged (waits_for_start b) b.r1 (sent_by (begins b)) (length b.out.answ1) (start b) (period_tail b.initiator.period)
      (record { settings = j.responder.in_range; not_closed = refl; phase = refl; errors = refl }) j.room_for_answ1 start_reads refl
      0 (no_fault_1 (waits_for_start b) b.r1 (start b) (period_tail b.initiator.period) refl) refl
      j.responder_first refl)

  -- ---- OffsetAnsw1 arrives

  answ1_reads : parsed_of (sent_by (gets_start b)) ≡ Some (whole (answ1 b) (period_tail b.responder.period))
  answ1_reads =
      sent_reads (gets_start b) (sends_answ1 b) (answ1 b) (period_tail b.responder.period) (sent_by (begins b)) b.out.answ1
      gets_start_is refl
      (omega (arith, (totals (answ1 b) (period_tail b.responder.period) (sent_by (begins b))).1 refl, j.room_for_answ1))
      (record {
        kind = lit< tt;
        number = j.responder.first;
        stamp = j.r1;
        last_peer_stamp = j.i1;
        arrival = j.r1;
        period = j.responder.period;
        min = lit< tt;
        max = lit< tt;
        check = lit< tt;
      })
      (answ1_allowed (waits_for_start b) b.r1 (start b) b.responder.period (sent_by (begins b)))

  gets_answ1_is : gets_answ1 b ≡ left_by (sends_answ2 b) (sent_by (gets_start b)) b.out.answ2
  unfolding gets_answ1 expectation_of follows_of message_taken answ1_taken ◌outside◌to◌
  gets_answ1_is =
      receives (begins b) (sent_start b) b.i2 (sent_by (gets_start b)) b.out.answ2 (sends_answ2 b) (ap slot_after begins_is)
      (judged_in_time (sent_start b) b.i2 (sent_by (gets_start b)) (length b.out.answ2) (answ1 b) (period_tail b.responder.period)
      (record { settings = j.initiator.in_range; not_closed = refl; phase = refl; errors = refl }) j.room_for_answ2 answ1_reads refl
      0 (no_fault_2 (sent_start b) b.i2 (answ1 b) (period_tail b.responder.period) refl refl) refl
      refl j.in_time_for_answ1)

  -- ---- OffsetAnsw2 arrives

  answ2_reads : parsed_of (sent_by (gets_answ1 b)) ≡ Some (whole (answ2 b) empty_tail)
  answ2_reads =
      sent_reads (gets_answ1 b) (sends_answ2 b) (answ2 b) empty_tail (sent_by (gets_start b)) b.out.answ2 gets_answ1_is refl
      (omega (arith, (totals (answ2 b) empty_tail (sent_by (gets_start b))).2 refl, j.room_for_answ2))
      (record {
        kind = lit< tt;
        number = next_fits b.initiator.first;
        stamp = j.i2;
        last_peer_stamp = j.r1;
        arrival = j.i2;
        period = lit< tt;
        min = lit< tt;
        max = lit< tt;
        check = lit< tt;
      })
      (answ2_allowed (sent_start b) b.i2 (answ1 b) (sent_by (gets_start b)))

  gets_answ2_is : gets_answ2 b ≡ left_by (sends_est b) (sent_by (gets_answ1 b)) b.out.est
  unfolding gets_answ2 expectation_of follows_of message_taken answ2_taken check_failed ◌outside◌to◌
  gets_answ2_is =
      receives (gets_start b) (sent_answ1 b) b.r3 (sent_by (gets_answ1 b)) b.out.est (sends_est b) (ap slot_after gets_start_is)
      (judged_in_time (sent_answ1 b) b.r3 (sent_by (gets_answ1 b)) (length b.out.est) (answ2 b) empty_tail
      (record { settings = j.responder.in_range; not_closed = refl; phase = refl; errors = refl }) j.room_for_est answ2_reads refl
      0
      (check_decides (sent_answ1 b) b.r3 (answ2 b) empty_tail (omega arith) (omega arith) (distance_next b.initiator.first)
      j.responder.in_range refl false refl) refl
      refl j.in_time_for_answ2)

  up_to_est : UpToEst b
  up_to_est =
      record {
        begins = rw begins_is (record {
          number = refl;
          not_released = refl;
          written = (totals (start b) (period_tail b.initiator.period) []).0 refl;
        });
        waits = rw waits_is (record { number = refl; not_released = refl; written = refl });
        gets_start_lem = rw gets_start_is (record {
          number = refl;
          not_released = refl;
          written = (totals (answ1 b) (period_tail b.responder.period) (sent_by (begins b))).1 refl;
        });
        gets_answ1_lem = rw gets_answ1_is (record {
          number = refl;
          not_released = refl;
          written = (totals (answ2 b) empty_tail (sent_by (gets_start b))).2 refl;
        });
        gets_answ2_lem = rw gets_answ2_is (record {
          number = refl;
          not_released = refl;
          written = (totals (est b) (est_tail b) (sent_by (gets_answ1 b))).3 refl;
        });
      }

  -- ---- OffsetEst arrives

  est_reads : parsed_of (sent_by (gets_answ2 b)) ≡ Some (whole (est b) (est_tail b))
  est_reads =
      sent_reads (gets_answ2 b) (sends_est b) (est b) (est_tail b) (sent_by (gets_answ1 b)) b.out.est gets_answ2_is refl
      (omega (arith, (totals (est b) (est_tail b) (sent_by (gets_answ1 b))).3 refl, j.room_for_est))
      (record {
        kind = lit< tt;
        number = next_fits b.responder.first;
        stamp = j.r3;
        last_peer_stamp = j.i2;
        arrival = j.r3;
        period = lit< tt;
        min = centred_range (pos b.r1.0 -ℤ pos b.i2.0);
        max = centred_range (pos b.r3.0 -ℤ pos b.i2.0);
        check = lit< tt;
      })
      (est_allowed (sent_answ1 b) b.r3 (answ2 b) (min_of (sent_answ1 b) (answ2 b)) (max_of b.r3 (answ2 b)) (sent_by (gets_answ1 b)))

  -- of the three conditions of the clock check, T_off's is the one that is left
  t_off_decides : check_failed (sent_answ2 b) offset_est (est_tail b) ≡ not (leb (size_of_min_plus_peers_max b) b.initiator.settings.t_off)
  unfolding check_failed
  t_off_decides =
      rw (accepted_by b.i1.0 b.i2.0 b.r1.0 b.r3.0 b.initiator.settings.t_off
      (waited_goes_on b.i2.0 b.i1.0
      (omega (arith, j.in_time_for_answ1, (in_range b.initiator.settings j.initiator.in_range).t_start))))
      (or_none (not (leb (size_of_min_plus_peers_max b) b.initiator.settings.t_off)))

  est_judged : (k : Bool) → not (leb (size_of_min_plus_peers_max b) b.initiator.settings.t_off) ≡ k
      → gets_est b ≡ left_by (reporting no_age (follows_of (sent_answ2 b) b.i4 (est b) (est_tail b) (when k answer 209 else 0))) (sent_by (gets_answ2 b)) b.out.end
  unfolding gets_est expectation_of ◌outside◌to◌
  est_judged k e =
      receives (gets_answ1 b) (sent_answ2 b) b.i4 (sent_by (gets_answ2 b)) b.out.end
      (reporting no_age (follows_of (sent_answ2 b) b.i4 (est b) (est_tail b) (when k answer 209 else 0))) (ap slot_after gets_answ1_is)
      (judged_in_time (sent_answ2 b) b.i4 (sent_by (gets_answ2 b)) (length b.out.end) (est b) (est_tail b)
      (record { settings = j.initiator.in_range; not_closed = refl; phase = refl; errors = refl }) j.room_for_end est_reads refl
      (when k answer 209 else 0)
      (check_decides (sent_answ2 b) b.i4 (est b) (est_tail b) (omega arith) (omega arith) (distance_next b.responder.first)
      j.initiator.in_range refl k (t_off_decides ∙ e)) refl
      refl j.in_time_for_est)

  -- ---- OffsetEnd arrives

  module _ (check : ℕ) (l : check ≤ 1) (o : Outcome) (i : gets_est b ≡ left_by o (sent_by (gets_answ2 b)) b.out.end)
      (e : o.reply ≡ Some (whole (end b) (check_tail check))) where
    end_reads : parsed_of (sent_by (gets_est b)) ≡ Some (whole (end b) (check_tail check))
    end_reads =
        sent_reads (gets_est b) o (end b) (check_tail check) (sent_by (gets_answ2 b)) b.out.end i e
        (omega (arith, (totals (end b) (check_tail check) (sent_by (gets_answ2 b))).4 refl, j.room_for_end))
        (record {
          kind = lit< tt;
          number = next_fits (next_of b.initiator.first);
          stamp = j.i4;
          last_peer_stamp = j.r3;
          arrival = j.i4;
          period = lit< tt;
          min = lit< tt;
          max = lit< tt;
          check = omega arith;
        })
        (end_allowed (sent_answ2 b) b.i4 (est b) check (sent_by (gets_answ2 b)) l)

    end_judged : gets_end b
        ≡ left_by (reporting no_age (follows_of (sent_est b) b.r5 (end b) (check_tail check) (when eqb check 0 answer 209 else 0))) (sent_by (gets_est b)) b.out.last
    unfolding gets_end expectation_of check_failed ◌outside◌to◌
    end_judged =
        receives (gets_answ2 b) (sent_est b) b.r5 (sent_by (gets_est b)) b.out.last
        (reporting no_age (follows_of (sent_est b) b.r5 (end b) (check_tail check) (when eqb check 0 answer 209 else 0))) (ap slot_after gets_answ2_is)
        (judged_in_time (sent_est b) b.r5 (sent_by (gets_est b)) (length b.out.last) (end b) (check_tail check)
        (record { settings = j.responder.in_range; not_closed = refl; phase = refl; errors = refl }) j.room_at_last end_reads refl
        (when eqb check 0 answer 209 else 0)
        (check_decides (sent_est b) b.r5 (end b) (check_tail check) (omega arith) (omega arith)
        (distance_next (next_of b.initiator.first)) j.responder.in_range refl (eqb check 0) refl) refl
        refl j.in_time_for_end)

  -- ---- offsets within T_off

  module _ (w : size_of_min_plus_peers_max b ≤ b.initiator.settings.t_off) where
    gets_est_is : gets_est b ≡ left_by (sending (end b) (check_tail 1) (initiator_open b)) (sent_by (gets_answ2 b)) b.out.end
    unfolding follows_of message_taken est_taken
    gets_est_is = est_judged false (ap not (le-leb (size_of_min_plus_peers_max b) b.initiator.settings.t_off w))

    gets_end_is : gets_end b ≡ left_by (kept 0 0 (responder_open b)) (sent_by (gets_est b)) b.out.last
    unfolding follows_of message_taken end_taken
    gets_end_is = end_judged 1 (lit≤ tt) (sending (end b) (check_tail 1) (initiator_open b)) gets_est_is refl

    both_open : BothOpen b
    both_open =
        record {
          before = up_to_est;
          gets_est_lem = rw gets_est_is (record {
            number = refl;
            not_released = refl;
            written = (totals (end b) (check_tail 1) (sent_by (gets_answ2 b))).4 refl;
          });
          gets_end_lem = rw gets_end_is (record { number = refl; not_released = refl; written = refl });
          initiator = rw gets_est_is (record { phase = refl; min = refl; max = refl });
          responder = rw gets_end_is (record { phase = refl; min = refl; max = refl });
        }

  -- ---- offsets beyond T_off

  module _ (w : b.initiator.settings.t_off < size_of_min_plus_peers_max b) where
    est_refused : gets_est b ≡ left_by (refusing (sent_answ2 b) b.i4 (est b)) (sent_by (gets_answ2 b)) b.out.end
    unfolding follows_of refusing
    est_refused = est_judged true (ap not (lt-leb (size_of_min_plus_peers_max b) b.initiator.settings.t_off w))

    end_refused : gets_end b ≡ left_by (released 209 0) (sent_by (gets_est b)) b.out.last
    unfolding follows_of refusing
    end_refused = end_judged 0 (lit≤ tt) (refusing (sent_answ2 b) b.i4 (est b)) est_refused refl

    both_released : BothReleased b
    unfolding refusing
    both_released =
        record {
          before = up_to_est;
          gets_est_lem = rw est_refused (record {
            number = refl;
            released = refl;
            written = (totals (end b) (check_tail 0) (sent_by (gets_answ2 b))).4 refl;
          });
          gets_end_lem = rw end_refused (record { number = refl; released = refl; written = refl });
        }

-- joined, with offsets within T_off, two boxes of ours open
pub two_boxes_open : TwoBoxesOpen
two_boxes_open b j w = both_open b j w

-- with offsets beyond it they do not
pub two_boxes_release : TwoBoxesRelease
two_boxes_release b j w = both_released b j w

pub size_is_of_waits : SizeIsOfWaits
size_is_of_waits b j =
    ap nat_abs
    (difference_of_waits b.i1.0 b.i2.0 b.r1.0 b.r3.0
    (omega (arith, j.in_time_for_answ2, (in_range b.responder.settings j.responder.in_range).t_start))
    (omega (arith, j.in_time_for_answ1, (in_range b.initiator.settings j.initiator.in_range).t_start)))

-- the size of a difference is at most the larger number
less_size : (a b t : ℕ) → a ≤ t → b ≤ t → nat_abs (pos a -ℤ pos b) ≤ t
less_size a b t h k =
    rw (less_pos a b)
    (cond_both (ltb a b) (negsuc (b - suc a)) (pos (a - b)) (λ z. nat_abs z ≤ t) (λ l. omega (arith, ltb→lt a b l)) (λ _. omega arith))

pub two_boxes_open_in_time : TwoBoxesOpenInTime
two_boxes_open_in_time b j h k =
    two_boxes_open b j
    (rw (size_is_of_waits b j)
    (less_size (wait_of b.r3.0 b.r1.0) (wait_of b.i2.0 b.i1.0) b.initiator.settings.t_off
    (omega (arith, j.in_time_for_answ2)) (omega (arith, j.in_time_for_answ1))))

-- ---- the worked pair

worked_joined : (t-off : ℕ) → t-off ≤ 60000 → Joined (worked t-off)
unfolding out_of_range ◌outside◌to◌ goes_back wait_of wrapped centred modulo
worked_joined t-off l =
    record {
      initiator = record { slot_closed = refl; in_range = rw (le-ltb 60000 t-off l, le-ltb t-off 0 (omega arith)); first = lit< tt; period = lit< tt };
      responder = record { slot_closed = refl; in_range = refl; first = lit< tt; period = lit< tt };
      i1 = lit< tt;
      r1 = lit< tt;
      i2 = lit< tt;
      r3 = lit< tt;
      i4 = lit< tt;
      responder_first = refl;
      in_time_for_answ1 = lit< tt;
      in_time_for_answ2 = lit< tt;
      in_time_for_est = lit< tt;
      in_time_for_end = lit< tt;
      room_for_start = lit≤ tt;
      room_for_answ1 = lit≤ tt;
      room_for_answ2 = lit≤ tt;
      room_for_est = lit≤ tt;
      room_for_end = lit≤ tt;
      room_at_last = lit≤ tt;
    }

pub worked_pair : WorkedPair
unfolding wrapped centred modulo
worked_pair =
    record {
      initiator_min_lem = refl;
      initiator_max_lem = refl;
      responder_min_lem = refl;
      responder_max_lem = refl;
      at_20 = two_boxes_open (worked 20) (worked_joined 20 (lit≤ tt)) (lit≤ tt);
      at_19 = two_boxes_release (worked 19) (worked_joined 19 (lit≤ tt)) (lit< tt);
    }
