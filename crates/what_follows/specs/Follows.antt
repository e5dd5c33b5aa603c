-- What the peer's message does to a connection: what follows each of the peer's faults, and a message that is taken.
use Rattle.std.specs.Prelude.{ℕ, ◌+◌, Bool, true, false, ◌&&◌, leb, eqb, pos, ◌-ℤ◌, Option, Some, None}
use Rattle.rules.specs.Rows.{when◌answer◌else◌}
use Rattle.clock.specs.Clock.{centred, no_age}
use Rattle.clock.specs.declared.Age.{Age}
use Rattle.clock.specs.declared.Count.{Count}
use Rattle.clock.specs.declared.Offset.{Offset}
use Rattle.message.specs.Table.{offset_start, offset_answ1, offset_answ2, offset_est, offset_end}
use Rattle.message.specs.Layout.{period_tail, empty_tail, offsets_tail, check_tail, whole}
use Rattle.message.specs.declared.Header.{Header}
use Rattle.message.specs.declared.Tail.{Tail}
use Rattle.message.specs.declared.Message.{Message}
use Rattle.connection.specs.declared.Connection.{Connection}
use Rattle.connection.specs.Connection.{
  initiator_waits_for4,
  responder_waits_for3,
  responder_waits_for5,
  opened,
  no_count,
  all_zero,
  clocked,
  counted,
  heard,
  sent,
  waiting,
  with_offsets,
}
use Rattle.peer_faults.specs.declared.Expectation.{Expectation}
use Rattle.peer_faults.specs.declared.Expectation.TheVariants.{Expected, Unexpected, Released}
use Rattle.peer_faults.specs.declared.Fault.{Fault}
use Rattle.peer_faults.specs.Faults.{expectation_of, fault_of}
use Rattle.what_follows.specs.declared.Outcome.{Outcome}

-- ---- what a call can come to

-- every outcome is made here, of its parts in their order; AGE-8: none reports an age but by `reporting`
abbrev pub comes_to : ℕ → Bool → ℕ → Option Message → Connection → Outcome
comes_to k released delivered reply next =
    record { number = k; released = released; delivered = delivered; age = no_age; reply = reply; next = next }

-- AGE-7: the same outcome, with an age that is reported
abbrev pub reporting : Age → Outcome → Outcome
reporting age o =
    record { number = o.number; released = o.released; delivered = o.delivered; age = age; reply = o.reply; next = o.next }

-- the connection goes on, with so many bytes delivered
abbrev pub kept : ℕ → ℕ → Connection → Outcome
kept k delivered next = comes_to k false delivered None next

-- RECORD-3: the slot is released
abbrev pub released : ℕ → ℕ → Outcome
released k delivered = comes_to k true delivered None all_zero

-- a message is sent
abbrev pub sending : Header → Tail → Connection → Outcome
sending h t next = comes_to 0 false 0 (Some (whole h t)) next

-- ---- 201

-- PEER-201: MSG-201 ends the call here; PEER-OPEN when open, SETUP-ERR in set-up
unfoldable pub malformed_of : Connection → Count → Outcome
malformed_of c now =
    when eqb c.phase opened answer kept 201 0 (clocked c now) else
    released 201 0

-- ---- a message that is taken

-- OFFSET-1: own minus peer
abbrev pub offset_between : Count → Count → Offset
offset_between own peer = record { 0 = centred (pos own.0 -ℤ pos peer.0) }

-- OFFSET-2, OFFSET-3: our message's stamp minus its arrival (I1-R1, R2-I2), which the peer reports (OFFSET-4)
abbrev pub min_of : Connection → Header → Offset
min_of c h = offset_between c.wait_start h.arrival

-- OFFSET-2, OFFSET-3: the arrival of the peer's message minus its stamp (I2-R2, R3-I3)
abbrev pub max_of : Count → Header → Offset
max_of now h = offset_between now h.stamp

-- SETUP-STAMP: stamp and arrival are now; ECHO-1: it echoes the stamp of the message that it answers
abbrev pub reply_header : ℕ → Connection → Count → Header → Header
reply_header type c now h = record { kind = type; number = c.own.number; stamp = now; last_peer_stamp = h.stamp; arrival = now }

-- taken and answered; WAIT-1: the wait for the next begins now
abbrev pub answered : Connection → Count → Header → ℕ → Connection
answered c now h phase = waiting (sent (heard (clocked c now) h now)) phase now

-- SETUP-2: OffsetStart, arrived R1; OffsetAnsw1 is sent at R2 = R1
unfoldable pub start_taken : Connection → Count → Header → Outcome
start_taken c now h = sending (reply_header offset_answ1 c now h) (period_tail c.own.period) (answered c now h responder_waits_for3)

-- SETUP-3: OffsetAnsw1, arrived I2; OffsetAnsw2 is sent at I3 = I2. OFFSET-2.
unfoldable pub answ1_taken : Connection → Count → Header → Outcome
answ1_taken c now h =
    sending (reply_header offset_answ2 c now h) empty_tail
    (with_offsets (answered c now h initiator_waits_for4) (min_of c h) (max_of now h))

-- SETUP-4: OffsetAnsw2, arrived R3; OffsetEst carries the offsets. OFFSET-3.
unfoldable pub answ2_taken : Connection → Count → Header → Outcome
answ2_taken c now h =
    sending (reply_header offset_est c now h) (offsets_tail (min_of c h) (max_of now h))
    (with_offsets (answered c now h responder_waits_for5) (min_of c h) (max_of now h))

-- SETUP-5, EST-OPEN: OffsetEnd 1, and open
unfoldable pub est_taken : Connection → Count → Header → Outcome
est_taken c now h = sending (reply_header offset_end c now h) (check_tail 1) (waiting (sent (heard (clocked c now) h now)) opened no_count)

-- END-1: OffsetEnd 1, and the responder is open
unfoldable pub end_taken : Connection → Count → Header → Outcome
end_taken c now h = kept 0 0 (waiting (heard (clocked c now) h now) opened no_count)

-- AGE-4: delivered, also where there is no data (CALL-TYPE6); ERR-4: the error counter is 0
unfoldable pub data_taken : Connection → Count → Header → Tail → Outcome
data_taken c now h t = kept 0 t.«data» (counted (heard (clocked c now) h now) 0)

-- a message that has no fault, by its type
unfoldable pub message_taken : Connection → Count → Header → Tail → Outcome
message_taken c now h t =
    when eqb h.kind offset_start answer start_taken c now h else
    when eqb h.kind offset_answ1 answer answ1_taken c now h else
    when eqb h.kind offset_answ2 answer answ2_taken c now h else
    when eqb h.kind offset_est answer est_taken c now h else
    when eqb h.kind offset_end answer end_taken c now h else
    data_taken c now h t

-- ---- what follows a fault

-- SETUP-5, EST-209: OffsetEnd 0, and released
unfoldable pub refusing : Connection → Count → Header → Outcome
refusing c now h = comes_to 209 true 0 (Some (whole (reply_header offset_end c now h) (check_tail 0))) all_zero

-- ERR-1: raised by one; ERR-2: the limit releases. No other counter is there (SHUT-5).
unfoldable pub raised : Connection → ℕ → ℕ → Outcome
raised c k delivered =
    when leb c.settings.limit (c.errors + 1) answer released k delivered else
    kept k delivered (counted c (c.errors + 1))

-- when open: 202 moves the clock alone (ERR-5), 203 releases (PEER-203). With any other, d is 1 to N, and the message is remembered
-- whatever its age (ERR-6): a 204, which is delivered (PEER-204, ERR-3), and a 206 or a 205, which is not. ERR-1 of all but 203.
unfoldable pub open_follows_of : Connection → Count → Header → Tail → ℕ → Outcome
open_follows_of c now h t fault =
    when eqb fault 202 answer raised (clocked c now) 202 0 else
    when eqb fault 203 answer released 203 0 else
    when eqb fault 204 answer raised (heard (clocked c now) h now) 204 t.«data» else
    raised (heard (clocked c now) h now) fault 0

-- SETUP-ERR: released; SETUP-209: nothing is written but by the initiator's 209
unfoldable pub follows_of : Connection → Count → Header → Tail → ℕ → Outcome
follows_of c now h t fault =
    when eqb fault 0 answer message_taken c now h t else
    when eqb c.phase opened answer open_follows_of c now h t fault else
    when eqb c.phase initiator_waits_for4 && eqb fault 209 answer refusing c now h else
    released fault 0

-- ---- the step

-- AGE-7: what follows a fault's number, with the fault's age
abbrev pub judged_by : Connection → Count → Header → Tail → Fault → Outcome
judged_by c now h t fault = reporting fault.age (follows_of c now h t fault.number)

-- PEER-211: kept when open (PEER-OPEN), released in set-up (SETUP-ERR). FORM-10, of `Expectation`.
abbrev pub met_of : Connection → Count → Header → Tail → Expectation → Outcome
met_of c now h t Expected = judged_by c now h t (fault_of c now h t)
met_of c now h t Unexpected = kept 211 0 (clocked c now)
met_of c now h t Released = released 211 0

-- PEER-ORDER: 201, 211, then the rest. FORM-10, of the message as parsed.
unfoldable pub step_of : Connection → Count → Option Message → Outcome
step_of c now None = malformed_of c now
step_of c now (Some m) = met_of c now m.header m.tail (expectation_of c.phase m.header.kind)
