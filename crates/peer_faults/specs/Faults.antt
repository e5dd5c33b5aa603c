-- The peer's faults of one message, in PEER-ORDER's order from 211 on.
use Rattle.std.specs.Prelude.{ℕ, Bool, not, ◌&&◌, ◌||◌, ltb, leb, eqb, ℤ, pos, nat_abs, ◌+ℤ◌, ◌-ℤ◌}
use Rattle.std.specs.Int.Signed.{lt_z}
use Rattle.rules.specs.Rows.{when◌answer◌else◌}
use Rattle.clock.specs.Clock.{centred, age_of, no_age, verdict_of, verdict_number}
use Rattle.clock.specs.declared.Age.{Age}
use Rattle.clock.specs.declared.Count.{Count}
use Rattle.number.specs.Number.{distance_of, behind_from}
use Rattle.message.specs.Table.{offset_start, offset_answ1, offset_answ2, offset_est, offset_end, application}
use Rattle.message.specs.declared.Header.{Header}
use Rattle.message.specs.declared.Tail.{Tail}
use Rattle.connection.specs.declared.Connection.{Connection}
use Rattle.connection.specs.Connection.{
  initiator_waits_for2,
  initiator_waits_for4,
  responder_waits_for1,
  responder_waits_for3,
  responder_waits_for5,
  opened,
}
use Rattle.peer_faults.specs.declared.Expectation.{Expectation}
use Rattle.peer_faults.specs.declared.Expectation.TheVariants.{Expected, Unexpected, Released}
use Rattle.peer_faults.specs.declared.TimeCheck.{TimeCheck}
use Rattle.peer_faults.specs.declared.Fault.{Fault}

-- PEER-211: each phase from PHASE-1 to PHASE-6 expects one type
unfoldable pub expectation_of : ℕ → ℕ → Expectation
expectation_of phase type =
    when eqb phase initiator_waits_for2 && eqb type offset_answ1 answer Expected else
    when eqb phase initiator_waits_for4 && eqb type offset_est answer Expected else
    when eqb phase responder_waits_for1 && eqb type offset_start answer Expected else
    when eqb phase responder_waits_for3 && eqb type offset_answ2 answer Expected else
    when eqb phase responder_waits_for5 && eqb type offset_end answer Expected else
    when eqb phase opened && eqb type application answer Expected else
    when eqb phase opened answer Unexpected else
    Released

-- ---- the numbers, the echo, the clock check and the age

-- PEER-FIRST: type 1 comes first at the responder, type 2 at the initiator
unfoldable pub number_judged : ℕ → Bool
number_judged type = ltb offset_answ1 type

-- PEER-202: d = 0, or from 32768 on
unfoldable pub not_ahead : ℕ → ℕ → Bool
not_ahead type d = number_judged type && (eqb d 0 || leb behind_from d)

-- PEER-203: d > N
unfoldable pub beyond_n : ℕ → ℕ → ℕ → Bool
beyond_n type d n = number_judged type && ltb n d

-- PEER-204: 2 <= d; it is <= N by the row of 203
unfoldable pub gap : ℕ → ℕ → Bool
gap type d = number_judged type && leb 2 d

-- PEER-208: a type 2, 3, 4 or 5 that does not echo our stamp (ECHO-1); SLIP-4 is to take a type 2 without it
unfoldable pub wrong_echo : ℕ → ℕ → ℕ → Bool
wrong_echo type echo stamp = leb offset_answ1 type && leb type offset_end && not (eqb echo stamp)

-- EST-1: max and the peer's min cancel; EST-2: max is not below min; EST-3: min and the peer's max cancel to within T_off; a line each
unfoldable pub accepts : ℤ → ℤ → ℤ → ℤ → ℕ → Bool
accepts min max peer-min peer-max t-off =
    eqb (nat_abs (centred (max +ℤ peer-min))) 0
    && not (lt_z (centred (max -ℤ min)) (pos 0))
    && leb (nat_abs (centred (min +ℤ peer-max))) t-off

-- PEER-209: the initiator's EST-209 on OffsetEst, the responder's END-0 on OffsetEnd
unfoldable pub check_failed : Connection → ℕ → Tail → Bool
check_failed c type t =
    eqb type offset_est && not (accepts c.offsets.min.0 c.offsets.max.0 t.min.0 t.max.0 c.settings.t_off)
    || eqb type offset_end && eqb t.check 0

-- AGE-1: the age by which a message is judged, and of which DEMAND-3 speaks (OPEN-3); the record has E and min. SLIP-1 is to take the max.
abbrev pub message_age : Connection → Count → Header → ℤ
message_age c now h = age_of now.0 h.stamp.0 c.settings.e c.offsets.min.0

-- AGE-7: an age, and the verdict on it
abbrev pub checked_by : ℕ → ℤ → TimeCheck
checked_by t_max_lem age = record { age = record { 0 = age }; verdict = verdict_of age t_max_lem }

-- AGE-7: the time check of a message
abbrev pub time_check_of : Connection → Count → Header → TimeCheck
time_check_of c now h = checked_by c.settings.t_max (message_age c now h)

-- a fault's number, with an age
abbrev pub fault_with : ℕ → Age → Fault
fault_with k age = record { number = k; age = age }

-- PEER-206, PEER-205: the number of the verdict on the age (AGE-2, AGE-3), with the age; of a type 6 alone (AGE-1)
unfoldable pub age_fault : Connection → Count → Header → Fault
age_fault c now h =
    when eqb h.kind application answer fault_with (verdict_number (time_check_of c now h).verdict) (time_check_of c now h).age else
    fault_with 0 no_age

-- PEER-ORDER from 202 on, of a message that is expected; 0 where there is no fault. In set-up the same rows judge (PEER-SETUP). The number
-- comes before the age (SLIP-3), and d is taken mod 65536 (SLIP-2).
unfoldable pub fault_number : Connection → Count → Header → Tail → ℕ
fault_number c now h t =
    when not_ahead h.kind (distance_of h.number c.peer.number) answer 202 else
    when beyond_n h.kind (distance_of h.number c.peer.number) c.settings.n answer 203 else
    when wrong_echo h.kind h.last_peer_stamp.0 c.wait_start.0 answer 208 else
    when check_failed c h.kind t answer 209 else
    when eqb (age_fault c now h).number 206 answer 206 else
    when eqb (age_fault c now h).number 205 answer 205 else
    when gap h.kind (distance_of h.number c.peer.number) answer 204 else
    0

-- AGE-7: the numbers with which an age is reported
unfoldable pub reports_age : ℕ → Bool
reports_age k = eqb k 0 || eqb k 204 || eqb k 205 || eqb k 206

-- AGE-7, AGE-8: the age that is reported with the number k
unfoldable pub age_with : Connection → Count → Header → ℕ → Age
age_with c now h k =
    when reports_age k answer (age_fault c now h).age else
    no_age

-- PEER-ORDER, AGE-7: the first fault, with the age that is reported with it
abbrev pub fault_of : Connection → Count → Header → Tail → Fault
fault_of c now h t = fault_with (fault_number c now h t) (age_with c now h (fault_number c now h t))
