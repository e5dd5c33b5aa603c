-- Two boxes of ours, joined by links that lose nothing: what each gets are the very bytes that the other's call wrote.
use Rattle.std.specs.Prelude.{ℕ, ◌^◌, ◌<◌, ◌≤◌, ◌≡◌, true, false, List, [], pos, neg_ℤ, nat_abs, ◌+ℤ◌, ◌-ℤ◌, length, take, replicate}
use Rattle.clock.specs.Clock.{centred, goes_back, wait_of}
use Rattle.clock.specs.declared.Count.{Count}
use Rattle.clock.specs.declared.Offset.{Offset}
use Rattle.message.specs.Table.{header_size, start_size, est_size, end_size}
use Rattle.connection.specs.declared.Settings.{Settings}
use Rattle.connection.specs.declared.Connection.{Connection}
use Rattle.connection.specs.Connection.{closed, opened, out_of_range, all_zero}
use Rattle.what_follows.specs.Follows.{offset_between}
use Rattle.calls.specs.declared.Given.{Given}
use Rattle.calls.specs.declared.Call.{Call}
use Rattle.calls.specs.declared.Answer.{Answer}
use Rattle.calls.specs.Calls.{initiator, responder, given, Leaves, made}

-- ---- two boxes, the counts of their calls, and the out buffers

-- a box: the record of its slot, and what its begin is given
pub record Box : Type 0 where
  pub slot : Connection
  pub settings : Settings
  pub first : ℕ
  pub period : ℕ

-- the out buffers lent to the calls, with any bytes in them: each is named by what is sent from it
pub record Buffers : Type 0 where
  pub start : List ℕ
  pub answ1 : List ℕ
  pub answ2 : List ℕ
  pub est : List ℕ
  pub end : List ℕ
  -- from these nothing is sent: the responder's begin, and its receive of OffsetEnd
  pub waits : List ℕ
  pub last : List ℕ

-- two boxes, and when each of their calls is made
pub record Boxes : Type 0 where
  pub initiator : Box
  pub responder : Box
  -- the initiator begins at I1; the responder begins at R0
  pub i1 : Count
  pub r0 : Count
  -- OffsetStart arrives at R1, OffsetAnsw1 at I2, OffsetAnsw2 at R3, OffsetEst at I4, OffsetEnd at R5; a reply of ours is sent at once
  pub r1 : Count
  pub i2 : Count
  pub r3 : Count
  pub i4 : Count
  pub r5 : Count
  pub out : Buffers

-- ---- the seven calls, each on the record that the box's call before left

-- what a box's begin is given, in its role
abbrev pub given_to : Box → ℕ → Given
given_to x role = given role x.settings x.first x.period

-- what a call says
abbrev pub said_by : Leaves → Answer
said_by x = x.called.answer

-- the record that it leaves
abbrev pub slot_after : Leaves → Connection
slot_after x = x.called.next

-- the bytes that it wrote at the start of its out buffer
abbrev pub sent_by : Leaves → List ℕ
sent_by x = take (said_by x).written x.out

module _ (b : Boxes) where
  -- the initiator begins at I1
  unfoldable pub begins : Leaves
  begins = made (Call.Begin (given_to b.initiator initiator)) b.initiator.slot b.i1 [] b.out.start

  -- the responder begins at R0
  unfoldable pub waits : Leaves
  waits = made (Call.Begin (given_to b.responder responder)) b.responder.slot b.r0 [] b.out.waits

  -- OffsetStart arrives at R1
  unfoldable pub gets_start : Leaves
  gets_start = made Call.Receive (slot_after waits) b.r1 (sent_by begins) b.out.answ1

  -- OffsetAnsw1 arrives at I2
  unfoldable pub gets_answ1 : Leaves
  gets_answ1 = made Call.Receive (slot_after begins) b.i2 (sent_by gets_start) b.out.answ2

  -- OffsetAnsw2 arrives at R3
  unfoldable pub gets_answ2 : Leaves
  gets_answ2 = made Call.Receive (slot_after gets_start) b.r3 (sent_by gets_answ1) b.out.est

  -- OffsetEst arrives at I4
  unfoldable pub gets_est : Leaves
  gets_est = made Call.Receive (slot_after gets_answ1) b.i4 (sent_by gets_answ2) b.out.end

  -- OffsetEnd arrives at R5
  unfoldable pub gets_end : Leaves
  gets_end = made Call.Receive (slot_after gets_answ2) b.r5 (sent_by gets_est) b.out.last

-- ---- the offsets, own minus peer, with R2 = R1 and I3 = I2

-- OFFSET-2: initiator min = I1-R1
abbrev pub initiator_min : Boxes → Offset
initiator_min b = offset_between b.i1 b.r1

-- OFFSET-2: initiator max = I2-R2
abbrev pub initiator_max : Boxes → Offset
initiator_max b = offset_between b.i2 b.r1

-- OFFSET-3: responder min = R2-I2
abbrev pub responder_min : Boxes → Offset
responder_min b = offset_between b.r1 b.i2

-- OFFSET-3: responder max = R3-I3
abbrev pub responder_max : Boxes → Offset
responder_max b = offset_between b.r3 b.i2

-- EST-3: what the initiator holds against its T_off
abbrev pub size_of_min_plus_peers_max : Boxes → ℕ
size_of_min_plus_peers_max b = nat_abs (centred ((initiator_min b).0 +ℤ (responder_max b).0))

-- ---- what is asked

-- a box that can begin: its slot is closed, its settings are in range, its first number and period are those of the machine
pub record CanBegin (x : Box) : Type 0 where
  pub slot_closed : x.slot.phase ≡ closed
  pub in_range : out_of_range x.settings ≡ false
  pub first : x.first < 2 ^ 16
  pub period : x.period < 2 ^ 32

-- Both boxes can begin, delays and reply times are within T_start, and the out buffers have room. Counts and numbers may wrap. That no
-- clock goes back within the exchange need not be asked: a wait under T_start is under 60,000 ticks.
pub record Joined (b : Boxes) : Type 0 where
  pub initiator : CanBegin b.initiator
  pub responder : CanBegin b.responder
  -- counts have 32 bits
  pub i1 : b.i1.0 < 2 ^ 32
  pub r1 : b.r1.0 < 2 ^ 32
  pub i2 : b.i2.0 < 2 ^ 32
  pub r3 : b.r3.0 < 2 ^ 32
  pub i4 : b.i4.0 < 2 ^ 32
  -- the responder begins before OffsetStart arrives: its clock does not go back (KIND-4)
  pub responder_first : goes_back b.r1.0 b.r0.0 ≡ false
  -- no wait expires (WAIT-1)
  pub in_time_for_answ1 : wait_of b.i2.0 b.i1.0 < b.initiator.settings.t_start
  pub in_time_for_answ2 : wait_of b.r3.0 b.r1.0 < b.responder.settings.t_start
  pub in_time_for_est : wait_of b.i4.0 b.i2.0 < b.initiator.settings.t_start
  pub in_time_for_end : wait_of b.r5.0 b.r3.0 < b.responder.settings.t_start
  -- room in the out buffers: for OffsetStart at the initiator's begin, none at the responder's, for OffsetEst at each receive
  pub room_for_start : start_size ≤ length b.out.start
  pub room_for_answ1 : est_size ≤ length b.out.answ1
  pub room_for_answ2 : est_size ≤ length b.out.answ2
  pub room_for_est : est_size ≤ length b.out.est
  pub room_for_end : est_size ≤ length b.out.end
  pub room_at_last : est_size ≤ length b.out.last

-- ---- what is promised

-- a call answers 0, its slot is not released, and it wrote so many bytes at the start of its out buffer
pub record Succeeds (a : Answer) (size : ℕ) : Type 0 where
  pub number : a.number ≡ 0
  pub not_released : a.released ≡ false
  pub written : a.written ≡ size

-- the record is open, with these offsets
pub record OpenWith (least most : Offset) (c : Connection) : Type 0 where
  pub phase : c.phase ≡ opened
  pub min : c.offsets.min ≡ least
  pub max : c.offsets.max ≡ most

-- a call answers 209 and its slot is released, and it wrote so many bytes
pub record FailsCheck (a : Answer) (size : ℕ) : Type 0 where
  pub number : a.number ≡ 209
  pub released : a.released ≡ true
  pub written : a.written ≡ size

-- up to OffsetEst: messages 1 to 4 are sent
pub record UpToEst (b : Boxes) : Type 0 where
  pub begins : Succeeds (said_by (begins b)) start_size
  pub waits : Succeeds (said_by (waits b)) 0
  pub gets_start_lem : Succeeds (said_by (gets_start b)) start_size
  pub gets_answ1_lem : Succeeds (said_by (gets_answ1 b)) header_size
  pub gets_answ2_lem : Succeeds (said_by (gets_answ2 b)) est_size

-- the initiator sends OffsetEnd 1, and both boxes are open
pub record BothOpen (b : Boxes) : Type 0 where
  pub before : UpToEst b
  pub gets_est_lem : Succeeds (said_by (gets_est b)) end_size
  pub gets_end_lem : Succeeds (said_by (gets_end b)) 0
  pub initiator : OpenWith (initiator_min b) (initiator_max b) (slot_after (gets_est b))
  pub responder : OpenWith (responder_min b) (responder_max b) (slot_after (gets_end b))

-- the initiator sends OffsetEnd 0, and both boxes are released
pub record BothReleased (b : Boxes) : Type 0 where
  pub before : UpToEst b
  pub gets_est_lem : FailsCheck (said_by (gets_est b)) end_size
  pub gets_end_lem : FailsCheck (said_by (gets_end b)) 0

-- joined, and EST-3 holds: both open. SHUT-1, SHUT-3: not so where a box refuses everything or never sends
abbrev pub TwoBoxesOpen : Type 0
TwoBoxesOpen = (b : Boxes) → Joined b → size_of_min_plus_peers_max b ≤ b.initiator.settings.t_off → BothOpen b

-- joined, and EST-3 does not hold: both are released
abbrev pub TwoBoxesRelease : Type 0
TwoBoxesRelease = (b : Boxes) → Joined b → b.initiator.settings.t_off < size_of_min_plus_peers_max b → BothReleased b

-- what is held against T_off is by how much the two waits differ, R3-R1 and I2-I1
abbrev pub SizeIsOfWaits : Type 0
SizeIsOfWaits =
    (b : Boxes) → Joined b → size_of_min_plus_peers_max b ≡ nat_abs (pos (wait_of b.r3.0 b.r1.0) -ℤ pos (wait_of b.i2.0 b.i1.0))

-- so where T_off is at least the T_start of both, EST-3 holds
abbrev pub TwoBoxesOpenInTime : Type 0
TwoBoxesOpenInTime =
    (b : Boxes) → Joined b → b.initiator.settings.t_start ≤ b.initiator.settings.t_off
    → b.responder.settings.t_start ≤ b.initiator.settings.t_off → BothOpen b

-- ---- a worked pair: min 830, max 910; min -910, max -850; T_off 20 opens, 19 does not

-- the initiator's first number is 65535, so that its next is 0
abbrev pub worked : ℕ → Boxes
worked t-off =
    record {
      initiator = record { slot = all_zero; settings = settings t-off; first = 65535; period = 50 };
      responder = record { slot = all_zero; settings = settings 0; first = 9; period = 50 };
      i1 = record { 0 = 1000 };
      r0 = record { 0 = 100 };
      r1 = record { 0 = 170 };
      i2 = record { 0 = 1080 };
      r3 = record { 0 = 230 };
      i4 = record { 0 = 1140 };
      r5 = record { 0 = 300 };
      out = record {
        start = replicate start_size 0;
        answ1 = replicate est_size 0;
        answ2 = replicate est_size 0;
        est = replicate est_size 0;
        end = replicate est_size 0;
        waits = [];
        last = replicate est_size 0;
      };
    }
  where
    settings : ℕ → Settings
    settings t-off = record { n = 1; t_max = 40; e = 0; t_start = 81; t_off = t-off; limit = 1 }

-- the offsets of the pair, and what it comes to with T_off 20 and 19
pub record WorkedPair : Type 0 where
  pub initiator_min_lem : (initiator_min (worked 20)).0 ≡ pos 830
  pub initiator_max_lem : (initiator_max (worked 20)).0 ≡ pos 910
  pub responder_min_lem : (responder_min (worked 20)).0 ≡ neg_ℤ (pos 910)
  pub responder_max_lem : (responder_max (worked 20)).0 ≡ neg_ℤ (pos 850)
  pub at_20 : BothOpen (worked 20)
  pub at_19 : BothReleased (worked 19)
