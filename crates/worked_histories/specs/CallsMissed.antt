-- Four premises of demand 3 missed one at a time: the record, the set-up's beginning, the taking and the message reported.
-- That is, the record that a call gets, that no message is taken before it is sent, and that a report is of a message of ours on this
-- connection. The set-up is the initiator's, with E 10 and T_max 200.
use Rattle.std.specs.Prelude.{ℕ, ◌-◌, ◌≡◌, List, [], ◌∷◌, pos, neg_ℤ}
use Rattle.message.specs.Read.{message_header_of}
use Rattle.connection.specs.declared.Connection.{Connection}
use Rattle.calls.specs.Calls.{initiator}
use Rattle.true_age.specs.Clocks.{World, InBand, count_of}
use Rattle.true_age.specs.History.{History}
use Rattle.worked_histories.specs.Worlds.{DoesNotRunBack, StaysInBand, arrivals, world_of, initiators, responders, gaining}
use Rattle.worked_histories.specs.Histories.{
  Place,
  begin,
  receive,
  Common,
  common_of,
  Numbers,
  numbers_of,
  Judges,
  Claimed,
  truly◌tells◌answers◌between◌and◌,
}
use Rattle.worked_histories.specs.SetUp.{est, to_initiator, at_initiator, our_start, initiator_awaits2, initiator_open}
use Rattle.worked_histories.specs.Initiator.{settings200, band0}

-- ---- each call gets the record that the one before left

-- OffsetAnsw1 of another neighbour, whose clock reads 100 less: number 20, stamp 100, echo 1000, arrived at 70, period 50
abbrev pub anothers_answ1 : List ℕ
anothers_answ1 =
    0x02 ∷ 0x00 ∷ 0x14
    ∷ 0x00 ∷ 0x00 ∷ 0x00 ∷ 0x64
    ∷ 0x00 ∷ 0x00 ∷ 0x03 ∷ 0xE8
    ∷ 0x00 ∷ 0x00 ∷ 0x00 ∷ 0x46
    ∷ 0x00 ∷ 0x00 ∷ 0x00 ∷ 0x32 ∷ []

-- its OffsetEst: number 21, stamp 145, echo 1080, arrived at 140, min -980, max -940
abbrev pub anothers_est : List ℕ
anothers_est =
    0x04 ∷ 0x00 ∷ 0x15
    ∷ 0x00 ∷ 0x00 ∷ 0x00 ∷ 0x91
    ∷ 0x00 ∷ 0x00 ∷ 0x04 ∷ 0x38
    ∷ 0x00 ∷ 0x00 ∷ 0x00 ∷ 0x8C
    ∷ 0x01 ∷ 0x00 ∷ 0x00 ∷ 0x03 ∷ 0xD4
    ∷ 0x01 ∷ 0x00 ∷ 0x00 ∷ 0x03 ∷ 0xAC ∷ []

module _ (runs : DoesNotRunBack responders) where
  -- the record of that neighbour's slot: min 930
  abbrev pub anothers_open : Connection
  anothers_open =
      (receive (at_initiator responders runs)
      (receive (at_initiator responders runs) (initiator_awaits2 responders runs settings200) 1080 anothers_answ1) 1110 anothers_est).c

-- stamp 300, sent at 1150
abbrev pub mixed_message : List ℕ
mixed_message = to_initiator 22 0x01 0x2C

-- on the record that the call before left, and on the other neighbour's:
abbrev pub left_numbers : Numbers
left_numbers = truly 250 tells pos 280 answers 205 between pos 280 and pos 280

abbrev pub mixed_numbers : Numbers
mixed_numbers = truly 250 tells pos 180 answers 0 between pos 280 and pos 280

-- a message truly 250 ticks old is handed up, where 170 may pass
pub record AnotherRecord : Type 0 where
  pub runs : DoesNotRunBack responders
  pub band : StaysInBand (at_initiator responders runs) 1000 0
  -- all is as supposed of a receive on the record that the call before left, and the answer is 205
  pub message : Judges (at_initiator responders runs) 1000 1000 initiator settings200 (initiator_open responders runs settings200) 1150 1400
      mixed_message band0 left_numbers
  -- the receive gets the other neighbour's record
  pub record_missed : ¬ (anothers_open runs ≡ (initiator_open responders runs settings200).c)
  pub numbers_are : numbers_of (at_initiator responders runs) band0 (anothers_open runs) 1150 1400 mixed_message
      ≡ mixed_numbers
  pub claim_fails : ¬ (Claimed settings200 (anothers_open runs) band0 mixed_numbers)

-- ---- an initiator's set-up has begun when begin writes OffsetStart

-- the peer's clock gains 20 ticks from 1000 to 1020: the difference falls from 870 to 850
abbrev pub quick_peers : ℕ → ℕ
quick_peers = gaining 1000 1020 (λ t. t - 870)

-- OffsetStart is written where the peer's clock reads 130, and arrives at 170
abbrev pub quick_band0 : Common
quick_band0 = record { e = 10; t_max_lem = 200; j = 0; d = 40; oldest = pos 150 }

-- stamp 350, sent at 1200
abbrev pub reported_message : List ℕ
reported_message = to_initiator 22 0x01 0x5E

-- sent at 1200 and taken at 1370
abbrev pub quick_numbers : Numbers
quick_numbers = truly 170 tells pos 200 answers 0 between pos 220 and pos 220

-- a message truly 170 ticks old is handed up, where 150 may pass
pub record BegunAfter : Type 0 where
  pub runs : DoesNotRunBack quick_peers
  -- the set-up is said to have begun at 1030: from there on the clocks do not drift, and every message was sent
  pub band : StaysInBand (at_initiator quick_peers runs) 1030 0
  pub answ1_since : (at_initiator quick_peers runs).early 1030 1050
  pub est_since : (at_initiator quick_peers runs).early 1030 1095
  pub message_since : (at_initiator quick_peers runs).early 1030 1200
  -- all else is as supposed; but OffsetStart was written at 1000
  pub message : Judges (at_initiator quick_peers runs) 1000 1000 initiator settings200 (initiator_open quick_peers runs settings200)
      1200 1370
      reported_message quick_band0 quick_numbers
  pub begun_missed : ¬ ((at_initiator quick_peers runs).early 1030 1000)
  pub claim_fails : ¬ (Claimed settings200 (initiator_open quick_peers runs settings200).c quick_band0 quick_numbers)

-- ---- no message is taken before it is sent

-- the peer's clock gains 1,000 ticks from 2000 to 3000: the difference falls from 850 to -150
abbrev pub drifting_peers : ℕ → ℕ
drifting_peers = gaining 2000 3000 responders

-- stamp 3150, sent at 3000
abbrev pub drifted_message : List ℕ
drifted_message = to_initiator 22 0x0C 0x4E

-- sent at 3000 and taken at 2000: the true age counts as 0
abbrev pub before_numbers : Numbers
before_numbers = truly 0 tells neg_ℤ (pos 1970) answers 206 between pos 30 and pos 30

-- what is sent at 3000 is taken at 2000, before the clocks drift
pub record TakenBeforeSent : Type 0 where
  pub runs : DoesNotRunBack drifting_peers
  pub band : InBand (at_initiator drifting_peers runs) 1000 2000 0
  pub history : History (at_initiator drifting_peers runs) 1000 initiator settings200
      (initiator_open drifting_peers runs settings200).log 1110 (initiator_open drifting_peers runs settings200).c
  pub next : (at_initiator drifting_peers runs).early 1110 2000
  pub since : (at_initiator drifting_peers runs).early 1000 3000
  pub stamped : (message_header_of drifted_message).stamp ≡ count_of (drifting_peers 3000)
  pub onward_missed : ¬ ((at_initiator drifting_peers runs).early 3000 2000)
  pub common_is : common_of (at_initiator drifting_peers runs) settings200 0 (our_start drifting_peers runs) ≡ band0
  pub numbers_are : numbers_of (at_initiator drifting_peers runs) band0 (initiator_open drifting_peers runs settings200).c 3000 2000
      drifted_message ≡ before_numbers
  pub claim_fails : ¬ (Claimed settings200 (initiator_open drifting_peers runs settings200).c band0 before_numbers)

-- ---- a report is of a message of ours on this connection

module _ (first : ℕ) where
  -- the world as an OffsetAnsw1 reports it: OffsetStart arrives at this moment
  abbrev pub as_reported : DoesNotRunBack responders → World
  as_reported runs = world_of initiators responders (arrivals first 1090 1120) (λ t u h. h) runs

  -- the begin in it
  abbrev pub begin_as_reported : (runs : DoesNotRunBack responders) → Place (as_reported runs)
  begin_as_reported runs = begin (as_reported runs) initiator settings200 7 50 1000

  -- open, with that OffsetAnsw1
  abbrev pub open_as_reported : List ℕ → (runs : DoesNotRunBack responders) → Place (as_reported runs)
  open_as_reported reports runs = receive (as_reported runs) (receive (as_reported runs) (begin_as_reported runs) 1080 reports) 1110 est

-- OffsetAnsw1 as in the set-up, but it reports that OffsetStart arrived at 155
abbrev pub earliers_answ1 : List ℕ
earliers_answ1 =
    0x02 ∷ 0x00 ∷ 0x14
    ∷ 0x00 ∷ 0x00 ∷ 0x00 ∷ 0xC8
    ∷ 0x00 ∷ 0x00 ∷ 0x03 ∷ 0xE8
    ∷ 0x00 ∷ 0x00 ∷ 0x00 ∷ 0x9B
    ∷ 0x00 ∷ 0x00 ∷ 0x00 ∷ 0x32 ∷ []

-- in the world as reported:
abbrev pub earliers_band0 : Common
earliers_band0 = record { e = 10; t_max_lem = 200; j = 0; d = 5; oldest = pos 185 }

abbrev pub earliers_numbers : Numbers
earliers_numbers = truly 185 tells pos 200 answers 0 between pos 200 and pos 200

-- in the true one, where d is 20
abbrev pub on_this_numbers : Numbers
on_this_numbers = truly 185 tells pos 200 answers 0 between pos 215 and pos 215

-- The slot was begun, closed and begun again in one tick, so that two connections wrote the same OffsetStart: the first one's arrived at
-- 1005, this one's at 1020. A message truly 185 ticks old is handed up, where 170 may pass.
pub record ReportOfAnother : Type 0 where
  pub runs : DoesNotRunBack responders
  pub band : StaysInBand (as_reported 1005 runs) 1000 0
  -- the first one's arrival is reported truthfully, and its stamp is echoed
  pub reported : (message_header_of earliers_answ1).arrival ≡ count_of (responders 1005)
  pub echoes : (message_header_of earliers_answ1).last_peer_stamp ≡ (our_start responders runs).header.stamp
  -- all is as supposed in the world where this one's arrived then
  pub message : Judges (as_reported 1005 runs) 1000 1000 initiator settings200 (open_as_reported 1005 earliers_answ1 runs) 1200 1385
      reported_message earliers_band0 earliers_numbers
  pub of_ours_missed : ¬ ((message_header_of earliers_answ1).arrival ≡ count_of (responders ((at_initiator responders runs).arrived 0)))
  pub common_is : common_of (at_initiator responders runs) settings200 0 (our_start responders runs) ≡ band0
  pub numbers_are : numbers_of (at_initiator responders runs) band0 (open_as_reported 1005 earliers_answ1 runs).c 1200 1385
      reported_message ≡ on_this_numbers
  pub claim_fails : ¬ (Claimed settings200 (open_as_reported 1005 earliers_answ1 runs).c band0 on_this_numbers)
