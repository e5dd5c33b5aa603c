-- The premises of demand 3 are missed one at a time: the others are met, and what is claimed of the message fails.
-- The set-up is the initiator's each time, with E 10 and T_max 200. Here the bound, the band, the sending, the stamp, the arrival and the
-- now; in CallsMissed the record, the set-up's beginning, the taking and the message reported.
use Rattle.std.specs.Prelude.{ℕ, ◌+◌, ◌^◌, ◌<◌, ◌≡◌, List, [], ◌∷◌, pos, neg_ℤ}
use Rattle.message.specs.Read.{message_header_of}
use Rattle.calls.specs.Calls.{initiator}
use Rattle.true_age.specs.Clocks.{World, InBand, count_of}
use Rattle.true_age.specs.Claim.{true_age}
use Rattle.worked_histories.specs.Worlds.{DoesNotRunBack, StaysInBand, arrivals, world_of}
use Rattle.worked_histories.specs.Worlds.{initiators, responders, standing, standing_before}
use Rattle.worked_histories.specs.Histories.{
  Place,
  begin,
  receive,
  tick,
  Common,
  common_of,
  Numbers,
  numbers_of,
  Judges,
  Claimed,
  truly◌tells◌answers◌between◌and◌,
}
use Rattle.worked_histories.specs.SetUp.{answ1, est, to_initiator, at_initiator, our_start, initiator_open}
use Rattle.worked_histories.specs.Initiator.{slow_peers, settings200, band60, band0, slow_message}
use Rattle.worked_histories.specs.CallsMissed.{
  drifting_peers,
  drifted_message,
  as_reported,
  open_as_reported,
  reported_message,
  AnotherRecord,
  BegunAfter,
  TakenBeforeSent,
  ReportOfAnother,
}

-- ---- true age + E + J + d is under 2^31

-- the difference has risen by the whole band; ticks keep our clock from going back:
module _ (runs : DoesNotRunBack slow_peers) where
  abbrev pub after_tick : Place (at_initiator slow_peers runs)
  after_tick = tick (at_initiator slow_peers runs) (initiator_open slow_peers runs settings200) 2000000000

  abbrev pub after_ticks : Place (at_initiator slow_peers runs)
  after_ticks = tick (at_initiator slow_peers runs) after_tick 4000000000

abbrev pub at_numbers : Numbers
at_numbers = truly 2147483558 tells neg_ℤ (pos 2147483648) answers 206 between pos 2147483528 and pos 2147483648

-- DEMAND-3: at 2^31 the age is -2^31, and the answer 206
pub record AtTheBound : Type 0 where
  pub runs : DoesNotRunBack slow_peers
  pub band : StaysInBand (at_initiator slow_peers runs) 1000 60
  pub message : Judges (at_initiator slow_peers runs) 1000 1000 initiator settings200 (after_tick runs) 1200 2147484758
      slow_message band60 at_numbers
  pub bound_missed : at_numbers.the_true_age + band60.e + band60.j + band60.d ≡ 2 ^ 31
  pub claim_fails : ¬ (Claimed settings200 (after_tick runs).c band60 at_numbers)

-- the age has gone once around
abbrev pub past_numbers : Numbers
past_numbers = truly 4294967236 tells pos 30 answers 0 between pos 4294967206 and pos 4294967326

-- far past it a message truly 2^32 - 60 ticks old is handed up as fresh
pub record PastTheBound : Type 0 where
  pub runs : DoesNotRunBack slow_peers
  pub band : StaysInBand (at_initiator slow_peers runs) 1000 60
  pub message : Judges (at_initiator slow_peers runs) 1000 1000 initiator settings200 (after_ticks runs) 1200 4294968436
      slow_message band60 past_numbers
  pub bound_missed : 2 ^ 31 < past_numbers.the_true_age + band60.e + band60.j + band60.d
  pub claim_fails : ¬ (Claimed settings200 (after_ticks runs).c band60 past_numbers)

-- ---- the clocks drift within a band of J ticks

abbrev pub drifted_numbers : Numbers
drifted_numbers = truly 1000 tells pos 30 answers 0 between pos 970 and pos 1090

-- a message truly 1,000 ticks old is handed up as fresh, where a band of J 60 lets 230 pass
pub record OutsideTheBand : Type 0 where
  pub runs : DoesNotRunBack drifting_peers
  pub band_missed : (j : ℕ) → j < 1000 → ¬ (InBand (at_initiator drifting_peers runs) 1000 4000 j)
  pub message : Judges (at_initiator drifting_peers runs) 1000 1000 initiator settings200
      (initiator_open drifting_peers runs settings200) 3000 4000 drifted_message band60 drifted_numbers
  pub claim_fails : ¬ (Claimed settings200 (initiator_open drifting_peers runs settings200).c band60 drifted_numbers)

-- ---- the others are missed with J 0: none handed up is truly older than 170

-- ---- the message was sent since the set-up began

-- of a connection before, sent at 0: type 6, number 22, stamp 150
abbrev pub earlier_message : List ℕ
earlier_message =
    0x06 ∷ 0x00 ∷ 0x16
    ∷ 0x00 ∷ 0x00 ∷ 0x00 ∷ 0x96
    ∷ 0x00 ∷ 0x00 ∷ 0x00 ∷ 0x00
    ∷ 0x00 ∷ 0x00 ∷ 0x00 ∷ 0x00
    ∷ 0x55 ∷ []

-- sent at 0 and taken at 1120
abbrev pub earlier_numbers : Numbers
earlier_numbers = truly 1120 tells pos 150 answers 0 between pos 1150 and pos 1150

-- the peer's clock stood still until the set-up began: a message truly 1,120 ticks old is handed up as fresh
pub record SentBefore : Type 0 where
  pub runs : DoesNotRunBack standing_before
  pub band : StaysInBand (at_initiator standing_before runs) 1000 0
  -- all else is as supposed of a message sent since 0
  pub message : Judges (at_initiator standing_before runs) 1000 0 initiator settings200 (initiator_open standing_before runs settings200)
      0 1120
      earlier_message band0 earlier_numbers
  pub since_missed : ¬ ((at_initiator standing_before runs).early 1000 0)
  pub claim_fails : ¬ (Claimed settings200 (initiator_open standing_before runs settings200).c band0 earlier_numbers)

-- ---- its stamp is true

-- stamp 1150, as if sent at 2000
abbrev pub falsely_stamped : List ℕ
falsely_stamped = to_initiator 22 0x04 0x7E

-- as if sent then, and as it was sent:
abbrev pub stamped_numbers : Numbers
stamped_numbers = truly 30 tells pos 60 answers 0 between pos 60 and pos 60

abbrev pub sent_numbers : Numbers
sent_numbers = truly 910 tells pos 60 answers 0 between pos 940 and pos 940

-- a message sent at 1120, truly 910 ticks old, is handed up as fresh
pub record FalseStamp : Type 0 where
  pub runs : DoesNotRunBack responders
  pub band : StaysInBand (at_initiator responders runs) 1000 0
  -- all is as supposed of a message sent at 2000
  pub message : Judges (at_initiator responders runs) 1000 1000 initiator settings200 (initiator_open responders runs settings200) 2000 2030
      falsely_stamped band0 stamped_numbers
  -- it was sent at 1120, and but for the stamp that is as supposed too
  pub since : (at_initiator responders runs).early 1000 1120
  pub onward : (at_initiator responders runs).early 1120 2030
  pub stamp_missed : ¬ ((message_header_of falsely_stamped).stamp ≡ count_of (responders 1120))
  pub numbers_are : numbers_of (at_initiator responders runs) band0 (initiator_open responders runs settings200).c 1120 2030
      falsely_stamped ≡ sent_numbers
  pub claim_fails : ¬ (Claimed settings200 (initiator_open responders runs settings200).c band0 sent_numbers)

-- ---- reported arrivals are true

-- OffsetAnsw1 as in the set-up, but OffsetStart arrived at 150
abbrev pub false_answ1 : List ℕ
false_answ1 =
    0x02 ∷ 0x00 ∷ 0x14
    ∷ 0x00 ∷ 0x00 ∷ 0x00 ∷ 0xC8
    ∷ 0x00 ∷ 0x00 ∷ 0x03 ∷ 0xE8
    ∷ 0x00 ∷ 0x00 ∷ 0x00 ∷ 0x96
    ∷ 0x00 ∷ 0x00 ∷ 0x00 ∷ 0x32 ∷ []

-- in the world as reported:
abbrev pub reported_band0 : Common
reported_band0 = record { e = 10; t_max_lem = 200; j = 0; d = 0; oldest = pos 190 }

abbrev pub reported_numbers : Numbers
reported_numbers = truly 190 tells pos 200 answers 0 between pos 200 and pos 200

-- in the true one, where d is 20
abbrev pub true_numbers : Numbers
true_numbers = truly 190 tells pos 200 answers 0 between pos 220 and pos 220

-- OffsetStart truly arrives at 1020, so that d is 20: a message truly 190 ticks old is handed up, where 170 may pass
pub record FalseArrival : Type 0 where
  pub runs : DoesNotRunBack responders
  pub band : StaysInBand (as_reported 1000 runs) 1000 0
  -- all is as supposed in the world as reported, which differs from the true one in this arrival alone
  pub message : Judges (as_reported 1000 runs) 1000 1000 initiator settings200 (open_as_reported 1000 false_answ1 runs) 1200 1390
      reported_message reported_band0 reported_numbers
  pub arrival_missed : ¬ ((message_header_of false_answ1).arrival ≡ count_of (responders ((at_initiator responders runs).arrived 0)))
  pub common_is : common_of (at_initiator responders runs) settings200 0 (our_start responders runs) ≡ band0
  pub numbers_are : numbers_of (at_initiator responders runs) band0 (open_as_reported 1000 false_answ1 runs).c 1200 1390
      reported_message ≡ true_numbers
  pub claim_fails : ¬ (Claimed settings200 (open_as_reported 1000 false_answ1 runs).c band0 true_numbers)

-- ---- each call gets our count as its now

-- what the calls get: it stands still from 1150 to 1200, and is 50 behind our count from there on
abbrev pub lagging : ℕ → ℕ
lagging = standing 1150 1200 initiators

module _ (now_runs : DoesNotRunBack lagging) (runs : DoesNotRunBack responders) where
  -- the world as the calls get it, and the set-up in it:
  abbrev pub as_called : World
  as_called = world_of lagging responders (arrivals 1020 1090 1120) now_runs runs

  abbrev pub open_as_called : Place as_called
  open_as_called = receive as_called (receive as_called (begin as_called initiator settings200 7 50 1000) 1080 answ1) 1110 est

-- in that world
abbrev pub called_band50 : Common
called_band50 = record { e = 10; t_max_lem = 200; j = 50; d = 20; oldest = pos 220 }

-- stamp 270, sent at 1120
abbrev pub called_message : List ℕ
called_message = to_initiator 22 0x01 0x0E

-- in that world, and by our count:
abbrev pub called_numbers : Numbers
called_numbers = truly 170 tells pos 200 answers 0 between pos 150 and pos 250

abbrev pub our_numbers : Numbers
our_numbers = truly 220 tells pos 200 answers 0 between pos 250 and pos 250

-- a message truly 220 ticks old is handed up, where 170 may pass
pub record FalseNow : Type 0 where
  pub now_runs : DoesNotRunBack lagging
  pub runs : DoesNotRunBack responders
  pub band : StaysInBand (at_initiator responders runs) 1000 0
  -- all is as supposed in the world as the calls get it, with J 50
  pub called_band : StaysInBand (as_called now_runs runs) 1000 50
  pub message : Judges (as_called now_runs runs) 1000 1000 initiator settings200 (open_as_called now_runs runs) 1120 1340
      called_message called_band50 called_numbers
  pub now_missed : ¬ (count_of ((as_called now_runs runs).ours 1340) ≡ count_of ((at_initiator responders runs).ours 1340))
  pub true_age_is : true_age (at_initiator responders runs) 1120 1340 ≡ our_numbers.the_true_age
  pub claim_fails : ¬ (Claimed settings200 (open_as_called now_runs runs).c band0 our_numbers)

-- none of them is idle
pub record EachIsNeeded : Type 0 where
  pub at_the_bound : AtTheBound
  pub past_the_bound : PastTheBound
  pub outside_the_band : OutsideTheBand
  pub sent_before : SentBefore
  pub taken_before_sent : TakenBeforeSent
  pub begun_after : BegunAfter
  pub false_stamp : FalseStamp
  pub false_arrival : FalseArrival
  pub report_of_another : ReportOfAnother
  pub false_now : FalseNow
  pub another_record : AnotherRecord
