-- The premises of demand 3 are met at an initiator, with every answer that goes by the age, and its bounds are reached.
use Rattle.std.specs.Prelude.{ℕ, List, pos, neg_ℤ, replicate}
use Rattle.connection.specs.declared.Settings.{Settings}
use Rattle.calls.specs.Calls.{initiator}
use Rattle.true_age.specs.Clocks.{World}
use Rattle.worked_histories.specs.Worlds.{DoesNotRunBack, StaysInBand, responders, gaining, standing}
use Rattle.worked_histories.specs.Histories.{Place, receive, send, tick, Common, Judges, truly◌tells◌answers◌between◌and◌}
use Rattle.worked_histories.specs.SetUp.{to_initiator, at_initiator, initiator_open}

-- ---- the peer's clock gains 60 ticks from 2000 to 2060: the difference falls from 850 to 790

abbrev pub peers : ℕ → ℕ
peers = gaining 2000 2060 responders

-- T_max 40 and E 0, as in NUM-4:
abbrev pub settings : Settings
settings = record { n = 3; t_max = 40; e = 0; t_start = 100; t_off = 10; limit = 5 }

abbrev pub common : Common
common = record { e = 0; t_max_lem = 40; j = 60; d = 20; oldest = pos 80 }

-- stamp 302, sent at 1152
abbrev pub fresh_message : List ℕ
fresh_message = to_initiator 22 0x01 0x2E

-- stamp 350, sent at 1200; number 24 after 22
abbrev pub gap_message : List ℕ
gap_message = to_initiator 24 0x01 0x5E

-- stamp 400, sent at 1250
abbrev pub late_message : List ℕ
late_message = to_initiator 25 0x01 0x90

-- stamp 1310, sent at 2100
abbrev pub future_message : List ℕ
future_message = to_initiator 26 0x05 0x1E

-- stamp 1410, sent at 2200
abbrev pub oldest_message : List ℕ
oldest_message = to_initiator 27 0x05 0x82

-- one call after another:
module _ (runs : DoesNotRunBack peers) where
  abbrev pub world : World
  world = at_initiator peers runs

  abbrev pub after_send : Place world
  after_send = send world (initiator_open peers runs settings) 1130 (replicate 4 0x55)

  abbrev pub after_fresh : Place world
  after_fresh = receive world after_send 1172 fresh_message

  abbrev pub after_gap : Place world
  after_gap = receive world after_fresh 1215 gap_message

  abbrev pub after_late : Place world
  after_late = receive world after_gap 1271 late_message

  abbrev pub after_tick : Place world
  after_tick = tick world after_late 1500

  abbrev pub after_future : Place world
  after_future = receive world after_tick 2139 future_message

-- DEMAND-3: each of these messages meets the premises
pub record InitiatorMeets : Type 0 where
  pub runs : DoesNotRunBack peers
  pub band : StaysInBand (world runs) 1000 60
  -- an age of T_max is delivered
  pub fresh : Judges (world runs) 1000 1000 initiator settings (after_send runs) 1152 1172 fresh_message common
      (truly 20 tells pos 40 answers 0 between neg_ℤ (pos 20) and pos 100)
  pub gap : Judges (world runs) 1000 1000 initiator settings (after_fresh runs) 1200 1215 gap_message common
      (truly 15 tells pos 35 answers 204 between neg_ℤ (pos 25) and pos 95)
  pub late : Judges (world runs) 1000 1000 initiator settings (after_gap runs) 1250 1271 late_message common
      (truly 21 tells pos 41 answers 205 between neg_ℤ (pos 19) and pos 101)
  -- true age + E + d is J - 1, and the age is its least
  pub future : Judges (world runs) 1000 1000 initiator settings (after_tick runs) 2100 2139 future_message common
      (truly 39 tells neg_ℤ (pos 1) answers 206 between neg_ℤ (pos 1) and pos 119)
  -- the oldest that can be handed up: T_max - E + J - d; no gap after those that were late or from the future (ERR-6)
  pub oldest : Judges (world runs) 1000 1000 initiator settings (after_future runs) 2200 2280 oldest_message common
      (truly 80 tells pos 40 answers 0 between pos 40 and pos 160)

-- ---- the peer's clock stands still from 1120 to 1180: the difference rises from 850 to 910

abbrev pub slow_peers : ℕ → ℕ
slow_peers = standing 1120 1180 responders

-- T_max 200 and E 10:
abbrev pub settings200 : Settings
settings200 = record { n = 3; t_max = 200; e = 10; t_start = 100; t_off = 10; limit = 5 }

abbrev pub band60 : Common
band60 = record { e = 10; t_max_lem = 200; j = 60; d = 20; oldest = pos 230 }

-- the same with clocks that do not drift
abbrev pub band0 : Common
band0 = record { e = 10; t_max_lem = 200; j = 0; d = 20; oldest = pos 170 }

-- stamp 290, sent at 1200
abbrev pub slow_message : List ℕ
slow_message = to_initiator 22 0x01 0x22

-- DEMAND-3: the upper bound is reached
pub record LateReached : Type 0 where
  pub runs : DoesNotRunBack slow_peers
  pub band : StaysInBand (at_initiator slow_peers runs) 1000 60
  -- true age + E + J + d is T_max + 1, and the age is its most
  pub late : Judges (at_initiator slow_peers runs) 1000 1000 initiator settings200 (initiator_open slow_peers runs settings200) 1200 1311
      slow_message band60
      (truly 111 tells pos 201 answers 205 between pos 81 and pos 201)
