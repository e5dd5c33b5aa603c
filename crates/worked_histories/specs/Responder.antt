-- The premises of demand 3 are met at a responder, with every answer that goes by the age, and its bounds are reached.
-- Its begin is earlier than the set-up.
use Rattle.std.specs.Prelude.{ℕ, List, pos, neg_ℤ}
use Rattle.connection.specs.declared.Settings.{Settings}
use Rattle.calls.specs.Calls.{responder}
use Rattle.true_age.specs.Clocks.{World}
use Rattle.worked_histories.specs.Worlds.{DoesNotRunBack, StaysInBand, initiators, responders, gaining, standing}
use Rattle.worked_histories.specs.Histories.{Place, receive, Common, Judges, truly◌tells◌answers◌between◌and◌}
use Rattle.worked_histories.specs.SetUp.{to_responder, at_responder, responder_open}
use Rattle.worked_histories.specs.Initiator.{settings200}

-- the peer's clock gains 60 ticks from 2000 to 2060: the difference falls from -850 to -910
abbrev pub peers : ℕ → ℕ
peers = gaining 2000 2060 initiators

-- T_max 50 and E 5:
abbrev pub settings : Settings
settings = record { n = 3; t_max = 50; e = 5; t_start = 100; t_off = 10; limit = 5 }

abbrev pub common : Common
common = record { e = 5; t_max_lem = 50; j = 60; d = 30; oldest = pos 75 }

-- stamp 1200, sent then
abbrev pub fresh_message : List ℕ
fresh_message = to_responder 10 0x04 0xB0

-- stamp 1250, sent then; number 12 after 10
abbrev pub gap_message : List ℕ
gap_message = to_responder 12 0x04 0xE2

-- stamp 1300, sent then
abbrev pub late_message : List ℕ
late_message = to_responder 13 0x05 0x14

-- stamp 2160, sent at 2100
abbrev pub future_message : List ℕ
future_message = to_responder 14 0x08 0x70

-- stamp 2260, sent at 2200
abbrev pub oldest_message : List ℕ
oldest_message = to_responder 15 0x08 0xD4

-- one call after another:
module _ (ours_runs : DoesNotRunBack responders) (runs : DoesNotRunBack peers) where
  abbrev pub world : World
  world = at_responder peers ours_runs runs

  abbrev pub after_end : Place world
  after_end = responder_open peers ours_runs runs settings

  abbrev pub after_fresh : Place world
  after_fresh = receive world after_end 1215 fresh_message

  abbrev pub after_gap : Place world
  after_gap = receive world after_fresh 1260 gap_message

  abbrev pub after_late : Place world
  after_late = receive world after_gap 1316 late_message

  abbrev pub after_future : Place world
  after_future = receive world after_late 2124 future_message

-- DEMAND-3: each of these messages meets the premises
pub record ResponderMeets : Type 0 where
  pub ours_runs : DoesNotRunBack responders
  pub runs : DoesNotRunBack peers
  pub band : StaysInBand (world ours_runs runs) 1000 60
  -- an age of T_max is delivered
  pub fresh : Judges (world ours_runs runs) 1000 1000 responder settings (after_end ours_runs runs) 1200 1215 fresh_message common
      (truly 15 tells pos 50 answers 0 between neg_ℤ (pos 10) and pos 110)
  pub gap : Judges (world ours_runs runs) 1000 1000 responder settings (after_fresh ours_runs runs) 1250 1260 gap_message common
      (truly 10 tells pos 45 answers 204 between neg_ℤ (pos 15) and pos 105)
  pub late : Judges (world ours_runs runs) 1000 1000 responder settings (after_gap ours_runs runs) 1300 1316 late_message common
      (truly 16 tells pos 51 answers 205 between neg_ℤ (pos 9) and pos 111)
  -- true age + E + d is J - 1
  pub future : Judges (world ours_runs runs) 1000 1000 responder settings (after_late ours_runs runs) 2100 2124 future_message common
      (truly 24 tells neg_ℤ (pos 1) answers 206 between neg_ℤ (pos 1) and pos 119)
  -- the oldest that can be handed up: T_max - E + J - d
  pub oldest : Judges (world ours_runs runs) 1000 1000 responder settings (after_future ours_runs runs) 2200 2275 oldest_message common
      (truly 75 tells pos 50 answers 0 between pos 50 and pos 170)

-- ---- the peer's clock stands still from 1145 to 1205: the difference rises from -850 to -790

abbrev pub slow_peers : ℕ → ℕ
slow_peers = standing 1145 1205 initiators

abbrev pub slow_band60 : Common
slow_band60 = record { e = 10; t_max_lem = 200; j = 60; d = 30; oldest = pos 220 }

-- stamp 1240, sent at 1300
abbrev pub slow_message : List ℕ
slow_message = to_responder 10 0x04 0xD8

-- DEMAND-3: the upper bound is reached
pub record ResponderLateReached : Type 0 where
  pub ours_runs : DoesNotRunBack responders
  pub runs : DoesNotRunBack slow_peers
  pub band : StaysInBand (at_responder slow_peers ours_runs runs) 1000 60
  -- true age + E + J + d is T_max + 1, and the age is its most
  pub late : Judges (at_responder slow_peers ours_runs runs) 1000 1000 responder settings200
      (responder_open slow_peers ours_runs runs settings200) 1300 1401 slow_message slow_band60
      (truly 101 tells pos 201 answers 205 between pos 81 and pos 201)
