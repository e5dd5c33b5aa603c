-- The premises of demand 3 are met at an initiator whose count, and whose peer's, pass 2^32 within the history.
use Rattle.std.specs.Prelude.{ℕ, ◌+◌, List, [], ◌∷◌, pos}
use Rattle.calls.specs.Calls.{start_header, initiator}
use Rattle.true_age.specs.Clocks.{World, count_of}
use Rattle.true_age.specs.History.{Ours}
use Rattle.worked_histories.specs.Worlds.{DoesNotRunBack, StaysInBand, arrivals, world_of}
use Rattle.worked_histories.specs.Histories.{Place, begin, receive, Judges, truly◌tells◌answers◌between◌and◌}
use Rattle.worked_histories.specs.Initiator.{settings200, band0}

-- 2^32 - 50 at the begin, at moment 0: our count is 0 at 50
abbrev pub ours : ℕ → ℕ
ours t = 4294967246 + t

-- 850 less: the peer's count is 0 at 900
abbrev pub peers : ℕ → ℕ
peers t = 4294966396 + t

-- OffsetAnsw1, number 20, stamp 2^32 - 850, echo 2^32 - 50, arrived at 2^32 - 880, period 50
abbrev pub answ1 : List ℕ
answ1 =
    0x02 ∷ 0x00 ∷ 0x14
    ∷ 0xFF ∷ 0xFF ∷ 0xFC ∷ 0xAE
    ∷ 0xFF ∷ 0xFF ∷ 0xFF ∷ 0xCE
    ∷ 0xFF ∷ 0xFF ∷ 0xFC ∷ 0x90
    ∷ 0x00 ∷ 0x00 ∷ 0x00 ∷ 0x32 ∷ []

-- OffsetEst, number 21, stamp 2^32 - 805, echo 30, arrived at 2^32 - 810, min -880, max -840
abbrev pub est : List ℕ
est =
    0x04 ∷ 0x00 ∷ 0x15
    ∷ 0xFF ∷ 0xFF ∷ 0xFC ∷ 0xDB
    ∷ 0x00 ∷ 0x00 ∷ 0x00 ∷ 0x1E
    ∷ 0xFF ∷ 0xFF ∷ 0xFC ∷ 0xD6
    ∷ 0x01 ∷ 0x00 ∷ 0x00 ∷ 0x03 ∷ 0x70
    ∷ 0x01 ∷ 0x00 ∷ 0x00 ∷ 0x03 ∷ 0x48 ∷ []

-- an application message of one byte: last peer stamp 60, our OffsetEnd, arrived at 2^32 - 780
abbrev pub data_message : ℕ → ℕ → ℕ → ℕ → ℕ → List ℕ
data_message number stamp1 stamp2 stamp3 stamp4 =
    0x06 ∷ 0x00 ∷ number
    ∷ stamp1 ∷ stamp2 ∷ stamp3 ∷ stamp4
    ∷ 0x00 ∷ 0x00 ∷ 0x00 ∷ 0x3C
    ∷ 0xFF ∷ 0xFF ∷ 0xFC ∷ 0xF4
    ∷ 0x55 ∷ []

-- stamp 2^32 - 10, sent at 890
abbrev pub fresh_message : List ℕ
fresh_message = data_message 22 0xFF 0xFF 0xFF 0xF6

-- stamp 100, sent at 1000
abbrev pub late_message : List ℕ
late_message = data_message 23 0x00 0x00 0x00 0x64

module _ (ours_runs : DoesNotRunBack ours) (runs : DoesNotRunBack peers) where
  -- OffsetStart arrives 20 ticks later, OffsetAnsw2 10, OffsetEnd 10
  abbrev pub world : World
  world = world_of ours peers (arrivals 20 90 120) ours_runs runs

  -- the first message that we write
  abbrev pub our_start : Ours world
  our_start = record { at = 0; header = start_header 7 (count_of 4294967246) }

  -- one call after another:
  abbrev pub awaits4 : Place world
  awaits4 = receive world (begin world initiator settings200 7 50 0) 80 answ1

  abbrev pub after_est : Place world
  after_est = receive world awaits4 110 est

  abbrev pub after_fresh : Place world
  after_fresh = receive world after_est 930 fresh_message

-- DEMAND-3: each of these messages meets the premises
pub record AcrossTheWrap : Type 0 where
  pub ours_runs : DoesNotRunBack ours
  pub runs : DoesNotRunBack peers
  pub band : StaysInBand (world ours_runs runs) 0 0
  -- stamp 4294967286, now 880: with J 0 the age is its least and its most
  pub fresh : Judges (world ours_runs runs) 0 0 initiator settings200 (after_est ours_runs runs) 890 930 fresh_message band0
      (truly 40 tells pos 70 answers 0 between pos 70 and pos 70)
  -- stamp 100, now 1130
  pub late : Judges (world ours_runs runs) 0 0 initiator settings200 (after_fresh ours_runs runs) 1000 1180 late_message band0
      (truly 180 tells pos 210 answers 205 between pos 210 and pos 210)
