-- The set-up of the worked histories, with the counts of NUM-1: I1, R1, R2 and I2 at an initiator; R2, I2, I3 and R3 at a responder.
-- By SETUP-STAMP the initiator's I3 is 1080, and the responder's R1 200.
use Rattle.std.specs.Prelude.{ℕ, List, [], ◌∷◌}
use Rattle.message.specs.Table.{offset_answ1}
use Rattle.connection.specs.declared.Settings.{Settings}
use Rattle.calls.specs.Calls.{start_header, initiator, responder}
use Rattle.true_age.specs.Clocks.{World, count_of}
use Rattle.true_age.specs.History.{Ours}
use Rattle.worked_histories.specs.Worlds.{DoesNotRunBack, arrivals, world_of, initiators, responders}
use Rattle.worked_histories.specs.Histories.{Place, begin, receive}

-- ---- the peer's messages to an initiator

-- OffsetAnsw1, number 20, stamp 200, echo 1000, arrived at 170, period 50
abbrev pub answ1 : List ℕ
answ1 =
    0x02 ∷ 0x00 ∷ 0x14
    ∷ 0x00 ∷ 0x00 ∷ 0x00 ∷ 0xC8
    ∷ 0x00 ∷ 0x00 ∷ 0x03 ∷ 0xE8
    ∷ 0x00 ∷ 0x00 ∷ 0x00 ∷ 0xAA
    ∷ 0x00 ∷ 0x00 ∷ 0x00 ∷ 0x32 ∷ []

-- OffsetEst, number 21, stamp 245, echo 1080, arrived at 240, min -880, max -840
abbrev pub est : List ℕ
est =
    0x04 ∷ 0x00 ∷ 0x15
    ∷ 0x00 ∷ 0x00 ∷ 0x00 ∷ 0xF5
    ∷ 0x00 ∷ 0x00 ∷ 0x04 ∷ 0x38
    ∷ 0x00 ∷ 0x00 ∷ 0x00 ∷ 0xF0
    ∷ 0x01 ∷ 0x00 ∷ 0x00 ∷ 0x03 ∷ 0x70
    ∷ 0x01 ∷ 0x00 ∷ 0x00 ∷ 0x03 ∷ 0x48 ∷ []

-- ---- the peer's messages to a responder

-- OffsetStart, number 7, count 1000, period 50: the bytes of NUM-16
abbrev pub start : List ℕ
start =
    0x01 ∷ 0x00 ∷ 0x07
    ∷ 0x00 ∷ 0x00 ∷ 0x03 ∷ 0xE8
    ∷ 0x00 ∷ 0x00 ∷ 0x00 ∷ 0x00
    ∷ 0x00 ∷ 0x00 ∷ 0x00 ∷ 0x00
    ∷ 0x00 ∷ 0x00 ∷ 0x00 ∷ 0x32 ∷ []

-- OffsetAnsw2, number 8, stamp 1100, echo 200, arrived at 1080
abbrev pub answ2 : List ℕ
answ2 =
    0x03 ∷ 0x00 ∷ 0x08
    ∷ 0x00 ∷ 0x00 ∷ 0x04 ∷ 0x4C
    ∷ 0x00 ∷ 0x00 ∷ 0x00 ∷ 0xC8
    ∷ 0x00 ∷ 0x00 ∷ 0x04 ∷ 0x38 ∷ []

-- OffsetEnd, number 9, stamp 1130, echo 260, arrived at 1125, valid
abbrev pub end : List ℕ
end =
    0x05 ∷ 0x00 ∷ 0x09
    ∷ 0x00 ∷ 0x00 ∷ 0x04 ∷ 0x6A
    ∷ 0x00 ∷ 0x00 ∷ 0x01 ∷ 0x04
    ∷ 0x00 ∷ 0x00 ∷ 0x04 ∷ 0x65
    ∷ 0x01 ∷ []

-- ---- application messages with one byte of data, by the last byte of the number and the last two of the stamp

-- last peer stamp 1110, our OffsetEnd, arrived at 270
abbrev pub to_initiator : ℕ → ℕ → ℕ → List ℕ
to_initiator number stamp3 stamp4 =
    0x06 ∷ 0x00 ∷ number
    ∷ 0x00 ∷ 0x00 ∷ stamp3 ∷ stamp4
    ∷ 0x00 ∷ 0x00 ∷ 0x04 ∷ 0x56
    ∷ 0x00 ∷ 0x00 ∷ 0x01 ∷ 0x0E
    ∷ 0x55 ∷ []

-- last peer stamp 260, our OffsetEst, arrived at 1125
abbrev pub to_responder : ℕ → ℕ → ℕ → List ℕ
to_responder number stamp3 stamp4 =
    0x06 ∷ 0x00 ∷ number
    ∷ 0x00 ∷ 0x00 ∷ stamp3 ∷ stamp4
    ∷ 0x00 ∷ 0x00 ∷ 0x01 ∷ 0x04
    ∷ 0x00 ∷ 0x00 ∷ 0x04 ∷ 0x65
    ∷ 0x55 ∷ []

-- ---- an initiator's set-up, with any peer's clock
module _ (peers : ℕ → ℕ) (runs : DoesNotRunBack peers) where
  -- OffsetStart arrives 20 ticks later, OffsetAnsw2 10, OffsetEnd 10
  abbrev pub at_initiator : World
  at_initiator = world_of initiators peers (arrivals 1020 1090 1120) (λ t u h. h) runs

  -- the first message that we write
  abbrev pub our_start : Ours at_initiator
  our_start = record { at = 1000; header = start_header 7 (count_of 1000) }

  -- from begin to open:
  module _ (settings : Settings) where
    abbrev pub initiator_awaits2 : Place at_initiator
    initiator_awaits2 = begin at_initiator initiator settings 7 50 1000

    abbrev pub initiator_awaits4 : Place at_initiator
    initiator_awaits4 = receive at_initiator initiator_awaits2 1080 answ1

    abbrev pub initiator_open : Place at_initiator
    initiator_open = receive at_initiator initiator_awaits4 1110 est

-- ---- a responder's set-up, with any peer's clock
module _ (peers : ℕ → ℕ) (ours_runs : DoesNotRunBack responders) (runs : DoesNotRunBack peers) where
  -- OffsetAnsw1 arrives 30 ticks later, OffsetEst 15
  abbrev pub at_responder : World
  at_responder = world_of responders peers (arrivals 1080 1125 1125) ours_runs runs

  -- the first message that we write
  abbrev pub our_answ1 : Ours at_responder
  our_answ1 =
      record {
        at = 1050;
        header = record { kind = offset_answ1; number = 30; stamp = count_of 200; last_peer_stamp = count_of 1000; arrival = count_of 200 };
      }

  -- from begin to open:
  module _ (settings : Settings) where
    abbrev pub responder_awaits1 : Place at_responder
    responder_awaits1 = begin at_responder responder settings 30 50 900

    abbrev pub responder_awaits3 : Place at_responder
    responder_awaits3 = receive at_responder responder_awaits1 1050 start

    abbrev pub responder_awaits5 : Place at_responder
    responder_awaits5 = receive at_responder responder_awaits3 1110 answ2

    abbrev pub responder_open : Place at_responder
    responder_open = receive at_responder responder_awaits5 1140 end
