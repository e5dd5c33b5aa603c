-- OPEN-4: the starred numbers of NUM-1 to NUM-16 in one table, over the definitions of the calls and from raw bytes.
use Rattle.std.specs.Prelude.{ℕ, ◌≡◌, List, [], ◌∷◌, ◌++◌, ℤ, pos, neg_ℤ, replicate}
use Rattle.clock.specs.declared.Count.{Count}
use Rattle.number.specs.Number.{distance_of}
use Rattle.message.specs.Table.{start_size, est_size}
use Rattle.message.specs.Read.{message_header_of}
use Rattle.connection.specs.declared.Settings.{Settings}
use Rattle.connection.specs.declared.Offsets.{Offsets}
use Rattle.connection.specs.declared.Connection.{Connection}
use Rattle.connection.specs.Connection.{opened, all_zero}
use Rattle.what_follows.specs.declared.Outcome.{Outcome}
use Rattle.calls.specs.Calls.{initiator, responder, given, begin_outcome, receive_outcome, left_by, delivered_of}

-- ---- the settings: N 3, E 0; T_max and T_off are the line's

abbrev pub settings : ℕ → ℕ → Settings
settings t_max_lem t-off = record { n = 3; t_max = t_max_lem; e = 0; t_start = 100; t_off = t-off; limit = 3 }

abbrev pub count : ℕ → Count
count n = record { 0 = n }

-- ---- raw bytes: type, number, sender stamp, last peer stamp, own count at its arrival; then what stands after the header

-- NUM-16: 01 00 07 00 00 03 E8, eight 00, 00 00 00 32
abbrev pub start : List ℕ
start = 0x01 ∷ 0x00 ∷ 0x07 ∷ 0x00 ∷ 0x00 ∷ 0x03 ∷ 0xE8 ∷ replicate 8 0x00 ++ (0x00 ∷ 0x00 ∷ 0x00 ∷ 0x32 ∷ [])

-- OffsetAnsw1, of two bytes of number: R2 200, echo I1 1000, R1 170; period 50
abbrev pub answ1 : ℕ → ℕ → List ℕ
answ1 x y =
    (0x02 ∷ x ∷ y ∷ [])
    ++ (0x00 ∷ 0x00 ∷ 0x00 ∷ 0xC8 ∷ [])
    ++ (0x00 ∷ 0x00 ∷ 0x03 ∷ 0xE8 ∷ [])
    ++ (0x00 ∷ 0x00 ∷ 0x00 ∷ 0xAA ∷ [])
    ++ (0x00 ∷ 0x00 ∷ 0x00 ∷ 0x32 ∷ [])

-- OffsetAnsw2 number 8: I3 1100, echo R2 200, I2 1080
abbrev pub answ2 : List ℕ
answ2 =
    (0x03 ∷ 0x00 ∷ 0x08 ∷ [])
    ++ (0x00 ∷ 0x00 ∷ 0x04 ∷ 0x4C ∷ [])
    ++ (0x00 ∷ 0x00 ∷ 0x00 ∷ 0xC8 ∷ [])
    ++ (0x00 ∷ 0x00 ∷ 0x04 ∷ 0x38 ∷ [])

-- OffsetEst, of two bytes of number: R3 260, echo 1080 (our own OffsetAnsw2 goes at I2), R3 260; -880, -840
abbrev pub est : ℕ → ℕ → List ℕ
est x y =
    (0x04 ∷ x ∷ y ∷ [])
    ++ (0x00 ∷ 0x00 ∷ 0x01 ∷ 0x04 ∷ [])
    ++ (0x00 ∷ 0x00 ∷ 0x04 ∷ 0x38 ∷ [])
    ++ (0x00 ∷ 0x00 ∷ 0x01 ∷ 0x04 ∷ [])
    ++ (0x01 ∷ 0x00 ∷ 0x00 ∷ 0x03 ∷ 0x70 ∷ [])
    ++ (0x01 ∷ 0x00 ∷ 0x00 ∷ 0x03 ∷ 0x48 ∷ [])

-- OffsetEnd number 9: 1140, echo R3 260, 1120; check byte 1
abbrev pub end : List ℕ
end =
    (0x05 ∷ 0x00 ∷ 0x09 ∷ [])
    ++ (0x00 ∷ 0x00 ∷ 0x04 ∷ 0x74 ∷ [])
    ++ (0x00 ∷ 0x00 ∷ 0x01 ∷ 0x04 ∷ [])
    ++ (0x00 ∷ 0x00 ∷ 0x04 ∷ 0x60 ∷ [])
    ++ (0x01 ∷ [])

-- two bytes of application data
abbrev pub data_bytes : List ℕ
data_bytes = 0x4F ∷ 0x4B ∷ []

-- application, of two bytes of number and four of stamp: eight 00, and the data
abbrev pub data_message : ℕ → ℕ → List ℕ → List ℕ
data_message x y stamp = (0x06 ∷ x ∷ y ∷ []) ++ stamp ++ replicate 8 0x00 ++ data_bytes

-- ---- the initiator, from its begin on

-- I1 1000, number 7, period 50
unfoldable pub begins : Settings → Outcome
begins s = begin_outcome all_zero (given initiator s 7 50) (count 1000) start_size

-- I2 1080
unfoldable pub gets_answ1 : Settings → List ℕ → Outcome
gets_answ1 s message = receive_outcome (begins s).next (count 1080) message est_size

-- OffsetEst arrives at 1120
unfoldable pub gets_est : Settings → List ℕ → List ℕ → Outcome
gets_est s before message = receive_outcome (gets_answ1 s before).next (count 1120) message est_size

-- open, and the last number is 10
abbrev pub initiator_open : ℕ → Connection
initiator_open t_max_lem = (gets_est (settings t_max_lem 10) (answ1 0x00 0x09) (est 0x00 0x0A)).next

-- open, and the last number is 65535
abbrev pub initiator_open65535 : Connection
initiator_open65535 = (gets_est (settings 40 10) (answ1 0xFF 0xFE) (est 0xFF 0xFF)).next

-- ---- the responder, from its begin on: R2 200 is the now of the call that takes OffsetStart

unfoldable pub gets_start : Settings → Outcome
gets_start s = receive_outcome (begin_outcome all_zero (given responder s 9 50) (count 150) 0).next (count 200) start est_size

-- R3 260
unfoldable pub gets_answ2 : Settings → Outcome
gets_answ2 s = receive_outcome (gets_start s).next (count 260) answ2 est_size

-- OffsetEnd arrives at 300
unfoldable pub gets_end : Settings → Outcome
gets_end s = receive_outcome (gets_answ2 s).next (count 300) end est_size

-- open
abbrev pub responder_open : ℕ → Connection
responder_open t_max_lem = (gets_end (settings t_max_lem 10)).next

-- ---- an initiator of min 830 that is open before 860: begun at 800, R1 and R2 are -30, R3 is -20, all mod 2^32

-- -30, echo 800, -30; period 50
abbrev pub early_answ1 : List ℕ
early_answ1 =
    (0x02 ∷ 0x00 ∷ 0x09 ∷ [])
    ++ (0xFF ∷ 0xFF ∷ 0xFF ∷ 0xE2 ∷ [])
    ++ (0x00 ∷ 0x00 ∷ 0x03 ∷ 0x20 ∷ [])
    ++ (0xFF ∷ 0xFF ∷ 0xFF ∷ 0xE2 ∷ [])
    ++ (0x00 ∷ 0x00 ∷ 0x00 ∷ 0x32 ∷ [])

-- -20, echo 812, -20; -842, -832
abbrev pub early_est : List ℕ
early_est =
    (0x04 ∷ 0x00 ∷ 0x0A ∷ [])
    ++ (0xFF ∷ 0xFF ∷ 0xFF ∷ 0xEC ∷ [])
    ++ (0x00 ∷ 0x00 ∷ 0x03 ∷ 0x2C ∷ [])
    ++ (0xFF ∷ 0xFF ∷ 0xFF ∷ 0xEC ∷ [])
    ++ (0x01 ∷ 0x00 ∷ 0x00 ∷ 0x03 ∷ 0x4A ∷ [])
    ++ (0x01 ∷ 0x00 ∷ 0x00 ∷ 0x03 ∷ 0x40 ∷ [])

-- its OffsetAnsw1 arrives at 812
unfoldable pub early_gets_answ1 : Settings → Outcome
early_gets_answ1 s =
    receive_outcome (begin_outcome all_zero (given initiator s 7 50) (count 800) start_size).next (count 812) early_answ1 est_size

-- its OffsetEst arrives at 820
unfoldable pub early_gets_est : Settings → Outcome
early_gets_est s = receive_outcome (early_gets_answ1 s).next (count 820) early_est est_size

-- open
abbrev pub early_open : ℕ → Connection
early_open t_max_lem = (early_gets_est (settings t_max_lem 10)).next

-- ---- what an open connection answers to an application message, what it delivers, and the age that it reports

abbrev pub answer_to : Connection → ℕ → List ℕ → ℕ
answer_to c now message = (receive_outcome c (count now) message est_size).number

abbrev pub delivered_to : Connection → ℕ → List ℕ → List ℕ
delivered_to c now message = delivered_of message (receive_outcome c (count now) message est_size).delivered

abbrev pub age_at : Connection → ℕ → List ℕ → ℤ
age_at c now message = (receive_outcome c (count now) message est_size).age.0

abbrev pub stamp300 : List ℕ
stamp300 = 0x00 ∷ 0x00 ∷ 0x01 ∷ 0x2C ∷ []

abbrev pub stamp1200 : List ℕ
stamp1200 = 0x00 ∷ 0x00 ∷ 0x04 ∷ 0xB0 ∷ []

abbrev pub stamp4294967290 : List ℕ
stamp4294967290 = 0xFF ∷ 0xFF ∷ 0xFF ∷ 0xFA ∷ []

-- ---- the table

infix 70 ◌gives◌
-- a row: what the definitions give, and what the rule says
pub data Row : Type 1 where
  ◌gives◌ : {A : Type 0} → A → A → Row

-- the two are the same
abbrev pub RowHolds : Row → Type 0
RowHolds (a gives b) = a ≡ b

infixr 20 ◌and◌
-- OPEN-4: every row holds
pub data AllHold : List Row → Type 1 where
  nothing : AllHold []
  ◌and◌ : {row : Row} {rows : List Row} → RowHolds row → AllHold rows → AllHold (row ∷ rows)

-- OPEN-4: the starred lines, in their order
abbrev pub starred : List Row
starred =
    -- NUM-1: I1 1000, R1 170, R2 200, I2 1080, I3 1100, R3 260 (true offset 850): initiator 830, 880; responder -880, -840
    (gets_answ1 (settings 40 10) (answ1 0x00 0x09)).next.offsets.min.0 gives pos 830
    ∷ (gets_answ1 (settings 40 10) (answ1 0x00 0x09)).next.offsets.max.0 gives pos 880
    ∷ (gets_answ2 (settings 40 10)).next.offsets.min.0 gives neg_ℤ (pos 880)
    ∷ (gets_answ2 (settings 40 10)).next.offsets.max.0 gives neg_ℤ (pos 840)
    -- NUM-2: T_off 10
    ∷ (gets_est (settings 40 10) (answ1 0x00 0x09) (est 0x00 0x0A)).number gives 0
    ∷ (gets_est (settings 40 10) (answ1 0x00 0x09) (est 0x00 0x0A)).next.phase gives opened
    -- NUM-3: T_off 9
    ∷ (gets_est (settings 40 9) (answ1 0x00 0x09) (est 0x00 0x0A)).number gives 209
    -- NUM-4: stamp 300, now 1170, T_max 40
    ∷ age_at (initiator_open 40) 1170 (data_message 0x00 0x0B stamp300) gives pos 40
    ∷ answer_to (initiator_open 40) 1170 (data_message 0x00 0x0B stamp300) gives 0
    ∷ delivered_to (initiator_open 40) 1170 (data_message 0x00 0x0B stamp300) gives data_bytes
    -- NUM-5: T_max 39
    ∷ answer_to (initiator_open 39) 1170 (data_message 0x00 0x0B stamp300) gives 205
    -- NUM-6: now 1130
    ∷ age_at (initiator_open 40) 1130 (data_message 0x00 0x0B stamp300) gives pos 0
    ∷ answer_to (initiator_open 40) 1130 (data_message 0x00 0x0B stamp300) gives 0
    -- NUM-7: now 1129
    ∷ age_at (initiator_open 40) 1129 (data_message 0x00 0x0B stamp300) gives neg_ℤ (pos 1)
    ∷ answer_to (initiator_open 40) 1129 (data_message 0x00 0x0B stamp300) gives 206
    -- NUM-8: stamp 1200, now 365; T_max 45 delivers and 44 does not
    ∷ age_at (responder_open 45) 365 (data_message 0x00 0x0A stamp1200) gives pos 45
    ∷ answer_to (responder_open 45) 365 (data_message 0x00 0x0A stamp1200) gives 0
    ∷ answer_to (responder_open 44) 365 (data_message 0x00 0x0A stamp1200) gives 205
    -- NUM-9: stamp 4294967290, now 860; T_max 36 delivers and 35 does not
    ∷ (early_open 36).offsets.min.0 gives pos 830
    ∷ age_at (early_open 36) 860 (data_message 0x00 0x0B stamp4294967290) gives pos 36
    ∷ answer_to (early_open 36) 860 (data_message 0x00 0x0B stamp4294967290) gives 0
    ∷ answer_to (early_open 35) 860 (data_message 0x00 0x0B stamp4294967290) gives 205
    -- NUM-10: last 65535, next 0
    ∷ initiator_open65535.peer.number gives 65535
    ∷ distance_of (message_header_of (data_message 0x00 0x00 stamp300)).number initiator_open65535.peer.number gives 1
    ∷ answer_to initiator_open65535 1170 (data_message 0x00 0x00 stamp300) gives 0
    -- NUM-11: last 10, next 13
    ∷ (initiator_open 40).peer.number gives 10
    ∷ answer_to (initiator_open 40) 1170 (data_message 0x00 0x0D stamp300) gives 204
    -- NUM-12: next 14
    ∷ answer_to (initiator_open 40) 1170 (data_message 0x00 0x0E stamp300) gives 203
    -- NUM-13: next 10
    ∷ answer_to (initiator_open 40) 1170 (data_message 0x00 0x0A stamp300) gives 202
    -- NUM-16
    ∷ (left_by (begins (settings 40 10)) [] (replicate start_size 0xFF)).out gives start
    ∷ []

-- ---- what the program's functions promise

-- a pair of offsets
abbrev pub offsets : ℤ → ℤ → Offsets
offsets min max = record { min = record { 0 = min }; max = record { 0 = max } }
