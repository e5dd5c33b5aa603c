-- The table of message types: what stands after the header, and the total.
use Rattle.std.specs.Prelude.{ℕ, ◌+◌, Bool, ◌&&◌, eqb, leb, ltb}
use Rattle.rules.specs.Rows.{when◌answer◌else◌}
use Rattle.message.specs.declared.After.{After}
use Rattle.message.specs.declared.After.TheVariants.{Period, Nothing, Offsets, Check, Data}
use Rattle.message.specs.declared.Listed.{Listed}

-- ---- the types, by their numbers

-- MSG-1: the type of OffsetStart
abbrev pub offset_start : ℕ
offset_start = 1

-- MSG-2: the type of OffsetAnsw1
abbrev pub offset_answ1 : ℕ
offset_answ1 = 2

-- MSG-3: the type of OffsetAnsw2
abbrev pub offset_answ2 : ℕ
offset_answ2 = 3

-- MSG-4: the type of OffsetEst
abbrev pub offset_est : ℕ
offset_est = 4

-- MSG-5: the type of OffsetEnd
abbrev pub offset_end : ℕ
offset_end = 5

-- MSG-6: the type of application data
abbrev pub application : ℕ
application = 6

-- ---- sizes

-- MSG-HEAD: each message begins with so many bytes
abbrev pub header_size : ℕ
header_size = 15

-- MSG-1, MSG-2: the total of OffsetStart and OffsetAnsw1
abbrev pub start_size : ℕ
start_size = 19

-- MSG-4: the total of OffsetEst, the longest message of set-up
abbrev pub est_size : ℕ
est_size = 25

-- MSG-5: the total of OffsetEnd
abbrev pub end_size : ℕ
end_size = 16

-- MSG-TOTAL: the most bytes of a message
abbrev pub most_message : ℕ
most_message = 1000

-- MSG-6: what the header leaves of it
abbrev pub most_data : ℕ
most_data = 985

-- MSG-SIGN: the bytes of an offset
abbrev pub offset_size : ℕ
offset_size = 5

-- MSG-4: where max stands
abbrev pub max_at : ℕ
max_at = header_size + offset_size

-- ---- the table

-- MSG-LISTED: a row has what stands after the header, and the least and the most total
abbrev pub message_row : After → ℕ → ℕ → Listed
message_row after least most = record { after = after; least = least; most = most }

-- MSG-1 to MSG-6, one row to a type; MSG-TOTAL bounds the last. A type that is not listed has no total: none is at least 1 and at
-- most 0.
unfoldable pub table_of : ℕ → Listed
table_of type =
    when eqb type offset_start answer message_row Period start_size start_size else
    when eqb type offset_answ1 answer message_row Period start_size start_size else
    when eqb type offset_answ2 answer message_row Nothing header_size header_size else
    when eqb type offset_est answer message_row Offsets est_size est_size else
    when eqb type offset_end answer message_row Check end_size end_size else
    when eqb type application answer message_row Data header_size most_message else
    message_row Nothing 1 0

-- MSG-LISTED: whether a row lists this size as a total
unfoldable pub lists : Listed → ℕ → Bool
lists row size = leb row.least size && leb size row.most

-- MSG-TOTAL: the total with n bytes of application data, which only a row of more than one total has
unfoldable pub total_of : Listed → ℕ → ℕ
total_of row n =
    when ltb row.least row.most answer row.least + n else
    row.least
