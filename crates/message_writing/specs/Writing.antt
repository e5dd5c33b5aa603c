-- Writing a message: its bytes, and when none is written.
use Rattle.std.specs.Prelude.{ℕ, Bool, true, not, ◌&&◌, List, [], ◌++◌, eqb, leb, length}
use Rattle.rules.specs.Rows.{when◌answer◌else◌}
use Rattle.field.specs.Row.{row_of}
use Rattle.clock.specs.declared.Offset.{Offset}
use Rattle.message.specs.Table.{table_of, lists, total_of}
use Rattle.message.specs.Layout.{header_widths, header_fields, offset_widths, offset_fields, widths_of, after_fields}
use Rattle.message.specs.Read.{later_stamp, check_over}
use Rattle.message.specs.declared.Header.{Header}
use Rattle.message.specs.declared.Tail.{Tail}
use Rattle.message.specs.declared.After.{After}
use Rattle.message.specs.declared.After.TheVariants.{Period, Nothing, Offsets, Check, Data}

-- MSG-HEAD: its bytes
abbrev pub header_bytes : Header → List ℕ
header_bytes h = row_of header_widths (header_fields h)

-- MSG-SIGN: an offset's bytes, of which NUM-15 is one
abbrev pub offset_bytes : Offset → List ℕ
offset_bytes offset = row_of offset_widths (offset_fields offset)

-- MSG-DATA: the application data lent, in a type that has data
abbrev pub data_in : After → List ℕ → List ℕ
data_in Period lent = []
data_in Nothing lent = []
data_in Offsets lent = []
data_in Check lent = []
data_in Data lent = lent

-- MSG-1 to MSG-6: what follows the header, fields or application data
abbrev pub after_bytes : After → Tail → List ℕ → List ℕ
after_bytes after t lent = row_of (widths_of after) (after_fields after t) ++ data_in after lent

-- MSG-1 to MSG-6: all bytes of a message
abbrev pub message_bytes : Header → Tail → List ℕ → List ℕ
message_bytes h t lent = header_bytes h ++ after_bytes (table_of h.kind).after t lent

-- MSG-WRITE: as many bytes of application data lent as the tail says, in a type that has data
abbrev pub lent_as_said : After → ℕ → ℕ → Bool
lent_as_said Period said n = true
lent_as_said Nothing said n = true
lent_as_said Offsets said n = true
lent_as_said Check said n = true
lent_as_said Data said n = eqb said n

-- MSG-WRITE: what reading does not call malformed, of a message with n bytes of data lent
unfoldable pub allowed_of : Header → Tail → ℕ → Bool
allowed_of h t n =
    lists (table_of h.kind) (total_of (table_of h.kind) n)
    && not (later_stamp h)
    && not (check_over t.check)
    && lent_as_said (table_of h.kind).after t.«data» n

-- MSG-WRITE: whether a message is written, where it is allowed and the out buffer has room for its total
unfoldable pub writes : ℕ → Header → Tail → ℕ → Bool
writes room h t n = allowed_of h t n && leb (total_of (table_of h.kind) n) room

-- MSG-WRITE: the bytes that are written from the start of the out buffer, none where the message is not written
unfoldable pub message_written : ℕ → Header → Tail → List ℕ → List ℕ
message_written room h t lent =
    when writes room h t (length lent) answer message_bytes h t lent else
    []
