-- Taking a message apart: any bytes give a message with its fields or malformed.
use Rattle.std.specs.Prelude.{ℕ, ◌+◌, ◌-◌, Bool, not, ◌&&◌, ◌||◌, List, eqb, ltb, get_or, length, drop, Option, Some, None}
use Rattle.std.specs.Borrow.{Bor}
use Rattle.rules.specs.Rows.{when◌answer◌else◌}
use Rattle.clock.specs.Clock.{offset_read}
use Rattle.clock.specs.declared.Offset.{Offset}
use Rattle.field.specs.Row.{fields_of}
use Rattle.message.specs.Table.{offset_start, header_size, table_of, lists}
use Rattle.message.specs.Layout.{header_widths, header_from, offset_widths, widths_of, tail_from, whole}
use Rattle.message.specs.declared.Header.{Header}
use Rattle.message.specs.declared.Tail.{Tail}
use Rattle.message.specs.declared.After.{After}
use Rattle.message.specs.declared.Message.{Message}

-- MSG-HEAD: the first bytes of a message, by their fields
abbrev pub message_header_of : List ℕ → Header
message_header_of s = header_from (fields_of header_widths s 0)

-- MSG-SIGN: the pair of sign and magnitude in s from at
abbrev pub offset_pair_at : List ℕ → ℕ → Option Offset
offset_pair_at s at = offset_read (get_or (fields_of offset_widths s at) 0 0) (get_or (fields_of offset_widths s at) 1 0)

-- MSG-1 to MSG-6: what stands behind the header
abbrev pub tail_of : After → List ℕ → Option Tail
tail_of after s = tail_from after (fields_of (widths_of after) s header_size) (length s - header_size)

-- MSG-DATA: application data starts behind the header
abbrev pub data_of : List ℕ → List ℕ
data_of s = drop header_size s

-- MSG-DATA: and stands there in the message's own memory; the empty part of shorter bytes stands at their front
unfoldable pub data_place : Bor (List ℕ) → ℕ × ℕ
data_place s =
    when ltb (length s.now) header_size answer s.ref_ptr else
    (s.ref_ptr.0, s.ref_ptr.1 + header_size)

-- None: MSG-PAIR, which `offset_read` says of a pair; MSG-LISTED, which `lists` says of a type and a total; MSG-LATER; MSG-CHECK.

-- MSG-LATER: in an OffsetStart, a last peer stamp or an arrival that is not 0
unfoldable pub later_stamp : Header → Bool
later_stamp h = eqb h.kind offset_start && (not (eqb h.last_peer_stamp.0 0) || not (eqb h.arrival.0 0))

-- MSG-CHECK: a check byte over 1
unfoldable pub check_over : ℕ → Bool
check_over check = ltb 1 check

-- MSG-201: of a listed total: its header, and its tail as read
unfoldable pub whole_of : Header → Option Tail → Option Message
whole_of h None = None
whole_of h (Some t) =
    when later_stamp h answer None else
    when check_over t.check answer None else
    Some (whole h t)

-- MSG-LISTED: judged first, for of other totals there are no fields
unfoldable pub parsed_of : List ℕ → Option Message
parsed_of s =
    when not (lists (table_of (message_header_of s).kind) (length s)) answer None else
    whole_of (message_header_of s) (tail_of (table_of (message_header_of s).kind).after s)
