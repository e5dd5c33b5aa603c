-- A record of a trace: its layout, said once, and when it is bad.
-- Assumes nothing.
use Rattle.std.specs.Prelude.{ℕ, ◌+◌, Bool, not, ◌||◌, List, [], ◌∷◌, eqb, ltb, length, get_or, take, drop}
use Rattle.rules.specs.Rows.{when◌answer◌else◌}
use Rattle.field.specs.Row.{fields_of, width_of}
use Rattle.connection.specs.Connection.{◌outside◌to◌}
use Rattle.trace.specs.declared.Record.{Record}
use Rattle.trace.specs.declared.Next.{Next}
use Rattle.trace.specs.declared.Next.TheVariants.{End, Bad, Whole}

-- TRACE-1: mark, kind, slot, now and length, big-endian (FIELD-1); the bytes follow them
abbrev pub widths : List ℕ
widths = 2 ∷ 1 ∷ 1 ∷ 4 ∷ 2 ∷ []

-- TRACE-1: the fields by their names, in this order
abbrev pub named : List ℕ → Record
named fields = record {
  mark = get_or fields 0 0;
  kind = get_or fields 1 0;
  slot = get_or fields 2 0;
  now = record { 0 = get_or fields 3 0 };
  length = get_or fields 4 0;
}

-- the fields of the record that stands first
abbrev pub fields_at : List ℕ → Record
fields_at s = named (fields_of widths s 0)

-- TRACE-1: how many bytes its fields take, and the whole record:
abbrev pub fields_size : ℕ
fields_size = width_of widths

abbrev pub size_of : Record → ℕ
size_of r = fields_size + r.length

-- TRACE-1: its bytes
abbrev pub record_bytes : List ℕ → Record → List ℕ
record_bytes s r = take r.length (drop fields_size s)

-- TRACE-10: the most bytes behind a record's fields, and the most of a whole record:
abbrev pub most_record_bytes : ℕ
most_record_bytes = 1000

abbrev pub most_record : ℕ
most_record = fields_size + most_record_bytes

-- TRACE-1: the mark
abbrev pub mark : ℕ
mark = 0x5232

-- TRACE-2: the kinds, by their numbers:
abbrev pub begin_kind : ℕ
begin_kind = 1

abbrev pub receive_kind : ℕ
receive_kind = 2

abbrev pub send_kind : ℕ
send_kind = 3

abbrev pub tick_kind : ℕ
tick_kind = 4

abbrev pub close_kind : ℕ
close_kind = 5

-- TRACE-8
unfoldable pub wrong_mark : Record → Bool
wrong_mark r = not (eqb r.mark mark)

-- TRACE-9
unfoldable pub unknown_kind : Record → Bool
unknown_kind r = r.kind outside begin_kind to close_kind

-- TRACE-10
unfoldable pub length_over : Record → Bool
length_over r = ltb most_record_bytes r.length

-- TRACE-8, TRACE-9, TRACE-10: its fields alone show that it is bad
abbrev pub bad_fields : Record → Bool
bad_fields r = wrong_mark r || unknown_kind r || length_over r

-- TRACE-11: the end of the trace cuts it
unfoldable pub cut_record : List ℕ → Record → Bool
cut_record s r = ltb (length s) (size_of r)

-- TRACE-8 to TRACE-11: what stands first in the bytes that are left of a trace
unfoldable pub record_of : List ℕ → Next
record_of s =
    when eqb (length s) 0 answer End else
    when bad_fields (fields_at s) || cut_record s (fields_at s) answer Bad else
    Whole (fields_at s)
