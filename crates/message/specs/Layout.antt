-- The fields of a message, in their order: said once as widths, for reading and for writing.
use Rattle.std.specs.Prelude.{ℕ, List, [], ◌∷◌, ◌++◌, get_or, pos, Option, Some, None}
use Rattle.clock.specs.Clock.{sign_magnitude_of, offset_read}
use Rattle.clock.specs.declared.Offset.{Offset}
use Rattle.clock.specs.declared.Offset.{Offset}
use Rattle.message.specs.declared.Header.{Header}
use Rattle.message.specs.declared.Tail.{Tail}
use Rattle.message.specs.declared.Message.{Message}
use Rattle.message.specs.declared.After.{After}
use Rattle.message.specs.declared.After.TheVariants.{Period, Nothing, Offsets, Check, Data}

-- MSG-HEAD: type 1, number 2, sender stamp 4, last peer stamp 4, own count at its arrival 4
abbrev pub header_widths : List ℕ
header_widths = 1 ∷ 2 ∷ 4 ∷ 4 ∷ 4 ∷ []

-- MSG-HEAD: its fields, for writing
abbrev pub header_fields : Header → List ℕ
header_fields h = h.kind ∷ h.number ∷ h.stamp.0 ∷ h.last_peer_stamp.0 ∷ h.arrival.0 ∷ []

-- MSG-HEAD: its fields, as read
abbrev pub header_from : List ℕ → Header
header_from f =
    record {
      kind = get_or f 0 0;
      number = get_or f 1 0;
      stamp = record { 0 = get_or f 2 0 };
      last_peer_stamp = record { 0 = get_or f 3 0 };
      arrival = record { 0 = get_or f 4 0 };
    }

-- MSG-SIGN: sign 1, magnitude 4
abbrev pub offset_widths : List ℕ
offset_widths = 1 ∷ 4 ∷ []

-- after the header: MSG-1, MSG-2 period 4; MSG-3 nothing; MSG-4 sign 1, min 4, sign 1, max 4; MSG-5 check byte; MSG-6 data, which is
-- no field
abbrev pub widths_of : After → List ℕ
widths_of Period = 4 ∷ []
widths_of Nothing = []
widths_of Offsets = offset_widths ++ offset_widths
widths_of Check = 1 ∷ []
widths_of Data = []

-- MSG-FIELDS: all that a message may have after its header
abbrev pub tail : ℕ → Offset → Offset → ℕ → ℕ → Tail
tail period min max check n = record { period = period; min = min; max = max; check = check; «data» = n }

-- MSG-FIELDS: an offset that a type does not have
abbrev pub no_offset : Offset
no_offset = record { 0 = pos 0 }

-- MSG-1, MSG-2: the period; MSG-FIELDS: here and below, what the type does not have is 0
abbrev pub period_tail : ℕ → Tail
period_tail period = tail period no_offset no_offset 0 0

-- MSG-3: nothing (MSG-FIELDS)
abbrev pub empty_tail : Tail
empty_tail = tail 0 no_offset no_offset 0 0

-- MSG-4: min and max (MSG-FIELDS)
abbrev pub offsets_tail : Offset → Offset → Tail
offsets_tail min max = tail 0 min max 0 0

-- MSG-5: the check byte (MSG-FIELDS)
abbrev pub check_tail : ℕ → Tail
check_tail check = tail 0 no_offset no_offset check 0

-- MSG-6: how many bytes of application data (MSG-FIELDS)
abbrev pub data_tail : ℕ → Tail
data_tail n = tail 0 no_offset no_offset 0 n

-- a message, of its header and its tail
abbrev pub whole : Header → Tail → Message
whole h t = record { header = h; tail = t }

-- MSG-SIGN: an offset goes as sign and magnitude
abbrev pub offset_fields : Offset → List ℕ
offset_fields offset = (sign_magnitude_of offset.0).sign ∷ (sign_magnitude_of offset.0).magnitude ∷ []

-- MSG-1 to MSG-5: the fields after the header, for writing
abbrev pub after_fields : After → Tail → List ℕ
after_fields Period t = t.period ∷ []
after_fields Nothing t = []
after_fields Offsets t = offset_fields t.min ++ offset_fields t.max
after_fields Check t = t.check ∷ []
after_fields Data t = []

-- MSG-PAIR: min and max as read, each of which must be a pair that MSG-SIGN has
abbrev pub offsets_from : Option Offset → Option Offset → Option Tail
offsets_from None max = None
offsets_from (Some min) None = None
offsets_from (Some min) (Some max) = Some (offsets_tail min max)

-- MSG-1 to MSG-6: the fields after the header, as read; n is how many bytes stand after it
abbrev pub tail_from : After → List ℕ → ℕ → Option Tail
tail_from Period f n = Some (period_tail (get_or f 0 0))
tail_from Nothing f n = Some empty_tail
tail_from Offsets f n = offsets_from (offset_read (get_or f 0 0) (get_or f 1 0)) (offset_read (get_or f 2 0) (get_or f 3 0))
tail_from Check f n = Some (check_tail (get_or f 0 0))
tail_from Data f n = Some (data_tail n)
