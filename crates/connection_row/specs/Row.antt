-- FIELD-2, ROW-1: settings and a whole record as bytes. Each layout is said once, as the list of its widths, for reading and for writing.
use Rattle.std.specs.Prelude.{ℕ, List, [], ◌∷◌, ◌++◌, pos, ◌-ℤ◌, get_or, drop}
use Rattle.clock.specs.Clock.{wrapped, centred}
use Rattle.clock.specs.declared.Count.{Count}
use Rattle.clock.specs.declared.Offset.{Offset}
use Rattle.field.specs.Row.{fields_of, row_of, width_of}
use Rattle.connection.specs.Connection.{of_parts}
use Rattle.connection.specs.declared.Settings.{Settings}
use Rattle.connection.specs.declared.Connection.{Connection}

-- N, T_max, E, T_start, T_off, the error limit
abbrev pub settings_widths : List ℕ
settings_widths = 2 ∷ 4 ∷ 4 ∷ 4 ∷ 4 ∷ 1 ∷ []

-- the settings of these fields, in this order
abbrev pub settings_from : List ℕ → Settings
settings_from fields =
    record {
      n = get_or fields 0 0;
      t_max = get_or fields 1 0;
      e = get_or fields 2 0;
      t_start = get_or fields 3 0;
      t_off = get_or fields 4 0;
      limit = get_or fields 5 0;
    }

-- the numbers of settings, in this order
abbrev pub settings_numbers : Settings → List ℕ
settings_numbers s = s.n ∷ s.t_max ∷ s.e ∷ s.t_start ∷ s.t_off ∷ s.limit ∷ []

-- ROW-1: the phase, the settings, own number and period, the peer's number, stamp and arrival, the start of the wait, min, max, the error
-- counter, the remembered clock
abbrev pub row_widths : List ℕ
row_widths = 1 ∷ (settings_widths ++ (2 ∷ 4 ∷ 2 ∷ 4 ∷ 4 ∷ 4 ∷ 4 ∷ 4 ∷ 1 ∷ 4 ∷ []))

-- a count stands as it is
abbrev pub count_from : ℕ → Count
count_from n = record { 0 = n }

-- an offset stands in two's complement
abbrev pub offset_from : ℕ → Offset
offset_from n = record { 0 = centred (pos n -ℤ pos 0) }

-- ROW-1: the record of these fields, in this order
abbrev pub connection_from : List ℕ → Connection
connection_from fields =
    of_parts (get_or fields 0 0) (settings_from (drop 1 fields))
    (record { number = get_or fields 7 0; period = get_or fields 8 0 })
    (record { number = get_or fields 9 0; stamp = count_from (get_or fields 10 0); arrival = count_from (get_or fields 11 0) })
    (count_from (get_or fields 12 0))
    (record { min = offset_from (get_or fields 13 0); max = offset_from (get_or fields 14 0) })
    (get_or fields 15 0)
    (count_from (get_or fields 16 0))

-- ROW-1: how many bytes a row has
abbrev pub row_size : ℕ
row_size = width_of row_widths

-- ROW-1: the record that a row stands for
unfoldable pub stands_for : List ℕ → Connection
stands_for row = connection_from (fields_of row_widths row 0)

-- ROW-1: an offset's two's complement
abbrev pub offset_number : Offset → ℕ
offset_number offset = wrapped offset.0

-- ROW-1: the numbers of a record, in this order
abbrev pub numbers_of : Connection → List ℕ
numbers_of c =
    c.phase
    ∷ (settings_numbers c.settings
    ++ (c.own.number
    ∷ c.own.period
    ∷ c.peer.number
    ∷ c.peer.stamp.0
    ∷ c.peer.arrival.0
    ∷ c.wait_start.0
    ∷ offset_number c.offsets.min
    ∷ offset_number c.offsets.max
    ∷ c.errors
    ∷ c.clock.0
    ∷ []))

-- ROW-1: the row of a record
unfoldable pub row_bytes : Connection → List ℕ
row_bytes c = row_of row_widths (numbers_of c)
