-- A connection record in the lines of calls: the most text that is put for one.
-- Assumes nothing.
use Rattle.std.specs.Prelude.{ℕ, ◌+◌, ◌*◌}
use Rattle.text.specs.Line.{most_number, most_offset}

-- the most text of T_start, T_off and the error limit
abbrev pub most_limits_text : ℕ
most_limits_text = 3 * most_number

-- the settings: N, T_max and E, and these
abbrev pub most_settings_text : ℕ
most_settings_text = 3 * most_number + most_limits_text

-- own number and period
abbrev pub most_own_text : ℕ
most_own_text = 2 * most_number

-- the peer's number, stamp and arrival
abbrev pub most_peer_text : ℕ
most_peer_text = 3 * most_number

-- min and max
abbrev pub most_offsets_text : ℕ
most_offsets_text = 2 * most_offset

-- the start of the wait, the offsets, the error counter and the remembered clock
abbrev pub most_rest_text : ℕ
most_rest_text = most_number + most_offsets_text + 2 * most_number

-- the most text of a record: the phase, and these groups
abbrev pub most_record_text : ℕ
most_record_text = most_number + most_settings_text + most_own_text + most_peer_text + most_rest_text
