-- ROW-11: what is written and read back, of rows: each row that is accepted stands for one record, and each record has one row.
use Rattle.std.specs.Prelude.{ℕ, ◌^◌, ◌<◌, ◌≤◌, ◌≡◌, true, false, List, ◌⊎◌, length, take, Some}
use Rattle.std.proofs.lemmas.List.Edits.{sets}
use Rattle.std.specs.Int.Signed.{mag}
use Rattle.field.specs.Row.{fields_of, row_of, Bytes}
use Rattle.connection.specs.declared.Settings.{Settings}
use Rattle.connection.specs.declared.Own.{Own}
use Rattle.connection.specs.declared.Peer.{Peer}
use Rattle.connection.specs.declared.Offsets.{Offsets}
use Rattle.connection.specs.declared.Connection.{Connection}
use Rattle.connection.specs.Connection.{unsound, all_zero}
use Rattle.connection_row.specs.Row.{row_widths, row_size, connection_from, stands_for, numbers_of, row_bytes}
use Rattle.connection_row.specs.Stored.{row_refusal, row_read, wrote, row_stored, row_written}
use Rattle.row_calls.specs.Numbers.{field_count, fits, fields_read, fields_written}

-- ROW-11: what a record of machine numbers holds, u8, u16, u32, and i32 for an offset; its parts:
pub record SettingsRanges (s : Settings) : Type 0 where
  pub n : s.n < 2 ^ 16
  pub t_max : s.t_max < 2 ^ 32
  pub e : s.e < 2 ^ 32
  pub t_start : s.t_start < 2 ^ 32
  pub t_off : s.t_off < 2 ^ 32
  pub limit : s.limit < 2 ^ 8

pub record OwnRanges (own : Own) : Type 0 where
  pub number : own.number < 2 ^ 16
  pub period : own.period < 2 ^ 32

pub record PeerRanges (peer : Peer) : Type 0 where
  pub number : peer.number < 2 ^ 16
  pub stamp : peer.stamp.0 < 2 ^ 32
  pub arrival : peer.arrival.0 < 2 ^ 32

pub record OffsetsRanges (offsets : Offsets) : Type 0 where
  pub min : mag offsets.min.0 < 2 ^ 31
  pub max : mag offsets.max.0 < 2 ^ 31

-- ROW-11: and the whole
pub record Ranges (c : Connection) : Type 0 where
  pub phase : c.phase < 2 ^ 8
  pub settings : SettingsRanges c.settings
  pub own : OwnRanges c.own
  pub peer : PeerRanges c.peer
  pub wait : c.wait_start.0 < 2 ^ 32
  pub offsets : OffsetsRanges c.offsets
  pub errors : c.errors < 2 ^ 8
  pub clock : c.clock.0 < 2 ^ 32

-- ROW-3, ROW-4: a valid connection: all zero, or not closed and not as RECORD-1 says (whose phases are not closed)
abbrev pub Storable : Connection → Type 0
Storable c = (c ≡ all_zero) ⊎ (unsound c ≡ false)

-- ROW-11: a connection that was written is read back from the start of what was lent
abbrev pub WrittenReadsBack : Type 0
WrittenReadsBack =
    (c : Connection) (out : List ℕ) → Ranges c → (row_written c out).number ≡ 0
    → row_read (take row_size (row_written c out).lent) ≡ Some c

-- ROW-11: what reading accepts writes back as the same bytes
abbrev pub ReadWritesBack : Type 0
ReadWritesBack = (row : List ℕ) (c : Connection) → Bytes row → row_read row ≡ Some c → row_bytes c ≡ row

-- ROW-11: a row of a valid connection
pub record RowOfValid (row : List ℕ) : Type 0 where
  pub connection : Connection
  pub ranges : Ranges connection
  pub valid : Storable connection
  pub its_row : row ≡ row_bytes connection

-- ROW-11: reading accepts exactly these rows
pub record AcceptsExactly (row : List ℕ) : Type 0 where
  pub accepted_is_valid : row_refusal row ≡ 0 → RowOfValid row
  pub valid_is_accepted : RowOfValid row → row_refusal row ≡ 0

-- ROW-5: a connection of machine numbers is written exactly where it is valid
pub record WritesExactly (c : Connection) : Type 0 where
  pub written_is_valid : row_refusal (row_bytes c) ≡ 0 → Storable c
  pub valid_is_written : Storable c → row_refusal (row_bytes c) ≡ 0

-- ROW-9, ROW-10: the numbers that C reads are those of the connection that the row stands for, and the row that C writes is its row
pub record NumbersAre : Type 0 where
  pub read : (row : List ℕ) → Bytes row → row_refusal row ≡ 0 → fields_of row_widths row 0 ≡ numbers_of (stands_for row)
  pub written : (fields : List ℕ) → fits row_widths fields ≡ true → row_of row_widths fields ≡ row_bytes (connection_from fields)

-- ROW-9, ROW-10, ROW-11, from C: numbers that were written as a row are read from it again, and a row that was read as numbers is written
-- from them again
pub record NumbersBack : Type 0 where
  pub written_read : (fields row out : List ℕ) → (fields_written fields row).number ≡ 0 → field_count ≤ length out
      → fields_read (take row_size (fields_written fields row).lent) out ≡ wrote 0 (sets out 0 fields)
  pub read_written : (row out other : List ℕ) → Bytes row → (fields_read row out).number ≡ 0
      → fields_written (take field_count (fields_read row out).lent) other ≡ row_stored row other
