-- 01's samples of what the replay prints, by computation.
-- Assumes nothing.
use mathlib.Core.Path.{refl}
use Rattle.field.specs.Field.{field_of, bytes_of}
use Rattle.text.specs.Text.{decimal_in}
use Rattle.connection.specs.Connection.{◌outside◌to◌}
use Rattle.calls.specs.Calls.{bad, close_refusal, tick_refusal, tick_outcome}
use Rattle.table.specs.Table.{bad_slot, made_at}
use Rattle.pieces.specs.Machine.{prints_in}
use Rattle.trace.specs.Record.{wrong_mark, unknown_kind, length_over, cut_record, record_of}
use Rattle.trace.specs.Call.{call_of}
use Rattle.replay_lines.specs.Samples as the

pub samples : the.Samples
unfolding field_of bytes_of decimal_in ◌outside◌to◌ bad close_refusal tick_refusal tick_outcome bad_slot made_at wrong_mark unknown_kind length_over cut_record record_of call_of prints_in
samples = record { one_tick = refl; empty = refl }
