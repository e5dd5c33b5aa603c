-- The worked files, by computation.
-- Assumes nothing.
use mathlib.Core.Path.{refl}
use Rattle.rules.specs.Modulo.{modulo}
use Rattle.clock.specs.Clock.{centred, wrapped}
use Rattle.field.specs.Field.{field_of, bytes_of}
use Rattle.text.specs.Text.{decimal_in, same_word}
use Rattle.connection.specs.Connection.{◌outside◌to◌}
use Rattle.calls.specs.Calls.{bad, close_refusal, tick_refusal, tick_outcome}
use Rattle.table.specs.Table.{bad_slot, made_at}
use Rattle.trace.specs.Record.{wrong_mark, unknown_kind, length_over, cut_record, record_of}
use Rattle.trace.specs.Call.{call_of}
use Rattle.recorded_answer.specs.Answer.{answers_to, behind_of}
use Rattle.recorder_file.specs.Said.{wrong_length, why_bad}
use Rattle.recorder_file.specs.Check.{checked_in}
use Rattle.checker_promises.specs.Worked as the

pub worked_files : the.WorkedFiles
unfolding modulo centred wrapped field_of bytes_of decimal_in same_word ◌outside◌to◌ bad close_refusal tick_refusal tick_outcome bad_slot made_at wrong_mark unknown_kind length_over cut_record record_of call_of answers_to behind_of wrong_length why_bad checked_in
worked_files = record {
  none = refl;
  right = refl;
  some = refl;
  number = refl;
  released = refl;
  age = refl;
  more = refl;
  place = refl;
  less = refl;
  first = refl;
  doubled = refl;
}
