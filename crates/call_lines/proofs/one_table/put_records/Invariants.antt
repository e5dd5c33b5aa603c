-- `call_lines::one_table::put_records` is safe: each record has its room. Assumes nothing.
use Rattle.std.proofs.Common.{◌≡◌, ◌+◌, ◌*◌, ◌≤◌, length}
use Rattle.text.specs.Text.{left, room_of}
use Rattle.call_lines.specs.Record.{most_record_text}
use Rattle.call_lines.proofs.one_table.put_records.Given as goal

abbrev pub invariant-loop-c : goal.invariant-loop-c
invariant-loop-c g l =
    let held = g.O.Holds.held in
    record {
      room : left (held l.initial.out) ≤ left (held l.out) + l.c-index * most_record_text;
      text : length (held l.out).text ≤ length (held l.initial.out).text + l.c-index * most_record_text;
      same : room_of (held l.out) ≡ room_of (held l.initial.out);
    }
