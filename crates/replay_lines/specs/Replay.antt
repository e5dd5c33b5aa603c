-- The replay of a trace: the machine that takes a turn for each record, and what it prints for a whole trace.
-- Assumes nothing.
use Rattle.std.specs.Prelude.{ℕ, ◌+◌, ◌≡◌, true, false, List, length, replicate}
use Rattle.connection.specs.declared.Connection.{Connection}
use Rattle.connection.specs.Connection.{all_zero}
use Rattle.table.specs.Table.{most_records}
use Rattle.pieces.specs.Machine.{Turn, Machine, prints_for}
use Rattle.trace.specs.Record.{record_of, size_of, record_bytes, most_record}
use Rattle.trace.specs.Call.{room, made_on}
use Rattle.trace.specs.declared.Record.{Record}
use Rattle.trace.specs.declared.Next.{Next}
use Rattle.trace.specs.declared.Next.TheVariants.{End, Bad, Whole}
use Rattle.text.specs.Line.{end_of}
use Rattle.replay_lines.specs.Printed.{heading, line_of, bad_of, most_line}
use Rattle.replay_lines.specs.declared.Progress.{Progress}

-- TRACE-5: 64 closed slots
abbrev pub start_of : Progress
start_of = record { table = replicate most_records all_zero; count = 0; stopped = false }

-- TRACE-6: an out buffer of that room
unfoldable pub any_out : List ℕ
any_out = replicate room 0

-- TRACE-6: what an out buffer of that room holds is nothing to what a record's call says, and nothing to the table after it.
abbrev pub WhateverOutHolds : Type 0
WhateverOutHolds =
    (table : List Connection) (r : Record) (bytes out : List ℕ) → length out ≡ room
    → ((made_on table r bytes out).answer ≡ (made_on table r bytes any_out).answer)
    × ((made_on table r bytes out).table ≡ (made_on table r bytes any_out).table)

-- the last turn: no byte is used up
abbrev pub stops : Progress → List ℕ → Turn Progress
stops p text =
    record { text = text; used = 0; next = record { table = p.table; count = p.count; stopped = true }; lent = λ (out : List ℕ). out }

-- TRACE-13: one line a record
abbrev pub replayed : Progress → Record → List ℕ → Turn Progress
replayed p r bytes =
    record {
      text = line_of r.slot (made_on p.table r bytes any_out).answer.number (made_on p.table r bytes any_out).answer.age;
      used = size_of r;
      next = record { table = (made_on p.table r bytes any_out).table; count = p.count + 1; stopped = false };
      lent = λ (out : List ℕ). (made_on p.table r bytes out).out;
    }

-- at the end of the trace the last line; TRACE-12: at a bad record the line `bad` and no turn after it; TRACE-14: the last line behind it,
-- which counts the records before it
abbrev pub turn_on : Progress → Next → List ℕ → Turn Progress
turn_on p End rest = stops p (end_of p.count)
turn_on p Bad rest = stops p (bad_of p.count)
turn_on p (Whole r) rest = replayed p r (record_bytes rest r)

-- the turn on the bytes that are left of a trace
abbrev pub turn_of : Progress → List ℕ → Turn Progress
turn_of p rest = turn_on p (record_of rest) rest

-- TRACE-16: the replay as a machine
abbrev pub replay : Machine Progress
replay =
    record {
      first = start_of;
      heading = heading;
      stopped = λ (p : Progress). p.stopped;
      turn = turn_of;
      most_seen = most_record;
      most_text = most_line;
    }

-- TRACE-13: what the replay prints for a trace
abbrev pub replay_of : List ℕ → List ℕ
replay_of trace = prints_for replay trace
