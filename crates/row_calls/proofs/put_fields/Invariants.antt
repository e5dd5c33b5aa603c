-- `row_calls::put_fields` meets its contract: after i turns the first i numbers stand in the row, and they fit. Assumes nothing.
use Prim.Native.Nat.{◌-◌, ◌≤◌}
use mathlib.Core.Path.{◌≡◌}
use lib.ListN.{length, take, drop}
use lib.Seq.{sets}
use Rattle.field.specs.Row.{row_of, width_of}
use Rattle.connection_row.specs.Row.{row_widths}
use Rattle.row_calls.specs.Numbers.{field_count, fits}
use Rattle.row_calls.proofs.put_fields.Given as goal

abbrev pub invariant-loop-i : goal.invariant-loop-i
invariant-loop-i l =
    (l.at ≡ width_of (take l.i row_widths))
    × (length l.row ≡ length l.initial.row)
    × (l.row ≡ sets l.initial.row 0 (row_of (take l.i row_widths) (take l.i l.fields)))
    × (fits (drop l.i row_widths) (drop l.i l.fields) ≡ fits row_widths l.fields)
