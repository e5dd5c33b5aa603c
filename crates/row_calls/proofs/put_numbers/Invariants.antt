-- `row_calls::put_numbers` meets its contract: after i turns the first i fields of the row stand in fields. Assumes nothing.
use Prim.Native.Nat.{◌-◌, ◌≤◌}
use mathlib.Core.Path.{◌≡◌}
use lib.ListN.{length, take}
use lib.Seq.{sets}
use Rattle.field.specs.Row.{fields_of, width_of}
use Rattle.connection_row.specs.Row.{row_widths}
use Rattle.row_calls.specs.Numbers.{field_count}
use Rattle.row_calls.proofs.put_numbers.Given as goal

abbrev pub invariant-loop-i : goal.invariant-loop-i
invariant-loop-i l =
    (l.at ≡ width_of (take l.i row_widths))
    × (length l.fields ≡ length l.initial.fields)
    × (l.fields ≡ sets l.initial.fields 0 (take l.i (fields_of row_widths l.row 0)))
