-- `connection_row::write_row` meets its contract: its row, made in a buffer of its own, is stored. Assumes nothing.
use Prim.Native.Nat.{ℕ}
use mathlib.Core.Path.{ap, ◌∙◌}
use mathlib.Core.List.{List}
use Rattle.connection_row.specs.Row.{row_bytes}
use Rattle.connection_row.specs.Stored.{row_stored}
use Rattle.connection_row.proofs.Writes.{row_size_lem, all_stored}
use Rattle.connection_row.proofs.write_row.Goals as goal

pub returns : goal.returns
returns c =
    let a = c.args in
    c.store_row.ensures
    ∙ ap (λ (row : List ℕ). row_stored row a.out.now) (c.put_row.ensures ∙ all_stored (row_bytes a.c) _ (row_size_lem a.c))
