-- The rows of either class, one law a row: which tests pick it.
-- Assumes nothing.
use Prim.Native.Nat.{ℕ}
use mathlib.Core.Path.{◌≡◌}
use mathlib.Core.Bool.{Bool, true, false}
use mathlib.Core.List.{List}
use borrow.Author.Tests.{eq-eqb}
use Rattle.packet.specs.Packet.{packet_header_at, check_at, flag_of}
use Rattle.links.specs.declared.State.{State}
use Rattle.links.specs.declared.Taken.{Taken}
use Rattle.links.specs.Taken.{nothing_changes}
use Rattle.links.specs.Table.{length_at, length_fault, both_down, link_rows}

module _ (found normal : Bool) (s : List ℕ) (at : ℕ) (state : State) (rest : Taken) where
  pub row_308 : both_down state ≡ true → nothing_changes 308 state ≡ link_rows found normal s at state rest
  unfolding link_rows
  row_308 b = simp b

  pub row_301 : both_down state ≡ false → found ≡ false → nothing_changes 301 state ≡ link_rows found normal s at state rest
  unfolding link_rows
  row_301 b h = simp (b, h)

-- a packet that is looked at, its length, its check and its flag right
pub row_class : (normal : Bool) (s : List ℕ) (at : ℕ) (state : State) (rest : Taken) → both_down state ≡ false → length_fault (length_at s at) ≡ false
    → (packet_header_at s at).check ≡ check_at s at → (packet_header_at s at).flag ≡ flag_of normal → rest ≡ link_rows true normal s at state rest
unfolding link_rows
row_class normal s at state rest b l c f = simp (b, l, eq-eqb _ _ c, eq-eqb _ _ f)
