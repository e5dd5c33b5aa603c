-- What holds of every row of the table of types, and what a listed total says of the bytes.
-- Assumes nothing.
use Prim.Native.Nat.{ℕ, ◌+◌, ◌-◌, ◌<◌, ◌≤◌}
use Rattle.std.proofs.lemmas.Bool.{and_parts}
use mathlib.Core.Path.{◌≡◌, refl}
use mathlib.Core.Bool.{Bool, true, false}
use native.Mathlib.Omega.{arith}
use borrow.Author.Tests.{leb-true}
use lib.Dec.{eqb, leb}
use Rattle.rules.specs.Rows.{when◌answer◌else◌}
use Rattle.field.specs.Row.{width_of}
use Rattle.message.specs.Table.{offset_start, offset_answ1, offset_answ2, offset_est, offset_end, application}
use Rattle.message.specs.Table.{header_size, most_message, table_of, lists, total_of}
use Rattle.message.specs.Layout.{widths_of}
use Rattle.message.specs.declared.Listed.{Listed}

-- what holds of the six rows, and of the row of a type that is not listed, holds of every row
pub every_row : (P : Listed → Type 0)
    → P (table_of offset_start) → P (table_of offset_answ1) → P (table_of offset_answ2) → P (table_of offset_est) → P (table_of offset_end) → P (table_of application) → P (table_of 0)
    → (type : ℕ) → P (table_of type)
unfolding table_of
every_row P p1 p2 p3 p4 p5 p6 p0 type = go (eqb type offset_start) (eqb type offset_answ1) (eqb type offset_answ2) (eqb type offset_est) (eqb type offset_end) (eqb type application)
  where
    go : (t1 t2 t3 t4 t5 t6 : Bool)
        → P (when t1 answer table_of offset_start else when t2 answer table_of offset_answ1 else when t3 answer table_of offset_answ2 else
        when t4 answer table_of offset_est else when t5 answer table_of offset_end else when t6 answer table_of application else table_of 0)
    go true t2 t3 t4 t5 t6 = p1
    go false true t3 t4 t5 t6 = p2
    go false false true t4 t5 t6 = p3
    go false false false true t5 t6 = p4
    go false false false false true t6 = p5
    go false false false false false true = p6
    go false false false false false false = p0

module _ (row : Listed) (size : ℕ) (e : lists row size ≡ true) where
  pub at_least : row.least ≤ size
  unfolding lists
  at_least = leb-true row.least size (and_parts (leb row.least size) (leb size row.most) e).0

  pub at_most : size ≤ row.most
  unfolding lists
  at_most = leb-true size row.most (and_parts (leb row.least size) (leb size row.most) e).1

-- a listed total has room for the fields after the header
pub fields_within : (row : Listed) (type size : ℕ) → row ≡ table_of type → lists row size ≡ true → header_size + width_of (widths_of row.after) ≤ size
unfolding table_of
fields_within row type size r =
    rw r
    (every_row (λ row. lists row size ≡ true → header_size + width_of (widths_of row.after) ≤ size)
    (at_least _ size)
    (at_least _ size)
    (at_least _ size)
    (at_least _ size)
    (at_least _ size)
    (at_least _ size)
    (λ e. omega (arith, at_least _ size e, at_most _ size e))
    type)

-- fewer bytes than a header has are no total
pub short : (type size : ℕ) → size < header_size → lists (table_of type) size ≡ false
short type size h = go (lists (table_of type) size) refl
  where
    go : (l : Bool) → lists (table_of type) size ≡ l → l ≡ false
    go true e = let z : ⊥ = omega (arith, fields_within (table_of type) type size refl e) in absurd z
    go false e = refl

pub least_small : (type : ℕ) → (table_of type).least ≤ most_message
unfolding table_of
least_small =
    every_row (λ row. row.least ≤ most_message) (omega arith) (omega arith) (omega arith) (omega arith) (omega arith) (omega arith) (omega arith)

-- a total that is listed is the one that its data gives
pub total_there : (type n : ℕ) → lists (table_of type) n ≡ true → total_of (table_of type) (n - header_size) ≡ n
unfolding table_of total_of
total_there type n =
    every_row (λ row. lists row n ≡ true → total_of row (n - header_size) ≡ n)
    (λ e. omega (arith, at_least _ n e, at_most _ n e))
    (λ e. omega (arith, at_least _ n e, at_most _ n e))
    (λ e. omega (arith, at_least _ n e, at_most _ n e))
    (λ e. omega (arith, at_least _ n e, at_most _ n e))
    (λ e. omega (arith, at_least _ n e, at_most _ n e))
    (λ e. omega (arith, at_least _ n e, at_most _ n e))
    (λ e. omega (arith, at_least _ n e, at_most _ n e))
    type
