-- What reading a row says of it.
-- Assumes nothing.
use Prim.Native.Nat.{ℕ, ◌≤◌}
use mathlib.Core.Path.{◌≡◌, refl, sym, ap, ◌∙◌}
use mathlib.Core.Bool.{Bool, true, false, not, ◌&&◌}
use mathlib.Core.List.{List}
use native.Mathlib.Omega.{arith}
use borrow.Author.Tests.{eqb-true, eq-eqb, le-ltb}
use lib.Dec.{eqb}
use lib.ListN.{length}
use lib.Seq.{sets}
use Rattle.rules.specs.Rows.{when◌answer◌else◌}
use Rattle.connection.specs.declared.Connection.{Connection}
use Rattle.connection.specs.Connection.{closed, unsound}
use Rattle.std.specs.Prelude.{Option, Some, None, is_some}
use Rattle.connection_row.specs.Row.{row_size, stands_for}
use Rattle.connection_row.specs.Stored.{zeros, row_refusal, row_read, wrote, row_stored}

module _ (row : List ℕ) where
  -- the rows of `row_refusal`, by their tests
  abbrev judged : Bool → Bool → Bool → ℕ
  judged a b d =
      when a answer 109 else
      when b answer 109 else
      when d answer 109 else
      0

  -- it is refused with 109 or not at all
  pub refused_with_109 : eqb (row_refusal row) 0 ≡ false → row_refusal row ≡ 109
  unfolding row_refusal
  refused_with_109 =
      go (not (eqb (length row) row_size)) (eqb (stands_for row).phase closed && not (zeros row))
      (not (eqb (stands_for row).phase closed) && unsound (stands_for row))
    where
      go : (a b d : Bool) → eqb (judged a b d) 0 ≡ false → judged a b d ≡ 109
      go true b d e = refl
      go false true d e = refl
      go false false true e = refl
      go false false false e = let z : ◌≡◌ {A = ℕ} 0 1 = cc in let q : ⊥ = omega arith in absurd q

  pub accepted_size : row_refusal row ≡ 0 → length row ≡ row_size
  unfolding row_refusal
  accepted_size e = eqb-true (length row) row_size (go (eqb (length row) row_size) e)
    where
      go : (a : Bool) → judged (not a) (eqb (stands_for row).phase closed && not (zeros row))
          (not (eqb (stands_for row).phase closed) && unsound (stands_for row)) ≡ 0 → a ≡ true
      go true e = refl
      go false e = let q : ⊥ = omega arith in absurd q

  -- what was read, by whether the row is refused
  abbrev read_by : Bool → Option Connection
  read_by b = when b answer Some (stands_for row) else None

  pub read_accepted : (r : Option Connection) (c : Connection) → r ≡ row_read row → r ≡ Some c → (eqb (row_refusal row) 0 ≡ true) × (stands_for row ≡ c)
  unfolding row_read
  read_accepted r c e f = go (eqb (row_refusal row) 0) (sym e ∙ f)
    where
      go : (b : Bool) → read_by b ≡ Some c → (b ≡ true) × (stands_for row ≡ c)
      go true q = (refl, cc)
      go false q = let z : ◌≡◌ {A = ℕ} 0 1 = cc in let q : ⊥ = omega arith in absurd q

  pub read_or_not : is_some (row_read row) ≡ eqb (row_refusal row) 0
  unfolding row_read
  read_or_not = go (eqb (row_refusal row) 0)
    where
      go : (b : Bool) → is_some (read_by b) ≡ b
      go true = refl
      go false = refl

  pub some_accepted : (r : Option Connection) → r ≡ row_read row → is_some r ≡ true → row_refusal row ≡ 0
  some_accepted r e f = eqb-true (row_refusal row) 0 (sym read_or_not ∙ ap is_some (sym e) ∙ f)

  -- what storing leaves of a row that is not refused
  pub stored_0 : (out left : List ℕ) → row_refusal row ≡ 0 → row_size ≤ length out → left ≡ sets out 0 row → wrote 0 left ≡ row_stored row out
  unfolding row_stored
  stored_0 out left accepted l e = rw (eq-eqb (row_refusal row) 0 accepted, le-ltb (length out) row_size l, e) refl

-- what a test of what was read says of the row
pub ruleset refusals = (refused_with_109, accepted_size, read_or_not)
