-- One read: what it gave, as its answer says.
-- Assumes nothing.
use Rattle.std.proofs.Common.{ℕ, ◌≡◌, ◌≤◌, ◌<◌, refl, sym, ◌∙◌, true, false, Result, Ok, Err, arith}
use Rattle.std.specs.Result.{result_unwrap_or}
use borrow.Author.Tests.{eq-eqb}
use Rattle.rules.proofs.Tests.{tests}
use Rattle.window.specs.Answers.{Moved, clamp_len}
use Rattle.window.specs.Window.{is_failure, failed_by, is_nought, ended_by, came_by}
use Rattle.window.specs.declared.Read.{Read}

-- a read with room is the end where it answers 0
pub ended_is : (r : Read) → (r.room ≡ 0 → ⊥) → is_nought r.got ≡ ended_by r
unfolding ended_by
ended_is r some = search tests

-- a read with room that gave no byte has failed, or is the end of the file
pub none_came : (r : Read) → 0 < r.room → came_by r ≡ 0 → failed_by r ≡ false → ended_by r ≡ true
none_came r some none ok = sym (ended_is r (λ e. omega arith)) ∙ by r.room r.got some none ok
  where
    by : {E : Type 0} (room : ℕ) (got : Result ℕ E) → 0 < room → clamp_len got room ≡ 0 → is_failure got ≡ false → is_nought got ≡ true
    by room (Ok k) h e f = eq-eqb k 0 (omega arith)
    by room (Err why) h e f = sym f

-- a read gives no more bytes than it had room for
pub at_most : (r : Read) → came_by r ≤ r.room
at_most r = by r.got r.room
  where
    by : {E : Type 0} (got : Result ℕ E) (room : ℕ) → clamp_len got room ≤ room
    by (Ok k) room = omega arith
    by (Err why) room = omega arith

-- what it gave is what it answered, or nothing where it failed
pub unwrapped : {E : Type 0} (got : Result ℕ E) (room : ℕ) → Moved room got → result_unwrap_or got 0 ≡ clamp_len got room
unwrapped (Ok k) room fits = omega (arith, fits)
unwrapped (Err why) room fits = refl
