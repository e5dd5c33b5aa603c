-- What the value of a compound test says of its parts, and what holds of a row by its test.
-- Assumes nothing.
use mathlib.Core.Path.{◌≡◌, refl, sym}
use mathlib.Core.Bool.{Bool, true, false, ◌&&◌, ◌||◌, false≢true}
use Rattle.rules.specs.Rows.{when◌answer◌else◌}

pub both_true : (a b : Bool) → (a && b) ≡ true → (a ≡ true) × (b ≡ true)
both_true true b e = (refl, e)
both_true false b e = absurd (false≢true e)

pub both_false : (a b : Bool) → (a || b) ≡ false → (a ≡ false) × (b ≡ false)
both_false true b e = absurd (false≢true (sym e))
both_false false b e = (refl, e)

-- of a choice the second holds where the first does not
pub other_true : (a b : Bool) → (a || b) ≡ true → a ≡ false → b ≡ true
other_true true b e f = absurd (false≢true (sym f))
other_true false b e f = e

-- what holds of a row's answer where its test applies, and of the rows below where it does not, holds of all of them
pub by_row : {A : Type 0} (P : A → Type 0) (test : Bool) {a rest : A} → (test ≡ true → P a) → (test ≡ false → P rest)
    → P (when test answer a else rest)
by_row P true f g = f refl
by_row P false f g = g refl

-- of two tests of which not both hold, the second does not where the first does
pub second_false : (a b : Bool) → (a && b) ≡ false → a ≡ true → b ≡ false
second_false true b e f = e
second_false false b e f = absurd (false≢true f)

-- of three, the third does not where the first two do
pub third_false : (a b c : Bool) → (a && b && c) ≡ false → a ≡ true → b ≡ true → c ≡ false
third_false true true c e f g = e
third_false true false c e f g = absurd (false≢true g)
third_false false b c e f g = absurd (false≢true f)

-- what holds between the answers of two rows whose tests agree, and between the rows below, holds between the two
pub by_rows_alike : {A : Type 0} (R : A → A → Type 0) (test test' : Bool) {a a' rest rest' : A} → test ≡ test' → (test ≡ true → R a a')
    → (test ≡ false → R rest rest') → R (when test answer a else rest) (when test' answer a' else rest')
by_rows_alike R true true e f g = f refl
by_rows_alike R true false e f g = absurd (false≢true (sym e))
by_rows_alike R false true e f g = absurd (false≢true e)
by_rows_alike R false false e f g = g refl
