-- The digits of an id, one after the other.
-- Assumes nothing.
use Rattle.std.proofs.Common.{ℕ, ◌+◌, ◌*◌, ◌≤◌, ◌<◌, ◌≡◌, ◌^◌, ◌∙◌, ap, List, length, get_or, drop, arith}
use Rattle.std.proofs.lemmas.Grind.{common_steps}
use Rattle.std.specs.Prelude.{None, Some, option_and_then}
use native.Mathlib.Nat.{pow-le-pow_right, pow-suc}
use native.Mathlib.Numerals.{add-one}
use lib.Arith.{digits_lt}
use lib.Dec.{lit<}
use lib.Seq.{drop-cons}
use borrow.Author.Tests.{ne_eqb, eq-eqb}
use Rattle.recording.specs.Ids.{digit_value, number_behind, id_digits, id_of}

-- a digit's value is below 16
pub value_below : (byte value : ℕ) → Some value ≡ digit_value byte → value < 16
unfolding digit_value
value_below byte value e = grind (arith, common_steps, e)

-- so many digits before the last make a number of so many bits at most
pub low : (i : ℕ) → i < id_digits → 16 ^ i ≤ 268435456
low i h = pow-le-pow_right (lit< tt) (let h7 : i ≤ 7 = omega arith in h7)

-- the digit at a place, and those behind it:
module _ (word : List ℕ) (i : ℕ) (number : ℕ) (within : i < length word) where
  first : number_behind number (drop i word) ≡ option_and_then (λ (value : ℕ). number_behind (number * 16 + value) (drop (i + 1) word)) (digit_value (get_or word i 0))
  first = rw add-one (ap (number_behind number) (drop-cons word i 0 within))

  pub no_digit : None ≡ digit_value (get_or word i 0) → None ≡ number_behind number (drop i word)
  no_digit e = rw (first, ← e)

  pub a_digit : (value : ℕ) → Some value ≡ digit_value (get_or word i 0) → number < 16 ^ i
      → (number * 16 + value < 16 ^ (i + 1)) × (number_behind (number * 16 + value) (drop (i + 1) word) ≡ number_behind number (drop i word))
  a_digit value e low = (rw (add-one, pow-suc) (digits_lt low (value_below (get_or word i 0) value e)), rw (first, ← e))

-- a word of another length is no id; one of this length is the number of its digits
pub not_eight : (word : List ℕ) → (length word ≡ id_digits → ⊥) → None ≡ id_of word
unfolding id_of
not_eight word n = simp (ne_eqb (length word) id_digits n)

pub eight : (word : List ℕ) → length word ≡ id_digits → number_behind 0 word ≡ id_of word
unfolding id_of
eight word e = simp (eq-eqb (length word) id_digits e)

pub digits : (word : List ℕ) → length word ≡ id_digits → (id : ℕ) → Some id ≡ number_behind 0 word → Some id ≡ id_of word
digits word e id number = number ∙ eight word e
