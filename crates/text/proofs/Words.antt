-- Two words are the same exactly where `==` says so, and what a word stands for in a list of words.
-- Assumes nothing.
use Rattle.std.proofs.Common.{ℕ, suc, ◌+◌, ◌<◌, ◌≡◌, refl, sym, ap, ◌∙◌, Bool, true, false, ◌&&◌, subst, List, [], ◌∷◌, Some, Bor, arith, eqb, drop, length, get_or}
use mathlib.Core.Bool.{false≢true}
use borrow.Author.Tests.{eqb-true, eq-eqb}
use lib.Seq.{drop-cons}
use lib.Pointwise.{pointwise}
use Rattle.text.specs.Text.{same_word, chosen_of}

both_true : (a b : Bool) → (a && b) ≡ true → (a ≡ true) × (b ≡ true)
both_true true b e = (refl, e)
both_true false b e = absurd (false≢true e)

-- two Bools are equal where each is true if the other is
one_answer : (a b : Bool) → (a ≡ true → b ≡ true) → (b ≡ true → a ≡ true) → a ≡ b
one_answer true true f g = refl
one_answer true false f g = sym (f refl)
one_answer false true f g = g refl
one_answer false false f g = refl

pub same_itself : (word : List ℕ) → same_word word word ≡ true
unfolding same_word
same_itself [] = refl
same_itself (x ∷ xs) = rw (eq-eqb x x refl) (same_itself xs)

pub same_bytes : (word other : List ℕ) → same_word word other ≡ true → word ≡ other
unfolding same_word
same_bytes [] [] e = refl
same_bytes [] (y ∷ ys) e = absurd (false≢true e)
same_bytes (x ∷ xs) [] e = absurd (false≢true e)
same_bytes (x ∷ xs) (y ∷ ys) e =
    let both = both_true (eqb x y) (same_word xs ys) e in
    let heads = eqb-true x y both.0 in
    let tails = same_bytes xs ys both.1 in
    cc

-- an answer that says whether the bytes are equal
pub same_answer : (r : Bool) (word other : List ℕ) → (r ≡ true → word ≡ other) → (word ≡ other → r ≡ true) → r ≡ same_word word other
same_answer r word other f g =
    one_answer r (same_word word other)
    (λ e. subst (λ (w : List ℕ). same_word word w ≡ true) (f e) (same_itself word))
    (λ e. g (same_bytes word other e))

-- `==` answers the same
pub compared : (word other : List ℕ) → pointwise eqb word other ≡ same_word word other
unfolding same_word
compared [] [] = refl
compared [] (y ∷ ys) = refl
compared (x ∷ xs) [] = refl
compared (x ∷ xs) (y ∷ ys) = ap (λ (rest : Bool). eqb x y && rest) (compared xs ys)

-- ---- the choice of a word

module _ {T : Type 0} (word : List ℕ) (words : List (Bor (List ℕ) × T)) (i : ℕ) (entry : Bor (List ℕ) × T) (h : i < length words)
    (is : entry ≡ get_or words i entry) where
  first_is : drop i words ≡ entry ∷ drop (suc i) words
  first_is = drop-cons words i entry h ∙ ap (λ (e : Bor (List ℕ) × T). e ∷ drop (suc i) words) (sym is)

  pub chosen_here : same_word word entry.0.now ≡ true → chosen_of word (drop i words) ≡ Some entry.1
  unfolding chosen_of
  chosen_here e = ap (chosen_of word) first_is ∙ rw e

  pub chosen_later : same_word word entry.0.now ≡ false → chosen_of word (drop i words) ≡ chosen_of word (drop (i + 1) words)
  unfolding chosen_of
  chosen_later e =
      let more : suc i ≡ i + 1 = omega arith in
      ap (chosen_of word) first_is ∙ rw e (ap (λ (k : ℕ). chosen_of word (drop k words)) more)
