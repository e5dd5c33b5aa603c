-- The words of a line as they are put: digits one byte after the other, and bytes that stayed, one byte after the other.
-- Assumes nothing.
use Rattle.std.proofs.Common.{ℕ, suc, ◌+◌, ◌*◌, ◌/◌, ◌%◌, ◌<◌, ◌≤◌, ◌≡◌, refl, sym, ap, ◌∙◌, Bool, cond, ◌&&◌, List, [], ◌∷◌, ◌++◌, append_assoc, append-nil, arith, length, take, drop, set, get_or, drop_of_length-le, ⊎_elim}
use Rattle.std.proofs.lemmas.Bool.{cases_eq}
use Rattle.std.proofs.lemmas.List.{take_more_set, take_all, length-set, length-append, take-append-drop, get_or-set_same, get_or-set_other}
use lib.Seq.{drop-cons, take-append_seam}
use Rattle.std.specs.List.{list_all}
use lib.Dec.{eqb}
use Rattle.text.specs.Ascii.{ascii}
use Rattle.text.specs.Text.{digit}
use Rattle.text.specs.Line.{digits_of, bytes_word, byte_before, all_before, written_words}

pub two_each : (s : List ℕ) → length (digits_of s) ≡ 2 * length s
two_each [] = refl
two_each (b ∷ s) = omega (arith, two_each s)

-- the digits of one byte more come behind those of the bytes before it
pub one_more_lem : (s digits : List ℕ) (i high low : ℕ) → i < length s → 2 * i + 1 < length digits
    → high ≡ digit (get_or s i 0 / 16) → low ≡ digit (get_or s i 0 % 16)
    → take (2 * (i + 1)) (set (set digits (2 * i) high) (2 * i + 1) low) ++ digits_of (drop (i + 1) s)
    ≡ take (2 * i) digits ++ digits_of (drop i s)
one_more_lem s digits i high low h room p q =
    let rest = digits_of (drop (i + 1) s) in
    let two : 2 * (i + 1) ≡ 2 * i + 1 + 1 = omega arith in
    let more : suc i ≡ i + 1 = omega arith in
    let put =
    take_more_set (set digits (2 * i) high) (2 * i + 1) low (omega (arith, length-set digits (2 * i) high, room))
    ∙ ap (λ (l : List ℕ). l ++ low ∷ []) (take_more_set digits (2 * i) high (omega (arith, room)))
    in
    ap (λ (k : ℕ). take k (set (set digits (2 * i) high) (2 * i + 1) low) ++ rest) two
    ∙ ap (λ (l : List ℕ). l ++ rest) put
    ∙ append_assoc (take (2 * i) digits ++ high ∷ []) (low ∷ []) rest
    ∙ append_assoc (take (2 * i) digits) (high ∷ []) (low ∷ rest)
    ∙ ap (λ (l : List ℕ). take (2 * i) digits ++ l) (ap (λ (d : ℕ). d ∷ low ∷ rest) p ∙ ap (λ (d : ℕ). digit (get_or s i 0 / 16) ∷ d ∷ rest) q)
    ∙ sym (ap (λ (l : List ℕ). take (2 * i) digits ++ digits_of l)
    (drop-cons s i 0 h ∙ ap (λ (k : ℕ). get_or s i 0 ∷ drop k s) more))

-- and where no byte is left, they are all that is there
pub no_more_lem : (s digits : List ℕ) (i : ℕ) → length s ≤ i → length digits ≤ 2 * i → take (2 * i) digits ++ digits_of (drop i s) ≡ digits
no_more_lem s digits i h full =
    ap (λ (l : List ℕ). take (2 * i) digits ++ digits_of l) (drop_of_length-le s {i = i} h) ∙ append-nil (take (2 * i) digits)
    ∙ take_all (2 * i) digits full

-- the digits of the first bytes are made, each at the place of its byte
abbrev pub MadeTo : List ℕ → List ℕ → List ℕ → ℕ → Type 0
MadeTo s high low i = (k : ℕ) → k < i → (get_or high k 0 ≡ digit (get_or s k 0 / 16)) × (get_or low k 0 ≡ digit (get_or s k 0 % 16))

pub made_more : (s high low : List ℕ) (i a b : ℕ) → i < length high → i < length low
    → a ≡ digit (get_or s i 0 / 16) → b ≡ digit (get_or s i 0 % 16) → MadeTo s high low i → MadeTo s (set high i a) (set low i b) (i + 1)
made_more s high low i a b h h' p q made k before = ⊎_elim here earlier (cases_eq k i)
  where
    here : k ≡ i → (get_or (set high i a) k 0 ≡ digit (get_or s k 0 / 16)) × (get_or (set low i b) k 0 ≡ digit (get_or s k 0 % 16))
    here e = (
      ap (λ (j : ℕ). get_or (set high i a) j 0) e ∙ get_or-set_same high i a 0 h ∙ p ∙ sym (ap (λ (j : ℕ). digit (get_or s j 0 / 16)) e),
      ap (λ (j : ℕ). get_or (set low i b) j 0) e ∙ get_or-set_same low i b 0 h' ∙ q ∙ sym (ap (λ (j : ℕ). digit (get_or s j 0 % 16)) e),
    )

    earlier : (k ≡ i → ⊥) → (get_or (set high i a) k 0 ≡ digit (get_or s k 0 / 16)) × (get_or (set low i b) k 0 ≡ digit (get_or s k 0 % 16))
    earlier other =
        let was = made k (omega (arith, other)) in
        (get_or-set_other high i k a 0 other ∙ was.0, get_or-set_other low i k b 0 other ∙ was.1)

digits_append : (s behind : List ℕ) → digits_of (s ++ behind) ≡ digits_of s ++ digits_of behind
digits_append [] behind = refl
digits_append (b ∷ s) behind = ap (λ (l : List ℕ). digit (b / 16) ∷ digit (b % 16) ∷ l) (digits_append s behind)

-- those of the first bytes and of the others
pub digits_cut : (n : ℕ) (s first others : List ℕ) → first ≡ take n s → others ≡ drop n s → digits_of first ++ digits_of others ≡ digits_of s
digits_cut n s first others p q =
    sym (digits_append first others) ∙ ap (λ (l : List ℕ). digits_of (l ++ others)) p ∙ ap (λ (l : List ℕ). digits_of (take n s ++ l)) q
    ∙ ap digits_of (take-append-drop n s)

-- the digits of a front are the front of the digits
pub digits_of_front : (s front behind : List ℕ) → front ≡ s → take (2 * length s) (digits_of (front ++ behind)) ≡ digits_of s
digits_of_front s front behind e =
    ap (λ (l : List ℕ). take (2 * length s) (digits_of (l ++ behind))) e ∙ ap (take (2 * length s)) (digits_append s behind)
    ∙ ap (λ (k : ℕ). take k (digits_of s ++ digits_of behind)) (sym (two_each s)) ∙ take-append_seam (digits_of s) (digits_of behind)

pub no_bytes : (s : List ℕ) → length s ≡ 0 → ascii " -" ≡ bytes_word s
no_bytes [] e = refl
no_bytes (b ∷ s) e = absurd (omega arith)

pub some_bytes : (s : List ℕ) → (length s ≡ 0 → ⊥) → ascii " " ++ digits_of s ≡ bytes_word s
some_bytes [] e = absurd (e refl)
some_bytes (b ∷ s) e = refl

-- the words of what was written, by the part that was put and the answer whether the rest stayed
pub written_words_lem : (lent : List ℕ) (written : ℕ) (part : List ℕ) (stayed : Bool) → part ≡ take written lent → stayed ≡ all_before (drop written lent)
    → bytes_word part ++ cond stayed [] (ascii " changed") ≡ written_words lent written
written_words_lem lent written part stayed p q = cc
