-- Text put behind other text, room for it, numbers in decimal, and the comparison of two words.
-- Assumes nothing.
use mathlib.Core.Option as maybe
use Rattle.std.specs.Borrow.{GName}
use Rattle.std.specs.Prelude.{ℕ, zero, suc, ◌+◌, ◌-◌, ◌/◌, ◌%◌, Bool, true, false, ◌&&◌, List, [], ◌∷◌, ◌++◌, ◌≡◌, eqb}
use Rattle.std.specs.Prelude.{ltb, length, drop, ⊤, Option, None, Some}
use Rattle.std.proofs.Common.{Bor}
use Rattle.std.proofs.lemmas.List.Edits.{sets}
use Rattle.rules.specs.Rows.{when◌answer◌else◌}

-- What a room for text holds: the text that was put into it, and the bytes that stand behind that. And the room itself: how large, and
-- where it is a part of a lent buffer, by which reference.
pub record Held : Type 0 where
  pub text : List ℕ
  pub behind : List ℕ
  pub size : ℕ
  pub lent_by : maybe.Option GName

-- a text put behind the one that is held: it takes the place of the first bytes that stood there, and those past it stay
unfoldable pub put : List ℕ → Held → Held
put s held = record held { text = held.text ++ s; behind = drop (length s) held.behind }

-- how many bytes have room behind the text
unfoldable pub left : Held → ℕ
left held = held.size - length held.text

-- the room itself, whatever it holds
unfoldable pub room_of : Held → ℕ × maybe.Option GName
room_of held = (held.size, held.lent_by)

-- OPEN-2: two results that one input allows agree in every byte: the text that is put behind another.
abbrev pub PutsAgree : Type 0
PutsAgree = (before text after after' : List ℕ) → after ≡ before ++ text → after' ≡ before ++ text → after ≡ after'

-- OPEN-2: the same of a room, in the text and in the bytes behind it.
abbrev pub HeldAgree : Type 0
HeldAgree = (before : Held) (text : List ℕ) (after after' : Held) → after ≡ put text before → after' ≡ put text before → after ≡ after'

-- Text put into a lent buffer at a place: the place after it, and what the buffer holds then.
pub record PutAt (before : List ℕ) (at : ℕ) (text after : List ℕ) (next : ℕ) : Type 0 where
  pub place : next ≡ at + length text
  pub bytes : after ≡ sets before at text

-- OPEN-2: the same of a lent buffer, in the place and in every byte.
abbrev pub PutsAtAgree : Type 0
PutsAtAgree = (before : List ℕ) (at : ℕ) (text after after' : List ℕ) (next next' : ℕ)
    → PutAt before at text after next → PutAt before at text after' next' → (after ≡ after') × (next ≡ next')

-- TRACE-16, CUT-3: what was written by then, where it is known, so that with the text that is held it is all that was written and held
-- before
abbrev pub RoomMade : Option (List ℕ) → Option (List ℕ) → List ℕ → List ℕ → Type 0
RoomMade None new before after = ⊤
RoomMade (Some xs) None before after = ⊥
RoomMade (Some xs) (Some ys) before after = ys ++ after ≡ xs ++ before

-- TRACE-16, CUT-3: the text that is held in a room of this size where so many bytes at the most come behind it: where they have no room
-- there, it is written, and none is held
unfoldable pub held_of : ℕ → ℕ → List ℕ → List ℕ
held_of most size text =
    when ltb (size - length text) most answer [] else
    text

-- and what the room holds then, where it holds so much once it is emptied
unfoldable pub room_for : ℕ → Held → Held → Held
room_for most emptied held =
    when ltb (left held) most answer emptied else
    held

-- the digit of a number below 16: 0 is 48, and A is 65
abbrev pub digit : ℕ → ℕ
digit n =
    when ltb n 10 answer 48 + n else
    (65 + (n - 10))

-- a number in decimal, in at most so many digits: those of a tenth of it, if it has more than one, then the last
unfoldable pub decimal_in : ℕ → ℕ → List ℕ
decimal_in zero n = []
decimal_in (suc most) n =
    when (ltb n 10) answer (digit n ∷ []) else
    decimal_in most (n / 10) ++ (digit (n % 10) ∷ [])

-- the most digits of a number below 2 ^ 64
abbrev pub most_digits : ℕ
most_digits = 20

-- a number in decimal
abbrev pub decimal_of : ℕ → List ℕ
decimal_of n = decimal_in most_digits n

-- two words are the same
unfoldable pub same_word : List ℕ → List ℕ → Bool
same_word [] [] = true
same_word [] (y ∷ ys) = false
same_word (x ∷ xs) [] = false
same_word (x ∷ xs) (y ∷ ys) = eqb x y && same_word xs ys

-- what a word stands for, in a list of words: what the first of them that is the same word stands for
unfoldable pub chosen_of : {T : Type 0} → List ℕ → List (Bor (List ℕ) × T) → Option T
chosen_of word [] = None
chosen_of word (entry ∷ words) =
    when (same_word word entry.0.now) answer Some entry.1 else
    chosen_of word words
