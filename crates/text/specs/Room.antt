-- What the kinds of rooms hold: an array of a fixed size, a part of a buffer that is lent, and the front of one that may only be read.
-- Assumes nothing.
use mathlib.Core.Option as maybe
use Rattle.std.specs.Prelude.{ℕ, ◌≤◌, ◌≡◌, List, [], length, take, drop}
use Rattle.std.specs.Borrow.{MutBor}
use Rattle.text.specs.Text.{Held, put, PutAt}

-- an array with room for so many bytes: what stands behind its text can't be seen
abbrev pub held_in_array : ℕ → List ℕ → Held
held_in_array size text = record { text = text; behind = []; size = size; lent_by = maybe.none }

-- a part of a lent buffer: the text is what stands before the place
abbrev pub held_in_part : MutBor (List ℕ) → ℕ → Held
held_in_part buffer at =
    record { text = take at buffer.now; behind = drop at buffer.now; size = length buffer.now; lent_by = maybe.some buffer.ghost_name }

-- the front of a lent buffer that may only be read
abbrev pub held_in_front : List ℕ → ℕ → Held
held_in_front buffer at = record { text = take at buffer; behind = drop at buffer; size = length buffer; lent_by = maybe.none }

-- What is put into a part of a lent buffer stands in that buffer from the place on, and each byte beside it is as it was.
abbrev pub PutsInPlace : Type 0
PutsInPlace = (before after : MutBor (List ℕ)) (at next : ℕ) (text : List ℕ) → at ≤ length before.now → next ≤ length after.now
    → held_in_part after next ≡ put text (held_in_part before at)
    → PutAt before.now at text after.now next × (after.ghost_name ≡ before.ghost_name)
