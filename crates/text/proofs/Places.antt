-- The text that is held where room is made: what was written and what is held is all that was printed.
-- Assumes nothing.
use mathlib.Core.Option as maybe
use Rattle.std.specs.Borrow.{GName}
use Rattle.std.proofs.Common.{ℕ, ◌+◌, ◌-◌, ◌≤◌, ◌<◌, ◌≡◌, refl, sym, ap, ◌∙◌, Bool, true, false, List, [], ◌++◌, append_assoc, append-nil, ◌⊎◌, inl, inr, ⊎_elim, arith, length}
use lib.Dec.{ltb}
use borrow.Author.Tests.{lt-ltb, le-ltb}
use Rattle.rules.specs.Rows.{when◌answer◌else◌}
use Rattle.text.specs.Text.{Held, held_of, room_for, left, room_of}

-- the text is as it was, or none
pub held_is : (most size : ℕ) (text : List ℕ) → (held_of most size text ≡ text) ⊎ (held_of most size text ≡ [])
unfolding held_of
held_is most size text = by (ltb (size - length text) most)
  where
    by : (full : Bool) → ((when full answer [] else text) ≡ text) ⊎ ((when full answer [] else text) ≡ [])
    by true = inr refl
    by false = inl refl

-- where there is room it is as it was, and else none
pub held_here : (most size : ℕ) (text : List ℕ) → most ≤ size - length text → held_of most size text ≡ text
unfolding held_of
held_here most size text h = rw (le-ltb (size - length text) most h)

pub held_none : (most size : ℕ) (text : List ℕ) → size - length text < most → held_of most size text ≡ []
unfolding held_of
held_none most size text h = rw (lt-ltb (size - length text) most h)

-- and all that it holds
pub room_here : (most : ℕ) (emptied held : Held) → most ≤ left held → room_for most emptied held ≡ held
unfolding room_for
room_here most emptied held h = rw (le-ltb (left held) most h) refl

pub room_none : (most : ℕ) (emptied held : Held) → left held < most → room_for most emptied held ≡ emptied
unfolding room_for
room_none most emptied held h = rw (lt-ltb (left held) most h) refl

-- the text alone
pub text_here : (most : ℕ) (held : Held) → most ≤ left held → held.text ≡ held_of most held.size held.text
unfolding left
text_here most held h = sym (held_here most held.size held.text h)

pub text_none : (most : ℕ) (emptied held : Held) → left held < most → emptied.text ≡ [] → emptied.text ≡ held_of most held.size held.text
unfolding left
text_none most emptied held h none = none ∙ sym (held_none most held.size held.text h)

-- all of an emptied room is left
pub all_left : (most : ℕ) (emptied held : Held) → emptied.text ≡ [] → room_of emptied ≡ room_of held → most ≤ held.size → most ≤ left emptied
unfolding left room_of
all_left most emptied held none same fits =
    omega (arith, fits, ap (λ (l : List ℕ). length l) none, ap (λ (room : ℕ × maybe.Option GName). room.0) same)

-- what was written by then, so that with the text that is held it is all that was printed
pub record Placed (written text held : List ℕ) : Type 0 where
  pub before : List ℕ
  pub same : before ++ held ≡ written ++ text

pub placed : (most size : ℕ) (written text : List ℕ) → Placed written text (held_of most size text)
placed most size written text =
    ⊎_elim (λ here. record { before = written; same = ap (λ (l : List ℕ). written ++ l) here })
    (λ none. record {
      before = written ++ text;
      same = ap (λ (l : List ℕ). written ++ text ++ l) none ∙ append-nil (written ++ text);
    })
    (held_is most size text)

-- and after more is put behind it
pub put_behind : (written text held more : List ℕ) (w : Placed written text held) → {after : List ℕ} → after ≡ held ++ more
    → w.before ++ after ≡ written ++ text ++ more
put_behind written text held more w put =
    ap (λ (l : List ℕ). w.before ++ l) put ∙ sym (append_assoc w.before held more) ∙ ap (λ (l : List ℕ). l ++ more) w.same
