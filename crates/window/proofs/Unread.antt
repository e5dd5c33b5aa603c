-- The bytes that are left of a window: after some are used up, and after a refill.
-- Assumes nothing.
use Prim.Native.Nat.{ℕ, zero, suc, ◌-◌, ◌≤◌}
use mathlib.Core.Path.{◌≡◌, refl, sym, ap, ◌∙◌}
use mathlib.Core.Bool.{Bool, true, false, not, ◌&&◌, false≢true}
use mathlib.Core.List.{List, [], ◌∷◌, ◌++◌}
use mathlib.Core.Logic.{◌⊎◌, inl, inr}
use native.Mathlib.Omega.{arith}
use borrow.Author.Tests.{ltb-false, le-ltb}
use lib.Dec.{ltb}
use lib.ListN.{length, take, drop, length-drop, take-append-drop}
use lib.Seq.{length-take-le, take-nil, take-take, drop-drop}
use Rattle.window.specs.Window.{Within, left_of, unread, low_of, used_of, failed_by, RefilledFrom}
use Rattle.window.specs.declared.Window.{Window}
use Rattle.window.specs.declared.Refilled.{Refilled}

-- a part of a list, cut behind first or before first
pub part : (from to : ℕ) (l : List ℕ) → drop from (take to l) ≡ take (to - from) (drop from l)
part zero to l = let same : to ≡ to - 0 = omega arith in ap (λ (n : ℕ). take n l) same
part (suc from) zero l = let none : 0 ≡ 0 - suc from = omega arith in ap (λ (n : ℕ). take n (drop (suc from) l)) none
part (suc from) (suc to) [] = sym (take-nil (suc to - suc from))
part (suc from) (suc to) (x ∷ l) =
    let fewer : to - from ≡ suc to - suc from = omega arith in
    part from to l ∙ ap (λ (n : ℕ). take n (drop from l)) fewer

-- the bytes that are left of a window within its buffer are as many as it says
pub length_unread : (buffer : List ℕ) (w : Window) → Within w (length buffer) → length (unread buffer w) ≡ left_of w
length_unread buffer w h = length-take-le (left_of w) (drop w.from buffer) (omega (arith, length-drop w.from buffer))

-- after some are used up
pub unread_used : (buffer : List ℕ) (w : Window) (used : ℕ) → drop used (unread buffer w) ≡ unread buffer (used_of used w)
unread_used buffer w used =
    let fewer : left_of w - used ≡ left_of (used_of used w) = omega arith in
    part used (left_of w) (drop w.from buffer) ∙ ap (λ (n : ℕ). take n (drop used (drop w.from buffer))) fewer
    ∙ ap (take (left_of (used_of used w))) (drop-drop used w.from buffer)

-- a window that is not low has the most bytes that one step looks at, or its file has ended
pub enough_or_ended : (most : ℕ) (w : Window) → low_of most w ≡ false → (most ≤ left_of w) ⊎ (w.ended ≡ true)
unfolding low_of
enough_or_ended most w = by (ltb (left_of w) most) refl w.ended refl
  where
    by : (few : Bool) → ltb (left_of w) most ≡ few → (ended : Bool) → w.ended ≡ ended → (few && not ended) ≡ false → (most ≤ left_of w) ⊎ (w.ended ≡ true)
    by true e true d f = inr d
    by true e false d f = absurd (false≢true (sym f))
    by false e ended d f = inl (ltb-false _ _ e)

-- a window that is low is on a file that has not ended
pub low_not_ended : (most : ℕ) (w : Window) → low_of most w ≡ true → w.ended ≡ false
unfolding low_of
low_not_ended most w = by (ltb (left_of w) most) w.ended
  where
    by : (few ended : Bool) → (few && not ended) ≡ true → ended ≡ false
    by few false e = refl
    by true true e = sym e
    by false true e = sym e

-- the front of a window that begins at the front is the front of its buffer
fronts : (from to left : ℕ) (l : List ℕ) → from ≡ 0 → left ≤ to → take left (take (to - from) (drop from l)) ≡ take left l
fronts from to left l e h = take-take left (to - from) (drop from l) (omega arith) ∙ ap (λ (n : ℕ). take left (drop n l)) e

and_false : (b : Bool) → (b && false) ≡ false
and_false true = refl
and_false false = refl

module _ (before : List ℕ) (w : Window) (after : List ℕ) (r : Refilled) (refilled : RefilledFrom before w after r) where
  -- after a refill: those that were left, then those that were read
  pub unread_refilled : unread after r.window ≡ unread before w ++ drop (left_of w) (unread after r.window)
  unread_refilled =
      let bytes = unread after r.window in
      sym (ap (λ (l : List ℕ). l ++ drop (left_of w) bytes)
      (sym refilled.kept ∙ sym (fronts r.window.from r.window.to (left_of w) after refilled.front refilled.more))
      ∙ take-append-drop (left_of w) bytes)

  -- unless a read failed, a window is not low after a refill of a buffer that holds the most bytes that one step looks at
  pub refilled_not_low : (most : ℕ) → most ≤ length before → failed_by r.last ≡ false → low_of most r.window ≡ false
  unfolding low_of
  refilled_not_low most room ok = by r.window.ended refl
    where
      by : (ended : Bool) → r.window.ended ≡ ended → (ltb (left_of r.window) most && not r.window.ended) ≡ false
      by true e = rw e (and_false (ltb (left_of r.window) most))
      by false e = rw (le-ltb (left_of r.window) most (omega (arith, refilled.full ok e, refilled.front, room)))
