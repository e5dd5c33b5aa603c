-- Each turn uses bytes up or stops, so that a turn for each byte and one at the end are enough.
-- Assumes nothing.
use Prim.Native.Nat.{ℕ, zero, suc, ◌-◌, ◌≤◌}
use mathlib.Core.Path.{◌≡◌, refl, sym, ap, ◌∙◌}
use mathlib.Core.Bool.{Bool, true, false, cond, ◌||◌, false≢true}
use mathlib.Core.List.{List, [], ◌++◌}
use native.Mathlib.Omega.{arith}
use borrow.Author.Tests.{ltb-false}
use lib.Dec.{ltb}
use lib.ListN.{length, drop, length-take, length-drop}
use Rattle.rules.specs.Rows.{when◌answer◌else◌}
use Rattle.window.specs.Window.{left_of, unread, low_of, used_of}
use Rattle.window.specs.declared.Window.{Window}
use Rattle.pieces.specs.Machine.{Machine, Lawful, prints_in, GoesOn}
use Rattle.pieces.specs.Pieces.{Reach, waits, waits_at, turned, advance_in, advance_of, TurnsUntilItWaits}

-- the turns that are left at the most, with so many bytes: none after a stop
abbrev pub turns_left : Bool → ℕ → ℕ
turns_left stopped bytes = cond stopped 0 (suc bytes)

left_at_most : (stopped : Bool) (bytes : ℕ) → turns_left stopped bytes ≤ suc bytes
left_at_most true bytes = omega arith
left_at_most false bytes = omega arith

has_stopped : (stopped : Bool) (bytes : ℕ) → turns_left stopped bytes ≤ 0 → stopped ≡ true
has_stopped true bytes h = refl
has_stopped false bytes h = let f : ⊥ = omega arith in absurd f

-- what comes after a row that does not apply
goes_alike : {A : Type 0} (b : Bool) (x : A) {y z : A} → (b ≡ false → y ≡ z) → (when b answer x else y) ≡ (when b answer x else z)
goes_alike true x same = refl
goes_alike false x same = same refl

-- the bytes at hand are no more than the window says
pub at_most_left : (buffer : List ℕ) (w : Window) → length (unread buffer w) ≤ left_of w
at_most_left buffer w = omega (arith, length-take (left_of w) (drop w.from buffer))

module _ {State : Type 0} (m : Machine State) where
  -- after a stop no turn is taken
  pub stopped_waits : (stopped : Bool) (w : Window) (room : ℕ) → stopped ≡ true → waits m stopped w room ≡ true
  unfolding waits
  stopped_waits true w room e = refl
  stopped_waits false w room e = absurd (false≢true e)

  -- a turn is taken before a stop, on a window that is not low, with room for what it prints
  pub not_stopped : (stopped : Bool) (w : Window) (room : ℕ) → waits m stopped w room ≡ false → stopped ≡ false
  unfolding waits
  not_stopped true w room e = e
  not_stopped false w room e = refl

  pub not_low : (stopped : Bool) (w : Window) (room : ℕ) → waits m stopped w room ≡ false → low_of m.most_seen w ≡ false
  unfolding waits
  not_low stopped w room = by stopped (low_of m.most_seen w) (ltb room m.most_text)
    where
      by : (stopped low full : Bool) → (stopped || low || full) ≡ false → low ≡ false
      by true low full e = absurd (false≢true (sym e))
      by false true full e = absurd (false≢true (sym e))
      by false false full e = refl

  pub has_room : (stopped : Bool) (w : Window) (room : ℕ) → waits m stopped w room ≡ false → m.most_text ≤ room
  unfolding waits
  has_room stopped w room e = ltb-false room m.most_text (by stopped (low_of m.most_seen w) (ltb room m.most_text) e)
    where
      by : (stopped low full : Bool) → (stopped || low || full) ≡ false → full ≡ false
      by true low full e = absurd (false≢true (sym e))
      by false true full e = absurd (false≢true (sym e))
      by false false full e = e

module _ {State : Type 0} (m : Machine State) (laws : Lawful m) where
  -- after a turn fewer turns are left
  fewer_left : (p : State) (s : List ℕ) (bytes : ℕ) → length s ≤ bytes
      → turns_left (m.stopped (m.turn p s).next) (bytes - (m.turn p s).used) ≤ bytes
  fewer_left p s bytes h = by (m.stopped (m.turn p s).next) refl
    where
      by : (stopped : Bool) → m.stopped (m.turn p s).next ≡ stopped → turns_left stopped (bytes - (m.turn p s).used) ≤ bytes
      by true e = omega arith
      by false e = omega (arith, laws.uses_no_more p s, laws.uses_or_stops p s e)

  -- more turns than are left change nothing
  enough : (n k : ℕ) (p : State) (rest : List ℕ) → turns_left (m.stopped p) (length rest) ≤ n
      → turns_left (m.stopped p) (length rest) ≤ k → prints_in m n p rest ≡ prints_in m k p rest
  unfolding prints_in
  enough zero zero p rest h g = refl
  enough zero (suc k) p rest h g = rw (has_stopped (m.stopped p) (length rest) h)
  enough (suc n) zero p rest h g = rw (has_stopped (m.stopped p) (length rest) g)
  enough (suc n) (suc k) p rest h g =
      let next = (m.turn p rest).next in
      let left = drop (m.turn p rest).used rest in
      let fewer = fewer_left p rest (length rest) (omega arith) in
      let size = length-drop (m.turn p rest).used rest in
      goes_alike (m.stopped p) [] (λ e.
      let l : suc (length rest) ≤ suc n = rw e at h in
      let j : suc (length rest) ≤ suc k = rw e at g in
      ap (λ (t : List ℕ). (m.turn p rest).text ++ t) (enough n k next left (rw size (omega arith)) (rw size (omega arith))))

  pub goes_on_lem : GoesOn m
  unfolding prints_in
  goes_on_lem p rest =
      let next = (m.turn p rest).next in
      let left = drop (m.turn p rest).used rest in
      let fewer = fewer_left p rest (length rest) (omega arith) in
      let size = length-drop (m.turn p rest).used rest in
      ap (λ (t : List ℕ). when m.stopped p answer [] else ((m.turn p rest).text ++ t))
      (enough (length rest) (suc (length left)) next left (rw size fewer) (left_at_most (m.stopped next) (length left)))

  -- after a turn on the bytes at hand fewer turns are left
  fewer_at_hand : (buffer : List ℕ) (x : Reach State)
      → turns_left (m.stopped (turned m buffer x).state) (left_of (turned m buffer x).window) ≤ left_of x.window
  fewer_at_hand buffer x =
      let used = (m.turn x.state (unread buffer x.window)).used in
      let same : left_of x.window - used ≡ left_of (used_of used x.window) = omega arith in
      rw (← same) (fewer_left x.state (unread buffer x.window) (left_of x.window) (at_most_left buffer x.window))

  enough_at_hand : (n k room : ℕ) (buffer : List ℕ) (x : Reach State)
      → turns_left (m.stopped x.state) (left_of x.window) ≤ n → turns_left (m.stopped x.state) (left_of x.window) ≤ k
      → advance_in m n room buffer x ≡ advance_in m k room buffer x
  unfolding advance_in
  enough_at_hand zero zero room buffer x h g = refl
  enough_at_hand zero (suc k) room buffer x h g =
      rw (stopped_waits m (m.stopped x.state) x.window (room - length x.text) (has_stopped (m.stopped x.state) (left_of x.window) h))
  enough_at_hand (suc n) zero room buffer x h g =
      rw (stopped_waits m (m.stopped x.state) x.window (room - length x.text) (has_stopped (m.stopped x.state) (left_of x.window) g))
  enough_at_hand (suc n) (suc k) room buffer x h g =
      let fewer = fewer_at_hand buffer x in
      goes_alike (waits_at m room x) x (λ e.
      let goes = not_stopped m (m.stopped x.state) x.window (room - length x.text) e in
      let l : suc (left_of x.window) ≤ suc n = rw goes at h in
      let j : suc (left_of x.window) ≤ suc k = rw goes at g in
      enough_at_hand n k room buffer (turned m buffer x) (omega arith) (omega arith))

  pub turns_until_it_waits : TurnsUntilItWaits m
  unfolding advance_in
  turns_until_it_waits room buffer x =
      let after = turned m buffer x in
      ap (λ (y : Reach State). when waits_at m room x answer x else y)
      (enough_at_hand (left_of x.window) (suc (left_of after.window)) room buffer after (fewer_at_hand buffer x)
      (left_at_most (m.stopped after.state) (left_of after.window)))

  -- one turn more, or none
  module _ (room : ℕ) (buffer : List ℕ) (x : Reach State) where
    pub one_more_lem : waits_at m room x ≡ false → advance_of m room buffer x ≡ advance_of m room buffer (turned m buffer x)
    one_more_lem e = turns_until_it_waits room buffer x ∙ ap (λ (b : Bool). when b answer x else advance_of m room buffer (turned m buffer x)) e

    pub no_more : waits_at m room x ≡ true → advance_of m room buffer x ≡ x
    no_more e = turns_until_it_waits room buffer x ∙ ap (λ (b : Bool). when b answer x else advance_of m room buffer (turned m buffer x)) e
