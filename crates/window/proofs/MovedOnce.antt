-- In a buffer with room for two of what a step looks at, what one refill moves is used up before the next.
-- Assumes nothing.
use Prim.Native.Nat.{ℕ, ◌+◌, ◌-◌, ◌≤◌, ◌<◌}
use mathlib.Core.Path.{◌≡◌, refl, sym, ap, subst, ◌∙◌}
use mathlib.Core.Bool.{Bool, true, false, not, ◌&&◌, false≢true}
use mathlib.Core.Logic.{◌⊎◌, inl, inr, ⊎_elim}
use mathlib.Core.List.{List}
use native.Mathlib.Omega.{arith}
use borrow.Author.Tests.{ltb-true}
use lib.Dec.{ltb}
use lib.ListN.{length}
use Rattle.window.specs.Window.{empty_window, Within, left_of, low_of, used_of, failed_by, ToppedUp}
use Rattle.window.specs.MovedOnce.{RoomForTwo, MovedAtMostOnce, Refills, starts, uses, refills, MovesNoMoreThanItReads, MovedNoMoreThanRead}
use Rattle.window.specs.declared.Window.{Window}
use Rattle.window.specs.declared.Refilled.{Refilled}
use Rattle.window.proofs.Unread.{low_not_ended}

-- a window that is low has fewer bytes left than a step may look at
low_few : (most : ℕ) (w : Window) → low_of most w ≡ true → left_of w < most
unfolding low_of
low_few most w = by (ltb (left_of w) most) refl
  where
    by : (few : Bool) → ltb (left_of w) most ≡ few → (few && not w.ended) ≡ true → left_of w < most
    by true e l = ltb-true _ _ e
    by false e l = absurd (false≢true l)

pub moved_at_most_once : MovedAtMostOnce
moved_at_most_once most before after w r used room low refilled ok again =
    let full = refilled.full ok (low_not_ended most _ again) in
    omega (arith, room, low_few most w low, low_few most _ again, full, refilled.front)

-- What holds between refills: the last one moved no more bytes than a step may look at, and they stand within the window's buffer; those that
-- the others moved are used up; and the buffer was filled, or nothing was read yet, or the file has ended.
record Between (most room : ℕ) (w : Window) (moved read : ℕ) : Type 0 where
  pub last : ℕ
  pub few : last ≤ most
  pub within : last ≤ w.to
  pub used_up_lem : moved + w.to ≤ read + last
  pub filled : w.ended ≡ false → (w.to ≡ room) ⊎ (w.to ≡ 0)

between : (most room : ℕ) → RoomForTwo most room → {w : Window} {moved read : ℕ} → Refills most room w moved read → Between most room w moved read
between most room two starts = record { last = 0; few = omega arith; within = omega arith; used_up_lem = omega arith; filled = λ _. inr refl }
between most room two (uses run used h) =
    let was = between most room two run in
    record { last = was.last; few = was.few; within = was.within; used_up_lem = was.used_up_lem; filled = was.filled }
between most room two (refills {w} {moved} {read} run low before after r size refilled ok) =
    let was = between most room two run in
    let few = low_few most w low in
    record {
      last = left_of w;
      few = omega (arith, few);
      within = refilled.more;
      used_up_lem =
          ⊎_elim (λ full. omega (arith, two, few, was.few, was.used_up_lem, refilled.more, full))
          (λ none. omega (arith, was.within, was.used_up_lem, none)) (was.filled (low_not_ended most w low));
      filled = λ e. inl (refilled.full ok e ∙ size);
    }

pub moves_no_more_than_it_reads : MovesNoMoreThanItReads
moves_no_more_than_it_reads most room two w moved read run =
    let now = between most room two run in
    omega (arith, now.within, now.used_up_lem)

-- What a program does with a window keeps this: it starts with none, tops it up, and uses some of its bytes.

pub none_moved : (most room : ℕ) {w : Window} → w ≡ empty_window → MovedNoMoreThanRead most room w
none_moved most room e = subst (λ (w : Window). MovedNoMoreThanRead most room w) (sym e) (record { moved = 0; read = 0; run = starts; no_more = omega arith })

pub moved_topped_up : (most : ℕ) (before : List ℕ) (w : Window) (after : List ℕ) (r : Refilled) → RoomForTwo most (length before) → ToppedUp most before w after r → failed_by r.last ≡ false
    → Within w (length before) → MovedNoMoreThanRead most (length before) w → MovedNoMoreThanRead most (length before) r.window × Within r.window (length before)
moved_topped_up most before w after r two up ok within was = by (low_of most w) refl
  where
    by : (low : Bool) → low_of most w ≡ low → MovedNoMoreThanRead most (length before) r.window × Within r.window (length before)
    by false e =
        subst (λ (v : Window). MovedNoMoreThanRead most (length before) v × Within v (length before)) (sym (ap (λ (q : Refilled). q.window) (up.not_low e).0)) (was, within)
    by true e =
        let refilled = up.low e in
        let run = refills was.run e before after r refl refilled ok in (
          record { moved = was.moved + left_of w; read = was.read + (r.window.to - left_of w); run = run; no_more = moves_no_more_than_it_reads most (length before) two _ _ _ run },
          (omega (arith, refilled.front), refilled.within),
        )

pub moved_used : (most room used : ℕ) (w : Window) → w.from + used ≤ w.to → MovedNoMoreThanRead most room w → MovedNoMoreThanRead most room (used_of used w)
moved_used most room used w h was = record { moved = was.moved; read = was.read; run = uses was.run used h; no_more = was.no_more }
