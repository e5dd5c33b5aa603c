-- CUT-6, the promise of a large buffer: no byte of a file is moved more than once within it.
-- Assumes nothing.
use Rattle.std.specs.Prelude.{ℕ, ◌+◌, ◌-◌, ◌≤◌, ◌≡◌, true, false, List, length}
use Rattle.window.specs.Window.{empty_window, left_of, low_of, used_of, failed_by, RefilledFrom}
use Rattle.window.specs.declared.Window.{Window}
use Rattle.window.specs.declared.Refilled.{Refilled}

-- CUT-6: a buffer of so many bytes has room for twice the most that one step looks at
abbrev pub RoomForTwo : ℕ → ℕ → Type 0
RoomForTwo most room = most + most ≤ room

-- CUT-6: the bytes that a refill moves to the front are all used up before the window is low again, so that the next one moves none of them
abbrev pub MovedAtMostOnce : Type 0
MovedAtMostOnce =
    (most : ℕ) (before after : List ℕ) (w : Window) (r : Refilled) (used : ℕ) → RoomForTwo most (length before)
    → low_of most w ≡ true → RefilledFrom before w after r → failed_by r.last ≡ false → low_of most (used_of used r.window) ≡ true
    → left_of w ≤ used

-- A window on a file from before the first read: how many bytes its refills have moved in all, and how many they have read. Between them
-- bytes are used up; it is refilled where it is low.
pub data Refills (most room : ℕ) : Window → ℕ → ℕ → Type 0 where
  starts : Refills most room empty_window 0 0
  uses : {w : Window} {moved read : ℕ} → Refills most room w moved read → (used : ℕ) → w.from + used ≤ w.to
      → Refills most room (used_of used w) moved read
  refills : {w : Window} {moved read : ℕ} → Refills most room w moved read → low_of most w ≡ true
      → (before after : List ℕ) (r : Refilled) → length before ≡ room → RefilledFrom before w after r → failed_by r.last ≡ false
      → Refills most room r.window (moved + left_of w) (read + (r.window.to - left_of w))

-- CUT-6: no more bytes are moved in all than were read
abbrev pub MovesNoMoreThanItReads : Type 0
MovesNoMoreThanItReads =
    (most room : ℕ) → RoomForTwo most room → (w : Window) (moved read : ℕ) → Refills most room w moved read → moved ≤ read

-- CUT-6: a window that came about so in a buffer of so many bytes: how many its refills have moved in all, which is no more than they have
-- read.
pub record MovedNoMoreThanRead (most room : ℕ) (w : Window) : Type 0 where
  pub moved : ℕ
  pub read : ℕ
  pub run : Refills most room w moved read
  pub no_more : moved ≤ read
