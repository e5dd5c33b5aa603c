-- A window on a file: the bytes of a bounded buffer that are read and not used up.
-- Assumes nothing.
use Rattle.std.specs.Prelude.{ℕ, ◌+◌, ◌-◌, ◌≤◌, ◌≡◌, Bool, true, false, not, ◌&&◌, List, ltb, eqb, Option, Some, None, Result, Ok, Err, length, take, drop}
use Rattle.window.specs.Answers.{Moved, clamp_len}
use Rattle.window.specs.declared.Window.{Window}
use Rattle.window.specs.declared.Read.{Read}
use Rattle.window.specs.declared.Filled.{Filled}
use Rattle.window.specs.declared.Refilled.{Refilled}

-- a window on no bytes, before the first read
abbrev pub empty_window : Window
empty_window = record { from = 0; to = 0; ended = false }

-- the window lies within a buffer of so many bytes
abbrev pub Within : Window → ℕ → Type 0
Within w room = (w.from ≤ w.to) × (w.to ≤ room)

-- how many bytes are left
abbrev pub left_of : Window → ℕ
left_of w = w.to - w.from

-- the bytes that are left
abbrev pub unread : List ℕ → Window → List ℕ
unread buffer w = take (left_of w) (drop w.from buffer)

-- fewer bytes are left than the most that one step looks at, and the file has not ended
unfoldable pub low_of : ℕ → Window → Bool
low_of most w = ltb (left_of w) most && not w.ended

-- the window after so many bytes of it are used up
abbrev pub used_of : ℕ → Window → Window
used_of used w = record { from = w.from + used; to = w.to; ended = w.ended }

-- no read was made: it had room for no byte
abbrev pub no_read : Read
no_read = record { room = 0; got = Ok 0 }

-- a read that answers why it failed has failed:
abbrev pub is_failure : {E : Type 0} → Result ℕ E → Bool
is_failure (Ok k) = false
is_failure (Err why) = true

abbrev pub failed_by : Read → Bool
failed_by r = is_failure r.got

-- it gave a number of bytes, and that is 0
abbrev pub is_nought : {E : Type 0} → Result ℕ E → Bool
is_nought (Ok k) = eqb k 0
is_nought (Err why) = false

-- a read with room that answers 0 is the end of the file
unfoldable pub ended_by : Read → Bool
ended_by r = not (eqb r.room 0) && is_nought r.got

-- how many bytes a read gave
abbrev pub came_by : Read → ℕ
came_by r = clamp_len r.got r.room

-- Reading behind the first bytes of a buffer: they stay as they were. The last read had all the room that was left for it, and what it gave
-- is the last that was filled; where the buffer was full before, there was none. Unless it failed or ended the file, the buffer is full.
pub record FilledFrom (before : List ℕ) (at : ℕ) (after : List ℕ) (r : Filled) : Type 0 where
  pub more : at ≤ r.to
  pub within : r.to ≤ length before
  pub kept : take at after ≡ take at before
  pub moved : Moved r.last.room r.last.got
  pub asked : r.to + r.last.room ≡ length before + came_by r.last
  pub full : failed_by r.last ≡ false → ended_by r.last ≡ false → r.to ≡ length before

-- A refill: the bytes that were left stand first, as they were, and what was read follows them. The file has ended exactly as its last
-- read says, and where that has failed, the refill has; else the buffer is full. What no contract can say: that the last read is what the
-- system answered, how many reads came before it, and which bytes they gave.
pub record RefilledFrom (before : List ℕ) (w : Window) (after : List ℕ) (r : Refilled) : Type 0 where
  pub front : r.window.from ≡ 0
  pub more : left_of w ≤ r.window.to
  pub within : r.window.to ≤ length before
  pub kept : take (left_of w) after ≡ unread before w
  pub moved : Moved r.last.room r.last.got
  pub asked : r.window.to + r.last.room ≡ length before + came_by r.last
  pub ended : r.window.ended ≡ ended_by r.last
  pub full : failed_by r.last ≡ false → r.window.ended ≡ false → r.window.to ≡ length before

-- What a refill read: the bytes behind those that were left.
abbrev pub was_read : Window → List ℕ → Refilled → List ℕ
was_read w after r = drop (left_of w) (unread after r.window)

-- a window that is not refilled: no read was made
abbrev pub as_it_was : Window → Refilled
as_it_was w = record { window = w; last = no_read }

-- TRACE-16, CUT-3: a window that was topped up for steps that look at so many bytes at the most: refilled where it was low, else as it was.
pub record ToppedUp (most : ℕ) (before : List ℕ) (w : Window) (after : List ℕ) (r : Refilled) : Type 0 where
  pub low : low_of most w ≡ true → RefilledFrom before w after r
  pub not_low : low_of most w ≡ false → (r ≡ as_it_was w) × (after ≡ before)

-- how many bytes a read says that it gave; none where it failed
abbrev pub gave_by : {E : Type 0} → Result ℕ E → Option ℕ
gave_by (Ok k) = Some k
gave_by (Err why) = None

-- OPEN-2: two refills that one input allows agree where their last reads do, for whatever reason those failed: in the window, and in the
-- bytes that were left. Which bytes were read stays open.
abbrev pub RefillsAgree : Type 0
RefillsAgree = (before : List ℕ) (w : Window) (after after' : List ℕ) (r r' : Refilled)
    → RefilledFrom before w after r → RefilledFrom before w after' r'
    → r.last.room ≡ r'.last.room → gave_by r.last.got ≡ gave_by r'.last.got
    → (r.window ≡ r'.window) × (take (left_of w) after ≡ take (left_of w) after')

-- OPEN-2: the same of a window that is topped up.
abbrev pub TopsAgree : Type 0
TopsAgree = (most : ℕ) (before : List ℕ) (w : Window) (after after' : List ℕ) (r r' : Refilled)
    → ToppedUp most before w after r → ToppedUp most before w after' r'
    → r.last.room ≡ r'.last.room → gave_by r.last.got ≡ gave_by r'.last.got
    → (r.window ≡ r'.window) × (take (left_of w) after ≡ take (left_of w) after')
