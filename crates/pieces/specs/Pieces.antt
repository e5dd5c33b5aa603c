-- A machine on a file that is read a piece at a time, and the promise that its pieces print what is printed for the whole file.
-- Assumes nothing.
use Rattle.std.specs.Prelude.{ℕ, zero, suc, ◌-◌, ◌≡◌, Bool, true, ◌||◌, List, [], ◌++◌, ltb, length}
use Rattle.rules.specs.Rows.{when◌answer◌else◌}
use Rattle.text.specs.Text.{held_of}
use Rattle.window.specs.Window.{empty_window, left_of, unread, low_of, used_of, RefilledFrom, was_read, ToppedUp}
use Rattle.window.specs.declared.Window.{Window}
use Rattle.window.specs.declared.Refilled.{Refilled}
use Rattle.pieces.specs.Machine.{Turn, Machine, prints_for}

-- How far a machine is with the bytes at hand: its state, the window on those that are left, what was printed, and what the buffer lent to
-- the turns holds.
pub record Reach (State : Type 0) : Type 0 where
  pub state : State
  pub window : Window
  pub text : List ℕ
  pub lent : List ℕ

module _ {State : Type 0} where
  -- it waits where it has stopped, where the bytes at hand may be fewer than a turn looks at, and where there is no room for what it prints
  unfoldable pub waits : Machine State → Bool → Window → ℕ → Bool
  waits m stopped w room = stopped || low_of m.most_seen w || ltb room m.most_text

  -- the same of a reach
  abbrev pub waits_at : (m : Machine State) → ℕ → Reach State → Bool
  waits_at m room x = waits m (m.stopped x.state) x.window (room - length x.text)

  -- one turn more
  abbrev pub reached_by : (m : Machine State) → Reach State → Turn State → Reach State
  reached_by m x t = record { state = t.next; window = used_of t.used x.window; text = x.text ++ t.text; lent = t.lent x.lent }

  -- the machine's own
  abbrev pub turned : (m : Machine State) → List ℕ → Reach State → Reach State
  turned m buffer x = reached_by m x (m.turn x.state (unread buffer x.window))

  -- turns until it waits, so many at the most
  unfoldable pub advance_in : (m : Machine State) → ℕ → ℕ → List ℕ → Reach State → Reach State
  advance_in m zero room buffer x = x
  advance_in m (suc turns) room buffer x =
      when waits_at m room x answer x else
      advance_in m turns room buffer (turned m buffer x)

  -- turns until it waits: a turn for each byte at hand and one at the end are enough
  abbrev pub advance_of : (m : Machine State) → ℕ → List ℕ → Reach State → Reach State
  advance_of m room buffer x = advance_in m (suc (left_of x.window)) room buffer x

  -- They are enough: until it waits, it takes one turn more.
  abbrev pub TurnsUntilItWaits : Machine State → Type 0
  TurnsUntilItWaits m = (room : ℕ) (buffer : List ℕ) (x : Reach State) → advance_of m room buffer x ≡ (
      when waits_at m room x answer x else
      advance_of m room buffer (turned m buffer x))

  -- before the first turn of a piece nothing of it is printed
  abbrev pub reach_of : (m : Machine State) → State → Window → List ℕ → Reach State
  reach_of m p w lent = record { state = p; window = w; text = []; lent = lent }

  -- where the turns of a piece lead, with so much room
  abbrev pub piece_from : (m : Machine State) → ℕ → List ℕ → State → Window → List ℕ → Reach State
  piece_from m room buffer p w lent = advance_of m room buffer (reach_of m p w lent)

  -- What a program's turn is as the machine's: the state after it, what it left in the buffer lent to it, its text behind a text, and how
  -- many bytes it used up.
  pub record TurnTaken (t : Turn State) (next : State) (lent lent_after out out_after : List ℕ) (used : ℕ) : Type 0 where
    pub state : next ≡ t.next
    pub leaves : lent_after ≡ t.lent lent
    pub put : out_after ≡ out ++ t.text
    pub uses : used ≡ t.used

  -- The turns of a piece, with their text put behind a text in a room of so many bytes: all that the bytes at hand and the room behind that
  -- text allow. The turns were lent the bytes `lent`, and left them as `lent_after`.
  pub record AdvancedTo (m : Machine State) (size : ℕ) (buffer : List ℕ) (p : State) (w : Window)
      (lent before lent_after after : List ℕ) (q : State) (v : Window) : Type 0 where
    pub state : q ≡ (piece_from m (size - length before) buffer p w lent).state
    pub window : v ≡ (piece_from m (size - length before) buffer p w lent).window
    pub put : after ≡ before ++ (piece_from m (size - length before) buffer p w lent).text
    pub leaves : lent_after ≡ (piece_from m (size - length before) buffer p w lent).lent

  -- OPEN-2: two results that one input allows agree: in the state, in the window, and in every byte of the text and of the lent buffer.
  abbrev pub AdvancesAgree : Machine State → Type 0
  AdvancesAgree m =
      (size : ℕ) (buffer : List ℕ) (p : State) (w : Window) (lent before lent_after lent_after' after after' : List ℕ)
      (q q' : State) (v v' : Window)
      → AdvancedTo m size buffer p w lent before lent_after after q v
      → AdvancedTo m size buffer p w lent before lent_after' after' q' v'
      → (q ≡ q') × (v ≡ v') × (lent_after ≡ lent_after') × (after ≡ after')

  -- A run of a machine on a file through a window: the buffer, the window on the bytes at hand, the bytes of the file that are still to be
  -- read, the state, and all that was printed. It starts with the heading. A refill (what `window::refill` ensures) reads the next bytes of
  -- the file, and all of them where it says that the file has ended: this alone is assumed of the calls that read. Then as many turns are
  -- taken as the bytes at hand and some room for text allow, whatever the buffer lent to them holds. Refills and pieces come in any order
  -- and number.
  pub data Runs (m : Machine State) (file : List ℕ) : List ℕ → Window → List ℕ → State → List ℕ → Type 0 where
    starts : (buffer : List ℕ) → Runs m file buffer empty_window file m.first m.heading
    refills : {buffer : List ℕ} {w : Window} {to_read : List ℕ} {p : State} {printed : List ℕ} → Runs m file buffer w to_read p printed
        → (after : List ℕ) (r : Refilled) → RefilledFrom buffer w after r → length after ≡ length buffer
        → (rest : List ℕ) → to_read ≡ was_read w after r ++ rest → (r.window.ended ≡ true → rest ≡ [])
        → Runs m file after r.window rest p printed
    advances : {buffer : List ℕ} {w : Window} {to_read : List ℕ} {p : State} {printed : List ℕ} → Runs m file buffer w to_read p printed
        → (room : ℕ) (lent : List ℕ) → Runs m file buffer (piece_from m room buffer p w lent).window to_read
        (piece_from m room buffer p w lent).state (printed ++ (piece_from m room buffer p w lent).text)

  -- TRACE-16: where such a run has stopped, all that was printed is what is printed for the whole file.
  abbrev pub PiecesAsWhole : Machine State → Type 0
  PiecesAsWhole m =
      (file buffer : List ℕ) (w : Window) (to_read : List ℕ) (p : State) (printed : List ℕ)
      → Runs m file buffer w to_read p printed → m.stopped p ≡ true → printed ≡ prints_for m file

  -- ---- what a program does in turn: pieces of a file

  -- One piece: room for what a turn prints; the window topped up; and as many turns as the bytes at hand and the room allow, with their
  -- text put behind the text that is held.
  pub record PieceOf (m : Machine State) (size : ℕ) (before : List ℕ) (w : Window) (p : State)
      (lent out after lent_after out_after : List ℕ) (q : State) (v : Window) : Type 0 where
    pub topped : Refilled
    pub up : ToppedUp m.most_seen before w after topped
    pub advanced : AdvancedTo m size after p topped.window lent (held_of m.most_text size out) lent_after out_after q v

  -- Between the pieces: the bytes that were read and the text that was written, so that with any bytes that follow, none where the file has
  -- ended, it is the run on a file that has printed what was written and the text that is held.
  pub record Running (m : Machine State) (buffer : List ℕ) (w : Window) (p : State) (out : List ℕ) : Type 0 where
    pub read : List ℕ
    pub written : List ℕ
    pub runs : (rest : List ℕ) → (w.ended ≡ true → rest ≡ []) → Runs m (read ++ rest) buffer w rest p (written ++ out)

  -- TRACE-16, at the end: what was written and the text that is held is what is printed for the bytes that were read. Which bytes and
  -- which text these are is not said of a program: no contract can speak of what is read from a file or written to one.
  pub record PrintedWhole (m : Machine State) (out : List ℕ) : Type 0 where
    pub read : List ℕ
    pub written : List ℕ
    pub whole : written ++ out ≡ prints_for m read
