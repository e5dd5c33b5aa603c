-- CUT-3, the promise of the windows: however two files are read into them, what is printed is what `cut` prints for the whole files.
-- Assumes nothing.
use Rattle.std.specs.Prelude.{ℕ, ◌≤◌, ◌≡◌, true, false, List, [], ◌++◌, length, drop}
use Rattle.text.specs.Text.{held_of}
use Rattle.window.specs.Window.{unread, low_of, failed_by, RefilledFrom, was_read, ToppedUp}
use Rattle.window.specs.MovedOnce.{RoomForTwo, MovedNoMoreThanRead}
use Rattle.window.specs.declared.Window.{Window}
use Rattle.window.specs.declared.Refilled.{Refilled}
use Rattle.packet.specs.Sizes.{most_packet}
use Rattle.links.specs.declared.State.{State}
use Rattle.links.specs.declared.Taken.{Taken}
use Rattle.text.specs.Line.{end_of}
use Rattle.recording.specs.Printed.{heading, line_of, most_line}
use Rattle.recording.specs.Progress.{start_of, windowed, taken_at, last_answer, stepped_of, Lies, AdvancedTo}
use Rattle.recording.specs.Cut.{Reach, reached_by, taken_from, cut_of}
use Rattle.recording.specs.declared.Progress.{Progress}

-- CUT-3: a window follows a file from a place: its unread bytes are the file's next ones, behind them come those that are still to be read,
-- and where the file has ended there are none of these.
pub record Follows (file : List ℕ) (place : ℕ) (buffer : List ℕ) (w : Window) (to_read : List ℕ) : Type 0 where
  pub next : drop place file ≡ unread buffer w ++ to_read
  pub all : w.ended ≡ true → to_read ≡ []

-- the reach of a progress whose windows stand at two places
abbrev pub reach_of : ℕ → ℕ → Progress → Reach
reach_of normal redundant p = record { normal = normal; redundant = redundant; state = p.state; handed_up = p.handed_up }

module _ (normal_file : List ℕ) (normal_place : ℕ) (redundant_file : List ℕ) (redundant_place : ℕ) (normal redundant : List ℕ)
    (callers : List ℕ) (ours : ℕ) (p : Progress) where
  -- the step over the whole files, and the reach after it:
  abbrev pub whole : Taken
  whole = taken_from normal_file redundant_file callers ours (reach_of normal_place redundant_place p)

  abbrev pub reached : Reach
  reached = reached_by whole (reach_of normal_place redundant_place p)

  -- the progress after the step over the windows
  abbrev pub after : Progress
  after = stepped_of (taken_at normal redundant callers ours p) p

  -- CUT-3: windows that follow two files and are not low: the line of their step is that of the step over the whole files, and so are the
  -- progress after it and the places from which the windows follow the files then.
  abbrev pub StepsAsWhole : Type 0
  StepsAsWhole =
      (normal_to_read redundant_to_read : List ℕ) → Lies p (length normal) (length redundant)
      → Follows normal_file normal_place normal p.normal normal_to_read
      → Follows redundant_file redundant_place redundant p.redundant redundant_to_read
      → low_of most_packet p.normal ≡ false → low_of most_packet p.redundant ≡ false
      → (line_of (taken_at normal redundant callers ours p) ≡ line_of whole) × (after.last ≡ last_answer whole.answer)
      × (reach_of reached.normal reached.redundant after ≡ reached)
      × Follows normal_file reached.normal normal after.normal normal_to_read
      × Follows redundant_file reached.redundant redundant after.redundant redundant_to_read

-- A link's buffer and window, and the bytes of its file that are still to be read, stay as they are or are refilled. A refill (what
-- `window::refill` ensures) reads the next bytes of the file, and all of them where it says that the file has ended: this alone is assumed
-- of the calls that read.
pub data Reads (buffer : List ℕ) (w : Window) (to_read : List ℕ) : List ℕ → Window → List ℕ → Type 0 where
  stays : Reads buffer w to_read buffer w to_read
  refills : (after : List ℕ) (r : Refilled) → RefilledFrom buffer w after r → length after ≡ length buffer
      → (rest : List ℕ) → to_read ≡ was_read w after r ++ rest → (r.window.ended ≡ true → rest ≡ [])
      → Reads buffer w to_read after r.window rest

-- a window that follows a file follows it after it is refilled
abbrev pub ReadsFollow : Type 0
ReadsFollow =
    (file : List ℕ) (place : ℕ) (buffer : List ℕ) (w : Window) (to_read after : List ℕ) (v : Window) (rest : List ℕ)
    → Follows file place buffer w to_read → Reads buffer w to_read after v rest → Follows file place after v rest

-- A cutting of two files through their windows: the buffers, the progress with the windows on the bytes at hand, the bytes of each file
-- that are still to be read, and all that was printed. It starts with the heading. Windows are refilled, or not, in any order and number. A
-- step is taken over windows that are not low (what `recording::advance` asks), and none after the last.
pub data Cuts (callers : List ℕ) (ours : ℕ) (state : State) (normal_file redundant_file : List ℕ)
    : List ℕ → List ℕ → Progress → List ℕ → List ℕ → List ℕ → Type 0 where
  starts : (normal redundant : List ℕ)
      → Cuts callers ours state normal_file redundant_file normal redundant (start_of state) normal_file redundant_file heading
  reads : {normal redundant : List ℕ} {p : Progress} {normal_to_read redundant_to_read printed : List ℕ}
      → Cuts callers ours state normal_file redundant_file normal redundant p normal_to_read redundant_to_read printed
      → {normal_after redundant_after : List ℕ} {n r : Window} {normal_rest redundant_rest : List ℕ}
      → Reads normal p.normal normal_to_read normal_after n normal_rest
      → Reads redundant p.redundant redundant_to_read redundant_after r redundant_rest
      → Cuts callers ours state normal_file redundant_file normal_after redundant_after (windowed n r p) normal_rest redundant_rest printed
  steps : {normal redundant : List ℕ} {p : Progress} {normal_to_read redundant_to_read printed : List ℕ}
      → Cuts callers ours state normal_file redundant_file normal redundant p normal_to_read redundant_to_read printed
      → p.last ≡ false → low_of most_packet p.normal ≡ false → low_of most_packet p.redundant ≡ false
      → Cuts callers ours state normal_file redundant_file normal redundant (stepped_of (taken_at normal redundant callers ours p) p)
      normal_to_read redundant_to_read (printed ++ line_of (taken_at normal redundant callers ours p))

-- Where such a cutting has taken its last step, all that was printed, and the last line, are what `cut` prints for the whole files.
abbrev pub PiecesAsWhole : Type 0
PiecesAsWhole =
    (callers : List ℕ) (ours : ℕ) (state : State) (normal_file redundant_file normal redundant : List ℕ) (p : Progress)
    (normal_to_read redundant_to_read printed : List ℕ)
    → Cuts callers ours state normal_file redundant_file normal redundant p normal_to_read redundant_to_read printed → p.last ≡ true
    → printed ++ end_of p.handed_up ≡ cut_of callers ours state normal_file redundant_file

-- What a program does in turn: windows topped up, a step, its line.

-- A window alone, topped up for steps that look at so many bytes at the most, so that it is not low; no read failed.
pub record WindowToppedUp (most : ℕ) (before : List ℕ) (w : Window) (after : List ℕ) (window : Window) : Type 0 where
  pub refilled : Refilled
  pub given : window ≡ refilled.window
  pub up : ToppedUp most before w after refilled
  pub high : low_of most window ≡ false
  pub read : failed_by refilled.last ≡ false

-- Both windows topped up, so that neither is low; no read failed.
pub record BothToppedUp (normal redundant : List ℕ) (p : Progress) (normal_after redundant_after : List ℕ) (first second : Refilled)
    : Type 0 where
  pub up_normal : ToppedUp most_packet normal p.normal normal_after first
  pub up_redundant : ToppedUp most_packet redundant p.redundant redundant_after second
  pub high_normal : low_of most_packet first.window ≡ false
  pub high_redundant : low_of most_packet second.window ≡ false
  pub read_normal : failed_by first.last ≡ false
  pub read_redundant : failed_by second.last ≡ false

-- The same, of the progress with these windows.
pub record WindowsToppedUp (normal redundant : List ℕ) (p : Progress) (normal_after redundant_after : List ℕ) (lent : Progress)
    : Type 0 where
  pub first : Refilled
  pub second : Refilled
  pub up : BothToppedUp normal redundant p normal_after redundant_after first second
  pub with_them : lent ≡ windowed first.window second.window p

-- One turn: room for a line; both windows topped up; a step over them, with its line put behind the text that
-- is held, in an out buffer with this room.
pub record TurnOf (normal redundant callers : List ℕ) (ours : ℕ) (p : Progress) (room : ℕ) (out : List ℕ)
    (normal_after redundant_after out_after : List ℕ) (result : Progress) : Type 0 where
  pub first : Refilled
  pub second : Refilled
  pub up : BothToppedUp normal redundant p normal_after redundant_after first second
  pub advanced :
      AdvancedTo normal_after redundant_after callers ours (windowed first.window second.window p)
      (held_of most_line room out) out_after result

-- Between the turns: the bytes that were read of each file and the text that was written, so that with any bytes that follow, none where a
-- file has ended, it is the cutting of two files that has printed what was written and what the out buffer holds.
pub record Cutting (callers : List ℕ) (ours : ℕ) (state : State) (normal redundant : List ℕ) (p : Progress) (out : List ℕ) : Type 0 where
  pub normal_read : List ℕ
  pub redundant_read : List ℕ
  pub written : List ℕ
  pub cuts : (normal_rest redundant_rest : List ℕ)
      → (p.normal.ended ≡ true → normal_rest ≡ []) → (p.redundant.ended ≡ true → redundant_rest ≡ [])
      → Cuts callers ours state (normal_read ++ normal_rest) (redundant_read ++ redundant_rest)
      normal redundant p normal_rest redundant_rest
      (written ++ out)

-- After the last step: what was written, what the out buffer holds and the last line, which counts the packets handed up, are what `cut`
-- prints for the bytes that were read.
pub record PrintedToTheEnd (callers : List ℕ) (ours : ℕ) (state : State) (out : List ℕ) (count : ℕ) : Type 0 where
  pub normal_read : List ℕ
  pub redundant_read : List ℕ
  pub written : List ℕ
  pub whole : written ++ out ++ end_of count ≡ cut_of callers ours state normal_read redundant_read

-- At the end: what was written and what the out buffer holds is what `cut` prints for the bytes that were read.
pub record PrintedWhole (callers : List ℕ) (ours : ℕ) (state : State) (out : List ℕ) : Type 0 where
  pub normal_read : List ℕ
  pub redundant_read : List ℕ
  pub written : List ℕ
  pub whole : written ++ out ≡ cut_of callers ours state normal_read redundant_read

-- CUT-6: each link's buffer has room for two of the longest packets
abbrev pub BothHaveRoom : ℕ → ℕ → Type 0
BothHaveRoom normal redundant = RoomForTwo most_packet normal × RoomForTwo most_packet redundant

-- CUT-6: the windows' refills, within buffers of so many bytes, have moved no more bytes than they have read
abbrev pub BothMovedNoMore : Progress → ℕ → ℕ → Type 0
BothMovedNoMore p normal redundant =
    MovedNoMoreThanRead most_packet normal p.normal × MovedNoMoreThanRead most_packet redundant p.redundant

-- Before the first turn: each link's buffer has room for two packets and the out buffer for a line, and the out buffer holds the heading.
abbrev pub Headed : List ℕ → List ℕ → ℕ → List ℕ → Type 0
Headed normal redundant room out = BothHaveRoom (length normal) (length redundant) × (most_line ≤ room) × (out ≡ heading)
