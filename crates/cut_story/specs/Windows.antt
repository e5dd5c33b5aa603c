-- STORY-WINDOW: from a program's refilled buffers to a run.
-- Assumes nothing.
use Rattle.std.specs.Prelude.{ℕ, ◌≤◌, ◌<◌, ◌≡◌, Bool, true, false, List, ◌++◌, length, take}
use Rattle.window.specs.Window.{Within}
use Rattle.window.specs.declared.Window.{Window}
use Rattle.links.specs.declared.Taken.{Taken}
use Rattle.recording.specs.Printed.{heading}
use Rattle.recording.specs.Whole.{Follows, Reads, Cuts}
use Rattle.recording.specs.declared.Progress.{Progress}
use Rattle.one_story.specs.Sequence.{Packet, Gateway, fresh_of, Sequence, bytes_on}
use Rattle.one_story.specs.Run.{Link, Moment, Lends}
use Rattle.one_story.specs.OneStory.{RunOf, most_lag, Whole}
use Rattle.cut_story.specs.Names.{lines_of, named_in, names_of}

-- STORY-WINDOW: what a link has brought, and what is still to be read of its file, is the file
abbrev pub ReadOf : List ℕ → Link → List ℕ → Type 0
ReadOf file link to_read = link.arrived ++ to_read ≡ file

-- STORY-WINDOW: a window that follows a file from the bytes that are used lends a step what a run asks of a lent buffer
abbrev pub WindowLends : Type 0
WindowLends =
    (file buffer to_read : List ℕ) (w : Window) (link : Link) → Within w (length buffer) → Follows file link.used buffer w to_read
    → ReadOf file link to_read → link.used ≤ length link.arrived → Lends link (take w.to buffer) w.from

-- STORY-WINDOW: the piece that a refill brings
pub record Piece (to_read rest : List ℕ) : Type 0 where
  pub piece : List ℕ
  pub next : to_read ≡ piece ++ rest

-- STORY-WINDOW: a refill is the arrival of a piece, and no refill that of an empty one
abbrev pub ReadsArrive : Type 0
ReadsArrive =
    (buffer : List ℕ) (w : Window) (to_read after : List ℕ) (v : Window) (rest : List ℕ)
    → Reads buffer w to_read after v rest → Piece to_read rest

-- STORY-WINDOW: a file is a first part of what a link brings
pub record FirstPart (normal : Bool) (sent : List Packet) (file : List ℕ) : Type 0 where
  pub rest : List ℕ
  pub part : file ++ rest ≡ bytes_on normal sent

-- STORY-CUT: two recorded links of a sequence, with so many whole packets each. `cut` uses the normal link's file to its last whole packet
-- before it begins with the other one: so, unless that has none, the normal one has fewer packets than the most lag.
pub record Recorded (gateway : Gateway) (sent : List Packet) (normal_file redundant_file : List ℕ) (a b : ℕ) : Type 0 where
  pub sequence : Sequence gateway sent
  pub normal_part : FirstPart true sent normal_file
  pub redundant_part : FirstPart false sent redundant_file
  pub normal_whole : Whole true sent normal_file a
  pub redundant_whole : Whole false sent redundant_file b
  pub near : 0 < b → a < most_lag gateway.strict

-- STORY-WINDOW: the moment of a run at which a program stands that cuts two files through its windows: its state and its count, what was
-- read of the files, and what was printed, the lines of its steps, of which those with answer 0 name what has been handed up
pub record CutMoment (gateway : Gateway) (sent : List Packet) (p : Progress)
    (normal_file redundant_file normal_to_read redundant_to_read printed : List ℕ) : Type 0 where
  pub now : Moment
  pub run : RunOf gateway sent (most_lag gateway.strict) now
  pub state : now.state ≡ p.state
  pub handed : length now.handed ≡ p.handed_up
  pub normal_read : ReadOf normal_file now.normal normal_to_read
  pub redundant_read : ReadOf redundant_file now.redundant redundant_to_read
  pub steps : List Taken
  pub text : printed ≡ heading ++ lines_of steps
  pub named : named_in steps ≡ names_of now.handed

-- STORY-WINDOW: however two such files are read into windows and cut, the program stands at a moment of a run: so all that is claimed of a
-- run is claimed of it
abbrev pub CuttingIsARun : Type 0
CuttingIsARun =
    (gateway : Gateway) (sent : List Packet) (normal_file redundant_file : List ℕ) (a b : ℕ)
    → Recorded gateway sent normal_file redundant_file a b
    → (normal redundant : List ℕ) (p : Progress) (normal_to_read redundant_to_read printed : List ℕ)
    → Cuts gateway.callers gateway.ours (fresh_of gateway) normal_file redundant_file
    normal redundant p normal_to_read redundant_to_read printed
    → CutMoment gateway sent p normal_file redundant_file normal_to_read redundant_to_read printed
