-- STORY-CUT: what `cut` prints for two recorded links of a sequence: lines of steps, of which those with answer 0 name it.
-- Assumes nothing.
use Rattle.std.specs.Prelude.{ℕ, max, ◌≡◌, List, ◌++◌, take}
use Rattle.text.specs.Line.{end_of}
use Rattle.links.specs.declared.Taken.{Taken}
use Rattle.recording.specs.Printed.{heading}
use Rattle.recording.specs.Cut.{cut_of}
use Rattle.one_story.specs.Sequence.{Packet, Gateway, fresh_of}
use Rattle.cut_story.specs.Names.{lines_of, named_in, names_of}
use Rattle.cut_story.specs.Windows.{Recorded}

-- STORY-CUT: what is printed are the heading, the lines of the steps, and the last line with the larger number of packets; and the lines
-- with answer 0 name the sequence up to that number, none twice, none out of order, none left out
pub record CutStory (gateway : Gateway) (sent : List Packet) (normal_file redundant_file : List ℕ) (n : ℕ) : Type 0 where
  pub steps : List Taken
  pub text : cut_of gateway.callers gateway.ours (fresh_of gateway) normal_file redundant_file ≡ heading ++ (lines_of steps ++ end_of n)
  pub named : named_in steps ≡ names_of (take n sent)

-- STORY-CUT: so it is of all such recordings
abbrev pub CutTellsOneStory : Type 0
CutTellsOneStory =
    (gateway : Gateway) (sent : List Packet) (normal_file redundant_file : List ℕ) (a b : ℕ)
    → Recorded gateway sent normal_file redundant_file a b → CutStory gateway sent normal_file redundant_file (max a b)
