-- STORY-CUT: what the lines of steps name.
-- Assumes nothing.
use Rattle.std.specs.Prelude.{ℕ, List, [], ◌∷◌, ◌++◌, eqb, length}
use Rattle.rules.specs.Rows.{when◌answer◌else◌}
use Rattle.links.specs.declared.Taken.{Taken}
use Rattle.recording.specs.Printed.{line_of}
use Rattle.one_story.specs.Sequence.{Packet}

-- STORY-CUT: the lines of steps, one behind the other
abbrev pub lines_of : List Taken → List ℕ
lines_of [] = []
lines_of (taken ∷ steps) = line_of taken ++ lines_of steps

-- STORY-CUT: what a line names of a packet that is handed up (CUT-1): its type, its number and how many bytes of user data it has
abbrev pub Name : Type 0
Name = ℕ × ℕ × ℕ

-- STORY-CUT: what the lines with answer 0 name, in their order
abbrev pub named_in : List Taken → List Name
named_in [] = []
named_in (taken ∷ steps) = (when (eqb taken.answer 0) answer ((taken.kind, taken.number, taken.size) ∷ []) else []) ++ named_in steps

-- STORY-CUT: what names packets
abbrev pub names_of : List Packet → List Name
names_of [] = []
names_of (p ∷ ps) = (p.kind, p.number, length p.user_data) ∷ names_of ps
