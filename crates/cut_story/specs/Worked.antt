-- STORY-CUT: what is supposed of recorded links can be met.
-- Assumes nothing.
use Rattle.std.specs.Prelude.{true, false, take}
use Rattle.one_story.specs.Worked.{responder, four, four_on}
use Rattle.cut_story.specs.Windows.{Recorded}

-- STORY-CUT: the four packets of the worked run: the normal link's file ends inside the third, the other has all
abbrev pub RecordedFour : Type 0
RecordedFour = Recorded (responder true) four (take 34 (four_on true)) (four_on false) 2 4
