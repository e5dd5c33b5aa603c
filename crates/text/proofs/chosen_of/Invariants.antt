-- `text::chosen_of`: none of the words that were passed is the same.
use Rattle.std.proofs.Common.{◌≡◌, drop}
use Rattle.text.specs.Text.{chosen_of}
use Rattle.text.proofs.chosen_of.Given as goal

abbrev pub invariant-loop-other : goal.invariant-loop-other
invariant-loop-other g l = chosen_of l.word (drop l.other-index l.words) ≡ chosen_of l.word l.words
