-- One step over the two windows whose line is put into a lent buffer at a place, by a part of it.
-- Assumes nothing.
use Rattle.std.specs.Prelude.{ℕ, ◌≡◌, List}
use Rattle.text.specs.Text.{PutAt}
use Rattle.recording.specs.Printed.{line_of}
use Rattle.recording.specs.Progress.{taken_at, stepped_of}
use Rattle.recording.specs.declared.Progress.{Progress}

-- The progress after the step, what the buffer holds then, and the place after the line.
pub record AdvancedAt (normal redundant callers : List ℕ) (ours : ℕ) (p : Progress) (before : List ℕ) (at : ℕ) (after : List ℕ)
    (result : Progress) (next : ℕ) : Type 0 where
  pub progress : result ≡ stepped_of (taken_at normal redundant callers ours p) p
  pub put : PutAt before at (line_of (taken_at normal redundant callers ours p)) after next

-- OPEN-2: two results that one input allows agree, in the progress, the place and every byte.
abbrev pub AdvancesAtAgree : Type 0
AdvancesAtAgree =
    (normal redundant callers : List ℕ) (ours : ℕ) (p : Progress) (before : List ℕ) (at : ℕ) (after after' : List ℕ)
    (r r' : Progress) (next next' : ℕ)
    → AdvancedAt normal redundant callers ours p before at after r next
    → AdvancedAt normal redundant callers ours p before at after' r' next'
    → (after ≡ after') × (r ≡ r') × (next ≡ next')
