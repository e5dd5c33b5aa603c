-- How far two recorded links are cut: a step over their windows, with what it uses up, counts and prints.
-- Assumes nothing.
use Rattle.std.specs.Prelude.{ℕ, ◌+◌, ◌≤◌, ◌≡◌, Bool, true, false, cond, ◌||◌, List, ◌++◌, eqb, length, take}
use Rattle.window.specs.declared.Window.{Window}
use Rattle.window.specs.Window.{empty_window, Within, used_of}
use Rattle.links.specs.Table.{taken_of, user_data_of}
use Rattle.links.specs.declared.State.{State}
use Rattle.links.specs.declared.Taken.{Taken}
use Rattle.recording.specs.Printed.{line_of}
use Rattle.recording.specs.declared.Progress.{Progress}

-- before the first step both windows are empty, and nothing was handed up
abbrev pub start_of : State → Progress
start_of state = record { normal = empty_window; redundant = empty_window; state = state; handed_up = 0; last = false }

-- the same progress with other windows
abbrev pub windowed : Window → Window → Progress → Progress
windowed normal redundant p = record {
  normal = normal;
  redundant = redundant;
  state = p.state;
  handed_up = p.handed_up;
  last = p.last;
}

-- what one step takes of the two windows, by the list of callers and our own id
abbrev pub taken_at : List ℕ → List ℕ → List ℕ → ℕ → Progress → Taken
taken_at normal redundant callers ours p =
    taken_of (take p.normal.to normal) p.normal.from (take p.redundant.to redundant) p.redundant.from callers ours p.state

-- CUT-2: the first 301 or 308 is the last answer
unfoldable pub last_answer : ℕ → Bool
last_answer answer = eqb answer 301 || eqb answer 308

-- the count of packets handed up, after a step
unfoldable pub counted_of : ℕ → ℕ → ℕ
counted_of handed_up answer = cond (eqb answer 0) (handed_up + 1) handed_up

-- the progress after that step: the bytes used of the link it names, its state, and one packet more where one is handed up; CUT-2: whether
-- it was the last
unfoldable pub stepped_of : Taken → Progress → Progress
stepped_of taken p = record {
  normal = cond taken.normal (used_of taken.used p.normal) p.normal;
  redundant = cond taken.normal p.redundant (used_of taken.used p.redundant);
  state = taken.state;
  handed_up = counted_of p.handed_up taken.answer;
  last = last_answer taken.answer;
}

-- a step uses no more of the link it names than its window has
abbrev pub UsesNoMore : Taken → Progress → Type 0
UsesNoMore taken p =
    (taken.normal ≡ true → p.normal.from + taken.used ≤ p.normal.to)
    × (taken.normal ≡ false → p.redundant.from + taken.used ≤ p.redundant.to)

-- the part of a window that an answer hands up has as many bytes as it says
abbrev pub CountsItsData : List ℕ → List ℕ → Progress → Taken → Type 0
CountsItsData normal redundant p taken =
    length (user_data_of (take p.normal.to normal) (take p.redundant.to redundant) taken) ≡ taken.size

-- the windows lie within their buffers
abbrev pub Lies : Progress → ℕ → ℕ → Type 0
Lies p normal redundant = Within p.normal normal × Within p.redundant redundant

-- One step over the two windows, with its line put behind the text that is held.
pub record AdvancedTo (normal redundant callers : List ℕ) (ours : ℕ) (p : Progress) (before after : List ℕ) (result : Progress)
    : Type 0 where
  pub progress : result ≡ stepped_of (taken_at normal redundant callers ours p) p
  pub put : after ≡ before ++ line_of (taken_at normal redundant callers ours p)

-- Two results that one input allows agree, in the progress and every byte.
abbrev pub AdvancesAgree : Type 0
AdvancesAgree =
    (normal redundant callers : List ℕ) (ours : ℕ) (p : Progress) (before after after' : List ℕ) (r r' : Progress)
    → AdvancedTo normal redundant callers ours p before after r → AdvancedTo normal redundant callers ours p before after' r'
    → (after ≡ after') × (r ≡ r')
