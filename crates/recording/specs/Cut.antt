-- What `cut` prints for two recorded links, whole: the heading, the line of each step over the whole files, and the last line.
-- Assumes nothing.
use Rattle.std.specs.Prelude.{ℕ, zero, suc, ◌+◌, ◌-◌, ◌≡◌, cond, List, [], ◌++◌, length}
use Rattle.rules.specs.Rows.{when◌answer◌else◌}
use Rattle.links.specs.Table.{taken_of}
use Rattle.link_promises.specs.Promises.{links_up}
use Rattle.links.specs.declared.State.{State}
use Rattle.links.specs.declared.Taken.{Taken}
use Rattle.text.specs.Line.{end_of}
use Rattle.recording.specs.Printed.{heading, line_of}
use Rattle.recording.specs.Progress.{last_answer, counted_of}

-- How far two files are cut: a place in each, the state of the steps, and how many packets were handed up.
pub record Reach : Type 0 where
  pub normal : ℕ
  pub redundant : ℕ
  pub state : State
  pub handed_up : ℕ

-- at first both places are at the front, and nothing was handed up
abbrev pub start_from : State → Reach
start_from state = record { normal = 0; redundant = 0; state = state; handed_up = 0 }

-- the reach after a step: the place of the link that it names moves on by the bytes used, and one packet more is counted where one is
-- handed up
abbrev pub reached_by : Taken → Reach → Reach
reached_by taken x = record {
  normal = cond taken.normal (x.normal + taken.used) x.normal;
  redundant = cond taken.normal x.redundant (x.redundant + taken.used);
  state = taken.state;
  handed_up = counted_of x.handed_up taken.answer;
}

module _ (normal redundant callers : List ℕ) (ours : ℕ) where
  -- the step over the whole files
  abbrev pub taken_from : Reach → Taken
  taken_from x = taken_of normal x.normal redundant x.redundant callers ours x.state

  -- what is printed in so many steps at the most: the line of each, and behind that of a step which answers 301 or 308 the last line
  unfoldable pub cut_in : ℕ → Reach → List ℕ
  cut_in zero x = []
  cut_in (suc steps) x =
      line_of (taken_from x) ++ (
      when last_answer (taken_from x).answer answer end_of (reached_by (taken_from x) x).handed_up else
      cut_in steps (reached_by (taken_from x) x))

  -- the most steps before the last one: each uses a byte at the least or puts a link down
  abbrev pub most_steps : Reach → ℕ
  most_steps x = (length normal - x.normal) + (length redundant - x.redundant) + links_up x.state

  -- what is printed from there on
  abbrev pub cut_from : Reach → List ℕ
  cut_from x = cut_in (suc (most_steps x)) x

  -- They are enough: the cutting goes on after each step but the last.
  abbrev pub GoesOn : Type 0
  GoesOn = (x : Reach) → cut_from x ≡ line_of (taken_from x) ++ (
      when last_answer (taken_from x).answer answer end_of (reached_by (taken_from x) x).handed_up else
      cut_from (reached_by (taken_from x) x))

-- what `cut` prints for two files, with the list of callers, our own id and the state that the steps start from
abbrev pub cut_of : List ℕ → ℕ → State → List ℕ → List ℕ → List ℕ
cut_of callers ours state normal redundant = heading ++ cut_from normal redundant callers ours (start_from state)
