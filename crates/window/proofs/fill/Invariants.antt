-- `window::fill`: the first bytes stay at each turn, and the last read had all the room that was left.
use Rattle.std.proofs.Common.{◌+◌, ◌-◌, ◌≤◌, ◌≡◌, ◌⊎◌, length, take}
use Rattle.window.specs.Answers.{Moved}
use Rattle.window.specs.Window.{came_by}
use Rattle.window.proofs.fill.Given as goal

abbrev pub invariant-loop-to : goal.invariant-loop-to
invariant-loop-to g l =
    (l.at ≤ l.to) × (l.to ≤ length l.initial.buffer) × (length l.buffer ≡ length l.initial.buffer) × (take l.at l.buffer ≡ take l.at l.initial.buffer)
    × Moved l.last.room l.last.got × ((l.last.room ≡ 0) ⊎ (l.to + l.last.room ≡ length l.initial.buffer + came_by l.last))

abbrev pub decreases-loop-to : goal.decreases-loop-to
decreases-loop-to g l = length l.initial.buffer - l.to
