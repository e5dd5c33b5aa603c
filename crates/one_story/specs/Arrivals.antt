-- STORY-LAG: the lag is one of packets used: said of packets that have arrived it is not enough, since bytes may lie unread.
-- Assumes nothing.
use Rattle.std.specs.Prelude.{ℕ, suc, ◌≤◌, ◌≡◌, Bool, true, not, List, length, take}
use Rattle.one_story.specs.Sequence.{Packet, Gateway, Sequence, bytes_on}
use Rattle.one_story.specs.Run.{Moment, link_of, Run, Anything, Always}
use Rattle.one_story.specs.OneStory.{both_bring, Story}

-- STORY-LAG: where n + 1 packets have arrived whole on a link, n have on the other
abbrev pub InStep : List Packet → Moment → Type 0
InStep sent m =
    (link : Bool) (n : ℕ) → suc n ≤ length sent → length (bytes_on link (take (suc n) sent)) ≤ length (link_of link m).arrived
    → length (bytes_on (not link) (take n sent)) ≤ length (link_of (not link) m).arrived

-- STORY-LAG: that the links bring their packets in step, at every moment, is not enough
abbrev pub ArrivalsNotEnough : Type 0
ArrivalsNotEnough =
    ((gateway : Gateway) → gateway.strict ≡ true → (sent : List Packet) → Sequence gateway sent
    → (m : Moment) (run : Run gateway (both_bring sent) Anything m) → Always (InStep sent) run → Story sent m)
    → ⊥
