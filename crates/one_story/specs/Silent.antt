-- STORY-SILENT: one link goes silent for good: from then on nothing is supposed of how far it lags.
-- Assumes nothing.
use Rattle.std.specs.Prelude.{ℕ, ◌≡◌, Bool, not, List, ◌++◌}
use Rattle.one_story.specs.Sequence.{Packet, Gateway, bytes_on}
use Rattle.one_story.specs.Run.{Moment, link_of, arrived_on, Lends, Drained, after, step_of}
use Rattle.one_story.specs.OneStory.{NotFarBehind, RunOf}

-- STORY-SILENT: what may follow a moment once the other link is silent: pieces on the live link, and steps at any time, with nothing
-- supposed of lags
pub data Onward (gateway : Gateway) (sent : List Packet) (live : Bool) (m : Moment) : Moment → Type 0 where
  here : Onward gateway sent live m m
  arrives : {n : Moment} → Onward gateway sent live m n → (piece rest : List ℕ)
      → ((link_of live n).arrived ++ piece) ++ rest ≡ bytes_on live sent → Onward gateway sent live m (arrived_on live piece n)
  steps : {n : Moment} → Onward gateway sent live m n → (normal : List ℕ) (normal_at : ℕ) (redundant : List ℕ) (redundant_at : ℕ)
      → Lends n.normal normal normal_at → Lends n.redundant redundant redundant_at
      → Onward gateway sent live m (after normal redundant (step_of gateway normal normal_at redundant redundant_at n) n)

-- STORY-SILENT: all these moments are moments of a run, so that all that is claimed of a run is claimed of them. The live link may itself
-- be behind when the other goes silent, but not too far; the silent one has been used to its last whole packet.
abbrev pub SilenceCovered : Type 0
SilenceCovered =
    (gateway : Gateway) (sent : List Packet) (lag : ℕ) (m : Moment) → RunOf gateway sent lag m
    → (live : Bool) → Drained (link_of (not live) m) → NotFarBehind lag m live
    → (n : Moment) → Onward gateway sent live m n → RunOf gateway sent lag n
