-- STORY-ONE: the claim: what went up is always the front of what was sent, and as much of it as the link that is ahead has used.
-- Assumes nothing.
use Rattle.std.specs.Prelude.{ℕ, suc, ◌+◌, ◌≤◌, ◌<◌, max, ◌≡◌, Bool, true, false, not, cond, List, length, take}
use Rattle.links.specs.declared.State.{State}
use Rattle.one_story.specs.Sequence.{Packet, Gateway, Sequence, bytes_on}
use Rattle.one_story.specs.Run.{Link, Moment, link_of, Lends, Drained, step_of, Run, Anything, Always}

-- ---- what is supposed

-- STORY-LAG: the link from which a packet is taken lags fewer than so many packets behind the other, counted in packets used. Nothing is
-- taken from a link that is silent, so that may lag without end.
abbrev pub NotFarBehind : ℕ → Moment → Bool → Type 0
NotFarBehind lag m link = (link_of (not link) m).packets < (link_of link m).packets + lag

-- STORY-RUN: both links bring the sequence, each a first part of it
abbrev pub both_bring : List Packet → Bool → List Packet
both_bring sent link = sent

-- STORY-RUN, STORY-LAG: such a run
abbrev pub RunOf : Gateway → List Packet → ℕ → Moment → Type 0
RunOf gateway sent lag m = Run gateway (both_bring sent) (NotFarBehind lag) m

-- ---- the claim

-- STORY-ONE: the packets used from a link are those at the front of the sequence, whole: their bytes are the bytes used, and have arrived
pub record FrontUsed (normal : Bool) (brought : List Packet) (link : Link) : Type 0 where
  pub first_part : link.packets ≤ length brought
  pub whole : link.used ≡ length (bytes_on normal (take link.packets brought))
  pub there : link.used ≤ length link.arrived

-- STORY-UP: no link is down
pub record BothUp (state : State) : Type 0 where
  pub normal_up : state.normal_up ≡ true
  pub redundant_up : state.redundant_up ≡ true

-- STORY-ONE: how many packets are used of the link that is ahead: the larger number of the two
abbrev pub larger : Moment → ℕ
larger m = max m.normal.packets m.redundant.packets

-- STORY-ONE, STORY-UP: one story: so many packets of the sequence and no others are told, in their order, each once; of each link the front
-- was used; and both links are up
pub record Story (sent : List Packet) (m : Moment) : Type 0 where
  pub told : m.handed ≡ take (larger m) sent
  pub used_normal : FrontUsed true sent m.normal
  pub used_redundant : FrontUsed false sent m.redundant
  pub up : BothUp m.state

-- STORY-ONE: by the setting, strict or loose, and the lag that no link reaches
abbrev pub OneStory : Bool → ℕ → Type 0
OneStory strict lag =
    (gateway : Gateway) → gateway.strict ≡ strict → (sent : List Packet) → Sequence gateway sent
    → (m : Moment) → RunOf gateway sent lag m → Story sent m

-- STORY-ONE: the strict setting, and the lag that the request names
abbrev pub TwoLinksOneStory : Type 0
TwoLinksOneStory = OneStory true 32768

-- STORY-LOOSE: where the links lose nothing, the loose setting tells it too
abbrev pub LooseOneStory : Type 0
LooseOneStory = OneStory false 32768

-- STORY-LAG: the most lag that will do: in the strict setting as many packets as there are numbers, in the loose one half as many and two
abbrev pub most_lag : Bool → ℕ
most_lag strict = cond strict 65536 32770

-- STORY-LAG: any lag up to it will do
abbrev pub AnyLagOneStory : Type 0
AnyLagOneStory = (strict : Bool) (lag : ℕ) → lag ≤ most_lag strict → OneStory strict lag

-- STORY-LAG: with one more the claim is false: a packet is handed up a second time
abbrev pub NoMoreThanThat : Type 0
NoMoreThanThat = (strict : Bool) → OneStory strict (suc (most_lag strict)) → ⊥

-- STORY-LAG: the request's words, of a moment: neither link lags so many packets behind the other
abbrev pub NeitherLags : ℕ → Moment → Type 0
NeitherLags lag m = (link : Bool) → NotFarBehind lag m link

-- STORY-ONE: in the request's words: at no moment of the run does a link lag 32,768 packets or more. What a run supposes is less.
abbrev pub NeverLagsOneStory : Type 0
NeverLagsOneStory =
    (gateway : Gateway) → gateway.strict ≡ true → (sent : List Packet) → Sequence gateway sent
    → (m : Moment) (run : Run gateway (both_bring sent) Anything m) → Always (NeitherLags 32768) run → Story sent m

-- STORY-LAG: where nothing is supposed of lags the claim is false
abbrev pub LagIsNeeded : Type 0
LagIsNeeded =
    ((gateway : Gateway) → gateway.strict ≡ true → (sent : List Packet) → Sequence gateway sent
    → (m : Moment) → Run gateway (both_bring sent) Anything m → Story sent m)
    → ⊥

-- ---- what follows from it, in either setting

-- STORY-SENT, STORY-RUN, STORY-LAG: all that is supposed, of a moment
pub record Supposed (gateway : Gateway) (sent : List Packet) (m : Moment) : Type 0 where
  pub sequence : Sequence gateway sent
  pub lag : ℕ
  pub enough : lag ≤ most_lag gateway.strict
  pub run : RunOf gateway sent lag m

-- STORY-ORDER: what has been handed up is itself such a sequence, numbered by ones from 0: no packet is there twice, none out of order
abbrev pub HandedUpInOrder : Type 0
HandedUpInOrder = (gateway : Gateway) (sent : List Packet) (m : Moment) → Supposed gateway sent m → Sequence gateway m.handed

-- STORY-ALL: so many packets are whole in the bytes of a link, and no more
pub record Whole (normal : Bool) (brought : List Packet) (bytes : List ℕ) (n : ℕ) : Type 0 where
  pub within : n ≤ length brought
  pub all_there : length (bytes_on normal (take n brought)) ≤ length bytes
  pub no_more : (k : ℕ) → k ≤ length brought → length (bytes_on normal (take k brought)) ≤ length bytes → k ≤ n

-- STORY-ALL: nothing is withheld: where neither link holds a whole packet more, the packets used are those that have arrived whole, and
-- what has been handed up is the longer of the two first parts
abbrev pub NothingWithheld : Type 0
NothingWithheld =
    (gateway : Gateway) (sent : List Packet) (m : Moment) → Supposed gateway sent m → Drained m.normal → Drained m.redundant
    → Whole true sent m.normal.arrived m.normal.packets × Whole false sent m.redundant.arrived m.redundant.packets
    × (m.handed ≡ take (larger m) sent)

-- STORY-ALL: which is where a step answers 301, and only there
abbrev pub DrainedAt301 : Type 0
DrainedAt301 =
    (gateway : Gateway) (sent : List Packet) (m : Moment) → Supposed gateway sent m
    → (normal : List ℕ) (normal_at : ℕ) (redundant : List ℕ) (redundant_at : ℕ)
    → Lends m.normal normal normal_at → Lends m.redundant redundant redundant_at
    → let answer = (step_of gateway normal normal_at redundant redundant_at m).answer in
    (answer ≡ 301 → Drained m.normal × Drained m.redundant) × (Drained m.normal → Drained m.redundant → answer ≡ 301)
