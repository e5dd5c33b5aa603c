-- STORY-LOSS: links that lose packets on the way. What the loose setting hands up then, and that the strict one never skips.
-- Assumes nothing.
use Rattle.std.specs.Prelude.{ℕ, zero, suc, ◌+◌, ◌≤◌, ◌<◌, max, ◌≡◌, Bool, true, false, not, ◌⊎◌, length, get_or, take}
use mathlib.Core.List.{List, [], ◌∷◌, Memᴰ}
use Rattle.one_story.specs.Sequence.{Packet, Gateway, Sequence}
use Rattle.one_story.specs.Run.{Moment, link_of, Run}
use Rattle.one_story.specs.OneStory.{BothUp}

-- ---- what a link brings

-- STORY-LOSS: the packet at a place of the sequence; past its end there is none
abbrev pub no_packet : Packet
no_packet = record { version = 0; application = 0; number = 0; kind = 0; user_data = [] }

-- STORY-LOSS: the packets at places of the sequence
abbrev pub packets_at : List Packet → List ℕ → List Packet
packets_at sent [] = []
packets_at sent (place ∷ places) = get_or sent place no_packet ∷ packets_at sent places

-- STORY-LOSS: places in order, each from one place on and before another
abbrev pub InOrder : ℕ → ℕ → List ℕ → Type 0
InOrder from end [] = Unit {0}
InOrder from end (place ∷ places) = (from ≤ place) × (place < end) × InOrder (suc place) end places

-- STORY-LOSS: a link brings, in order, the packets at these places of the sequence and loses the others; if it brings any, then the opening
-- packet
pub record Keeps (sent : List Packet) (kept : List ℕ) : Type 0 where
  pub in_order : InOrder 0 (length sent) kept
  pub opening : get_or kept 0 0 ≡ 0

-- STORY-LOSS: a link loses the packet at a place
abbrev pub Loses : List ℕ → ℕ → Type 0
Loses kept place = Memᴰ place kept → ⊥

-- STORY-LOSS: what each link brings
abbrev pub brought_of : List Packet → (Bool → List ℕ) → Bool → List Packet
brought_of sent keeps link = packets_at sent (keeps link)

-- ---- how far the links are

-- STORY-LOSS: how far in the sequence the first packets of a link reach: up to the place of the last of them, and with it
abbrev pub passed_by : List ℕ → ℕ → ℕ
passed_by kept zero = 0
passed_by kept (suc k) = suc (get_or kept k 0)

-- STORY-LOSS: how far a link is used
abbrev pub passed_on : (Bool → List ℕ) → Moment → Bool → ℕ
passed_on keeps m link = passed_by (keeps link) (link_of link m).packets

-- STORY-LOSS: how far the link that is ahead is used
abbrev pub furthest : (Bool → List ℕ) → Moment → ℕ
furthest keeps m = max (passed_on keeps m true) (passed_on keeps m false)

-- STORY-LOSS: how far a link is used once the packet that it holds is taken
abbrev pub passed_next : (Bool → List ℕ) → Moment → Bool → ℕ
passed_next keeps m link = passed_by (keeps link) (suc (link_of link m).packets)

-- STORY-LAG, STORY-LOSS: the packet taken lies fewer than 32,768 places behind the furthest, and fewer than that before it
abbrev pub NotFarApart : (Bool → List ℕ) → Moment → Bool → Type 0
NotFarApart keeps m link =
    (furthest keeps m < passed_next keeps m link + 32768) × (passed_next keeps m link < furthest keeps m + 32768)

-- ---- the claim of the loose setting

-- STORY-LOSS: what has been handed up are packets of the sequence in order, none of them twice, up to the furthest that is used; and one
-- that is missing among them is missing for a reason
pub record SkippingStory (sent : List Packet) (keeps : Bool → List ℕ) (Missing : ℕ → Type 0) (m : Moment) : Type 0 where
  pub places : List ℕ
  pub told : m.handed ≡ packets_at sent places
  pub in_order : InOrder 0 (furthest keeps m) places
  pub missing : (place : ℕ) → place < furthest keeps m → Memᴰ place places ⊎ Missing place
  -- STORY-UP
  pub up : BothUp m.state

-- STORY-LOSS: of the loose setting, by what is supposed of the links and by what a packet may be missing for
abbrev pub LooseStory : (Near : (Bool → List ℕ) → Moment → Bool → Type 0) (Missing : (Bool → List ℕ) → ℕ → Type 0) → Type 0
LooseStory Near Missing =
    (gateway : Gateway) → gateway.strict ≡ false → (sent : List Packet) → Sequence gateway sent
    → (keeps : Bool → List ℕ) → ((link : Bool) → Keeps sent (keeps link))
    → (m : Moment) → Run gateway (brought_of sent keeps) (Near keeps) m → SkippingStory sent keeps (Missing keeps) m

-- STORY-LOSS: one link has lost it, or the other
abbrev pub OneLoses : (Bool → List ℕ) → ℕ → Type 0
OneLoses keeps place = Loses (keeps true) place ⊎ Loses (keeps false) place

-- STORY-LOSS: both have
abbrev pub BothLose : (Bool → List ℕ) → ℕ → Type 0
BothLose keeps place = Loses (keeps true) place × Loses (keeps false) place

-- STORY-LOSS: the other link is not late: where the packet taken lies past the furthest, all that the other brings from before it is used
abbrev pub OtherNotLate : (Bool → List ℕ) → Moment → Bool → Type 0
OtherNotLate keeps m link =
    furthest keeps m < passed_next keeps m link
    → (place : ℕ) → Memᴰ place (keeps (not link)) → suc place < passed_next keeps m link → place < passed_on keeps m (not link)

-- STORY-LOSS: only packets that a link has lost are missing
abbrev pub LooseMissesOnlyLost : Type 0
LooseMissesOnlyLost = LooseStory NotFarApart OneLoses

-- STORY-LOSS: neither far apart nor late
abbrev pub NotFarNorLate : (Bool → List ℕ) → Moment → Bool → Type 0
NotFarNorLate keeps m link = NotFarApart keeps m link × OtherNotLate keeps m link

-- STORY-LOSS: only packets that both links have lost are missing, where the other link is not late
abbrev pub LooseMissesBothLost : Type 0
LooseMissesBothLost = LooseStory NotFarNorLate BothLose

-- STORY-LOSS: where it may be late that is false: what it brings too late is dropped
abbrev pub LateIsMissing : Type 0
LateIsMissing = LooseStory NotFarApart BothLose → ⊥

-- ---- the claim of the strict setting

-- STORY-LOSS: the packet taken lies within as many places of the next one to hand up as there are numbers
abbrev pub NotFarFromTold : (Bool → List ℕ) → Moment → Bool → Type 0
NotFarFromTold keeps m link =
    (length m.handed < passed_next keeps m link + 65535) × (passed_next keeps m link < length m.handed + 65536)

-- STORY-LOSS: whatever the links lose, a setting hands up a first part of the sequence: it never skips
abbrev pub NeverSkips : Bool → Type 0
NeverSkips strict =
    (gateway : Gateway) → gateway.strict ≡ strict → (sent : List Packet) → Sequence gateway sent
    → (keeps : Bool → List ℕ) → ((link : Bool) → Keeps sent (keeps link))
    → (m : Moment) → Run gateway (brought_of sent keeps) (NotFarFromTold keeps) m
    → (m.handed ≡ take (length m.handed) sent) × BothUp m.state

-- STORY-LOSS: so it is in the strict setting
abbrev pub StrictNeverSkips : Type 0
StrictNeverSkips = NeverSkips true

-- STORY-LOSS: and not in the loose one
abbrev pub LooseSkips : Type 0
LooseSkips = NeverSkips false → ⊥
