-- STORY-MET: what is supposed can be met, by sequences of any length, with the links in turn and with one silent from the start.
-- Assumes nothing.
use Rattle.std.specs.Prelude.{ℕ, zero, suc, ◌%◌, ◌≡◌, Bool, false, not, List, [], ◌∷◌, length, drop}
use Rattle.number.specs.Number.{numbers}
use Rattle.packet_types.specs.Types.{au2, data_packet}
use Rattle.one_story.specs.Sequence.{Packet, Gateway, Sequence}
use Rattle.one_story.specs.Run.{Moment, link_of, nothing_yet}
use Rattle.one_story.specs.OneStory.{RunOf}

-- STORY-MET: each packet arrives on the normal link and is used, then on the redundant one: all that was sent is used from both, and has
-- been handed up
pub record ToldInTurn (gateway : Gateway) (sent : List Packet) : Type 0 where
  pub now : Moment
  pub run : RunOf gateway sent 32768 now
  pub packets : (link : Bool) → (link_of link now).packets ≡ length sent
  pub told : now.handed ≡ sent

-- STORY-MET: each packet arrives on one link and is used; the other is silent from the start
pub record ToldAlone (gateway : Gateway) (sent : List Packet) (live : Bool) : Type 0 where
  pub now : Moment
  pub run : RunOf gateway sent 32768 now
  pub packets : (link_of live now).packets ≡ length sent
  pub silent : link_of (not live) now ≡ nothing_yet
  pub told : now.handed ≡ sent

-- STORY-MET: so it can be with every sequence
abbrev pub CanBeTold : Type 0
CanBeTold =
    (gateway : Gateway) (sent : List Packet) → Sequence gateway sent
    → ToldInTurn gateway sent × ((live : Bool) → ToldAlone gateway sent live)

-- ---- a sequence of any length, past the wrap

-- STORY-MET: an initiator, to whom nobody calls
abbrev pub initiator : Bool → Gateway
initiator strict = record { responder = false; strict = strict; callers = []; ours = 0 }

-- STORY-MET: so many data packets without user data, from a place of the sequence on
unfoldable pub data_from : ℕ → ℕ → List Packet
data_from place zero = []
data_from place (suc n) =
    record { version = 0; application = 0; number = place % numbers; kind = data_packet; user_data = [] } ∷ data_from (suc place) n

-- STORY-MET: an AU2, and so many data packets
unfoldable pub long_sequence : ℕ → List Packet
long_sequence n = record { version = 0; application = 0; number = 0; kind = au2; user_data = 0 ∷ 0 ∷ 0 ∷ 0 ∷ [] } ∷ data_from 1 n

-- STORY-MET: the numbers of packets
abbrev pub numbers_of : List Packet → List ℕ
numbers_of [] = []
numbers_of (p ∷ ps) = p.number ∷ numbers_of ps

-- STORY-MET: it may be sent, and is so long
abbrev pub LongMayBeSent : Type 0
LongMayBeSent = (strict : Bool) (n : ℕ) → Sequence (initiator strict) (long_sequence n) × (length (long_sequence n) ≡ suc n)

-- STORY-MET: 65,538 packets, of which the last three are numbered 65535, 0 and 1
abbrev pub GoesPastTheWrap : Type 0
GoesPastTheWrap = numbers_of (drop 65535 (long_sequence 65537)) ≡ 65535 ∷ 0 ∷ 1 ∷ []
