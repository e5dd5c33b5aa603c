-- What is promised of every step besides its table. Each promise is a type here, and is proved under the same words in proofs/.
-- Assumes nothing.
use Rattle.std.specs.Prelude.{ℕ, ◌+◌, ◌≤◌, ◌<◌, ◌≡◌, Bool, true, false, not, cond, ◌&&◌, ◌⊎◌, length, take, drop}
use mathlib.Core.List.{List, [], ◌∷◌, ◌++◌, Memᴰ}
use Rattle.number.specs.Number.{distance_of, behind_from}
use Rattle.field.specs.Row.{Bytes}
use Rattle.packet.specs.Sizes.{most_packet}
use Rattle.packet.specs.Packet.{packet_header_at, user_data_at, PacketOn}
use Rattle.packet_types.specs.Types.{data_packet, release_packet}
use Rattle.packet_writing.specs.Writing.{packet_written, bytes_written}
use Rattle.links.specs.declared.State.{State}
use Rattle.links.specs.declared.Taken.{Taken}
use Rattle.links.specs.Taken.{down_of, empty_part, handed_up}
use Rattle.links.specs.Table.{held, taken_of, user_data_of}

-- LINK-NAMED: of the two links, what belongs to the normal one or to the other: its bytes, its place
abbrev pub of_link : {A : Type 0} → Bool → A → A → A
of_link normal a b = cond normal a b

-- LINK-STAYS: how many links are up
abbrev pub links_up : State → ℕ
links_up state = cond state.normal_up 1 0 + cond state.redundant_up 1 0

-- LINK-ORDER: the answers of the table
abbrev pub link_answers : List ℕ
link_answers = 308 ∷ 301 ∷ 302 ∷ 303 ∷ 304 ∷ 305 ∷ 309 ∷ 310 ∷ 306 ∷ 307 ∷ 0 ∷ []

module _ (normal : List ℕ) (normal_at : ℕ) (redundant : List ℕ) (redundant_at : ℕ) (callers : List ℕ) (ours : ℕ) (state : State) where
  -- LINK-LOOK: one step over the two links
  abbrev pub step : Taken
  step = taken_of normal normal_at redundant redundant_at callers ours state

  -- LINK-NAMED: the bytes of the link that an answer names
  abbrev pub link_bytes : Taken → List ℕ
  link_bytes taken = of_link taken.normal normal redundant

  -- LINK-NAMED: the place in it
  abbrev pub link_place : Taken → ℕ
  link_place taken = of_link taken.normal normal_at redundant_at

  -- DEMAND-1: the answer is one of the table's
  abbrev pub AnswersOfTheTable : Type 0
  AnswersOfTheTable = Memᴰ step.answer link_answers

  -- LINK-STAYS: a link that is down stays down
  abbrev pub DownStaysDown : Type 0
  DownStaysDown =
      (state.normal_up ≡ false → step.state.normal_up ≡ false)
      × (state.redundant_up ≡ false → step.state.redundant_up ≡ false)

  -- LINK-USED: a step never uses more than is lent: of a place within the bytes, the next one is within them
  abbrev pub UsesNoMoreThanLent : Type 0
  UsesNoMoreThanLent = link_place step ≤ length (link_bytes step) → link_place step + step.used ≤ length (link_bytes step)

  -- LINK-UNUSED: nothing is used, and the link that is named goes down, and no other
  abbrev pub FaultsPutOneLinkDown : Type 0
  FaultsPutOneLinkDown =
      302 ≤ step.answer → step.answer ≤ 304 → (step.used ≡ 0) × (step.state ≡ down_of step.normal state)

  -- LINK-EMPTY: no user data, and no field of a packet
  abbrev pub OthersHandUpNothing : Type 0
  OthersHandUpNothing =
      (step.answer ≡ 0 → ⊥)
      → (user_data_of normal redundant step ≡ []) × (step ≡ empty_part step.answer step.normal step.used step.state)

  -- LINK-PART: what is handed up is exactly the user data of the packet at that place of that link, with that packet's fields
  abbrev pub HandsUpThePacket : Type 0
  HandsUpThePacket =
      step.answer ≡ 0
      → (user_data_of normal redundant step ≡ user_data_at (link_bytes step) (link_place step))
      × (step ≡ handed_up step.normal (link_place step) (packet_header_at (link_bytes step) (link_place step)) state)
      × PacketOn step.normal (link_bytes step) (link_place step)

  -- LINK-PART: the user data that is handed up has as many bytes as the answer says
  abbrev pub CountsItsUserData : Type 0
  CountsItsUserData = length (user_data_of normal redundant step) ≡ step.size

  -- LINK-USED: unless it answers 308 or 301, a step uses bytes of the link that it names, all of them there, or puts a link down: so it
  -- never goes on for ever
  abbrev pub GoesForward : Type 0
  GoesForward =
      (step.answer ≡ 308 → ⊥) → (step.answer ≡ 301 → ⊥)
      → ((0 < step.used) × (link_place step + step.used ≤ length (link_bytes step)) × (links_up step.state ≡ links_up state))
      ⊎ ((step.used ≡ 0) × (links_up step.state < links_up state))

  -- DEMAND-2: what is accepted, written for its link from its fields and its user data, is not refused and gives its bytes
  abbrev pub AcceptedWritesBack : Type 0
  AcceptedWritesBack =
      (room : ℕ) → step.answer ≡ 0 → Bytes (link_bytes step) → step.used ≤ room
      → let user_data = user_data_of normal redundant step in
      (packet_written room step.number step.kind user_data ≡ record { answer = 0; written = step.used })
      × (bytes_written room step.normal step.version step.application step.number step.kind user_data
      ≡ take step.used (drop (link_place step) (link_bytes step)))

  -- LINK-LOOK: the step looks at the normal link, or at the redundant one
  abbrev pub looks_at : Bool → Bool
  looks_at true = held state.normal_up normal normal_at
  looks_at false = not (held state.normal_up normal normal_at) && held state.redundant_up redundant redundant_at

  -- LINK-LOOSE: any d from 1 on that does not lie behind, of a later data or release packet on the link looked at
  abbrev pub LooseHandsUp : Type 0
  LooseHandsUp =
      (link : Bool)
      → let header = packet_header_at (of_link link normal redundant) (of_link link normal_at redundant_at) in
      looks_at link ≡ true → PacketOn link (of_link link normal redundant) (of_link link normal_at redundant_at)
      → (header.kind ≡ data_packet) ⊎ (header.kind ≡ release_packet) → state.first ≡ false → state.strict ≡ false
      → 1 ≤ distance_of header.number state.last → distance_of header.number state.last < behind_from
      → step ≡ handed_up link (of_link link normal_at redundant_at) header state

-- LINK-SEEN: what a step sees of a link: so many bytes from the place, or those that are left
abbrev pub seen_from : List ℕ → ℕ → List ℕ
seen_from s at = take most_packet (drop at s)

-- LINK-SEEN: what was taken, but for the place of the user data
abbrev pub placeless : Taken → Taken
placeless taken = record {
  answer = taken.answer;
  normal = taken.normal;
  used = taken.used;
  start = 0;
  size = taken.size;
  version = taken.version;
  application = taken.application;
  kind = taken.kind;
  number = taken.number;
  state = taken.state;
}

-- LINK-SEEN: two steps on two pairs of links take alike: the answer, the link, the bytes used, the fields, the state, and the user
-- data
pub record Alike (normal redundant : List ℕ) (taken : Taken) (normal' redundant' : List ℕ) (taken' : Taken) : Type 0 where
  pub same_taken : placeless taken ≡ placeless taken'
  pub same_data : user_data_of normal redundant taken ≡ user_data_of normal' redundant' taken'

-- LINK-SEEN: a step sees no more than a packet: pairs of links that agree in what is seen of them are taken alike
abbrev pub SeesNoMoreThanAPacket : Type 0
SeesNoMoreThanAPacket =
    (normal : List ℕ) (normal_at : ℕ) (redundant : List ℕ) (redundant_at : ℕ)
    (normal' : List ℕ) (normal_at' : ℕ) (redundant' : List ℕ) (redundant_at' : ℕ) (callers : List ℕ) (ours : ℕ) (state : State)
    → seen_from normal normal_at ≡ seen_from normal' normal_at' → seen_from redundant redundant_at ≡ seen_from redundant' redundant_at'
    → Alike normal redundant (taken_of normal normal_at redundant redundant_at callers ours state)
    normal' redundant' (taken_of normal' normal_at' redundant' redundant_at' callers ours state)

-- LINK-SEEN: a buffer that has, from its place, what a file has from a place is seen as the file is, if it has the most bytes of a
-- packet from there or all that is left of the file. So it is enough to refill it when fewer are left in it and the file goes on.
abbrev pub BufferSeenAsFile : Type 0
BufferSeenAsFile =
    (buffer : List ℕ) (at : ℕ) (file : List ℕ) (file_at : ℕ) (rest : List ℕ) → drop file_at file ≡ drop at buffer ++ rest
    → (most_packet ≤ length (drop at buffer)) ⊎ (rest ≡ []) → seen_from buffer at ≡ seen_from file file_at
