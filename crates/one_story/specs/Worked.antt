-- STORY-MET, STORY-LOSS: worked runs over written-out bytes, with two links mixed, and with a link that loses a packet.
-- Assumes nothing.
use Rattle.std.specs.Prelude.{ℕ, ◌≡◌, Bool, true, false, cond, List, [], ◌∷◌, length, take, drop}
use Rattle.links.specs.declared.State.{State}
use Rattle.links.specs.Taken.{remembered_of}
use Rattle.one_story.specs.Sequence.{Packet, Gateway, fresh_of, Sequence, bytes_on}
use Rattle.one_story.specs.Run.{Link, Moment, link_of, start, arrived_on, taken_then, stepped, Run}
use Rattle.one_story.specs.OneStory.{NotFarBehind, RunOf, Story}
use Rattle.one_story.specs.Met.{numbers_of}
use Rattle.one_story.specs.Losses.{packets_at, Keeps, brought_of, NotFarApart, NotFarNorLate, NotFarFromTold}

-- ---- what is sent

-- STORY-MET: a responder with the id 9, whom 7 may call
abbrev pub responder : Bool → Gateway
responder strict = record { responder = true; strict = strict; callers = 0 ∷ 0 ∷ 0 ∷ 7 ∷ []; ours = 9 }

-- STORY-MET: an AU1, data, data without user data, and a release; version and application type differ from packet to packet
abbrev pub four_with : List ℕ → List Packet
four_with user_data =
    record { version = 1; application = 26; number = 0; kind = 1; user_data = 0 ∷ 0 ∷ 0 ∷ 7 ∷ 0 ∷ 0 ∷ 0 ∷ 9 ∷ 3 ∷ [] }
    ∷ record { version = 1; application = 27; number = 1; kind = 3; user_data = user_data }
    ∷ record { version = 2; application = 26; number = 2; kind = 3; user_data = [] }
    ∷ record { version = 1; application = 26; number = 3; kind = 4; user_data = 5 ∷ [] }
    ∷ []

-- STORY-MET: the data are two bytes
abbrev pub four : List Packet
four = four_with (65 ∷ 66 ∷ [])

-- STORY-MET: their bytes on each link: packets of 19, 12, 10 and 11
abbrev pub four_on : Bool → List ℕ
four_on true =
    0 ∷ 17 ∷ 1 ∷ 26 ∷ 0 ∷ 0 ∷ 1 ∷ 1 ∷ 162 ∷ 2 ∷ 0 ∷ 0 ∷ 0 ∷ 7 ∷ 0 ∷ 0 ∷ 0 ∷ 9 ∷ 3
    ∷ 0 ∷ 10 ∷ 1 ∷ 27 ∷ 0 ∷ 1 ∷ 1 ∷ 3 ∷ 19 ∷ 195 ∷ 65 ∷ 66
    ∷ 0 ∷ 8 ∷ 2 ∷ 26 ∷ 0 ∷ 2 ∷ 1 ∷ 3 ∷ 204 ∷ 37
    ∷ 0 ∷ 9 ∷ 1 ∷ 26 ∷ 0 ∷ 3 ∷ 1 ∷ 4 ∷ 113 ∷ 238 ∷ 5 ∷ []
four_on false =
    0 ∷ 17 ∷ 1 ∷ 26 ∷ 0 ∷ 0 ∷ 0 ∷ 1 ∷ 187 ∷ 218 ∷ 0 ∷ 0 ∷ 0 ∷ 7 ∷ 0 ∷ 0 ∷ 0 ∷ 9 ∷ 3
    ∷ 0 ∷ 10 ∷ 1 ∷ 27 ∷ 0 ∷ 1 ∷ 0 ∷ 3 ∷ 10 ∷ 27 ∷ 65 ∷ 66
    ∷ 0 ∷ 8 ∷ 2 ∷ 26 ∷ 0 ∷ 2 ∷ 0 ∷ 3 ∷ 213 ∷ 253
    ∷ 0 ∷ 9 ∷ 1 ∷ 26 ∷ 0 ∷ 3 ∷ 0 ∷ 4 ∷ 104 ∷ 54 ∷ 5 ∷ []

-- ---- moments

-- STORY-MET: of these bytes so many have arrived, so many are used, in so many packets
abbrev pub link : List ℕ → ℕ → ℕ → ℕ → Link
link bytes arrived used packets = record { arrived = take arrived bytes; used = used; packets = packets }

-- STORY-MET: the state once the packets at these places have been handed up
abbrev pub state_behind : Gateway → List ℕ → State
state_behind gateway [] = fresh_of gateway
state_behind gateway (place ∷ []) = remembered_of place (fresh_of gateway)
state_behind gateway (place ∷ next ∷ places) = state_behind gateway (next ∷ places)

-- STORY-MET: a moment, by its links and the places of what has been handed up
abbrev pub moment : Gateway → Link → Link → List ℕ → Moment
moment gateway normal redundant places = record {
  normal = normal;
  redundant = redundant;
  state = state_behind gateway places;
  handed = packets_at four places;
}

-- STORY-MET: so many bytes more of these arrive on a link
abbrev pub with : List ℕ → Bool → ℕ → Moment → Moment
with bytes normal n m = arrived_on normal (take n (drop (length (link_of normal m).arrived) bytes)) m

-- STORY-MET: a step over all that has arrived answers this, and this is the moment after it
abbrev pub Answers : Gateway → Moment → ℕ → Moment → Type 0
Answers gateway m answer n = ((taken_then gateway m).answer ≡ answer) × (stepped gateway m ≡ n)

-- ---- two links mixed, of which one goes silent

-- STORY-MET: of each link so many bytes have arrived and are used, in so many packets
abbrev pub mixed : ℕ → ℕ → ℕ → ℕ → ℕ → ℕ → List ℕ → Moment
mixed arrived used packets arrived' used' packets' places =
    moment (responder true) (link (four_on true) arrived used packets) (link (four_on false) arrived' used' packets') places

-- STORY-MET: so many bytes more arrive on the normal link, or on the other
abbrev pub brings : Bool → ℕ → Moment → Moment
brings normal n m = with (four_on normal) normal n m

-- STORY-MET: a step of the strict setting
abbrev pub Mixes : Moment → ℕ → Moment → Type 0
Mixes m answer n = Answers (responder true) m answer n

-- STORY-MET: its steps, over pieces that end inside packets
pub record MixedSteps : Type 0 where
  -- 5 bytes on the redundant link: no whole packet
  pub nothing_whole : Mixes (brings false 5 (start (responder true))) 301 (mixed 0 0 0 5 0 0 [])
  -- 22 bytes on the normal link: the AU1, and 3 bytes of the next packet
  pub opened : Mixes (brings true 22 (mixed 0 0 0 5 0 0 [])) 0 (mixed 22 19 1 5 0 0 (0 ∷ []))
  -- 29 bytes more on the redundant link: the AU1 again, and the next packet
  pub opened_again : Mixes (brings false 29 (mixed 22 19 1 5 0 0 (0 ∷ []))) 306 (mixed 22 19 1 34 19 1 (0 ∷ []))
  pub overtakes : Mixes (mixed 22 19 1 34 19 1 (0 ∷ [])) 0 (mixed 22 19 1 34 31 2 (0 ∷ 1 ∷ []))
  -- 12 bytes more on the normal link: that packet again; then it is silent, inside the third packet
  pub catches_up : Mixes (brings true 12 (mixed 22 19 1 34 31 2 (0 ∷ 1 ∷ []))) 306 (mixed 34 31 2 34 31 2 (0 ∷ 1 ∷ []))
  -- 7 bytes more on the redundant link, and the 11 that are left
  pub third : Mixes (brings false 7 (mixed 34 31 2 34 31 2 (0 ∷ 1 ∷ []))) 0 (mixed 34 31 2 41 41 3 (0 ∷ 1 ∷ 2 ∷ []))
  pub released : Mixes (brings false 11 (mixed 34 31 2 41 41 3 (0 ∷ 1 ∷ 2 ∷ []))) 0 (mixed 34 31 2 52 52 4 (0 ∷ 1 ∷ 2 ∷ 3 ∷ []))
  pub drained : Mixes (mixed 34 31 2 52 52 4 (0 ∷ 1 ∷ 2 ∷ 3 ∷ [])) 301 (mixed 34 31 2 52 52 4 (0 ∷ 1 ∷ 2 ∷ 3 ∷ []))

-- STORY-MET: a run that meets all that is supposed
pub record WorkedRun : Type 0 where
  pub sequence : Sequence (responder true) four
  pub bytes : (bytes_on true four ≡ four_on true) × (bytes_on false four ≡ four_on false)
  pub steps : MixedSteps
  pub run : RunOf (responder true) four 32768 (mixed 34 31 2 52 52 4 (0 ∷ 1 ∷ 2 ∷ 3 ∷ []))

-- ---- the normal link loses a packet

-- STORY-LOSS: the normal link loses the packet at place 2
abbrev pub keeps : Bool → List ℕ
keeps normal = cond normal (0 ∷ 1 ∷ 3 ∷ []) (0 ∷ 1 ∷ 2 ∷ 3 ∷ [])

-- STORY-LOSS: what a link brings then: packets of 19, 12 and 11
abbrev pub three_on : Bool → List ℕ
three_on true =
    0 ∷ 17 ∷ 1 ∷ 26 ∷ 0 ∷ 0 ∷ 1 ∷ 1 ∷ 162 ∷ 2 ∷ 0 ∷ 0 ∷ 0 ∷ 7 ∷ 0 ∷ 0 ∷ 0 ∷ 9 ∷ 3
    ∷ 0 ∷ 10 ∷ 1 ∷ 27 ∷ 0 ∷ 1 ∷ 1 ∷ 3 ∷ 19 ∷ 195 ∷ 65 ∷ 66
    ∷ 0 ∷ 9 ∷ 1 ∷ 26 ∷ 0 ∷ 3 ∷ 1 ∷ 4 ∷ 113 ∷ 238 ∷ 5 ∷ []
three_on false =
    0 ∷ 17 ∷ 1 ∷ 26 ∷ 0 ∷ 0 ∷ 0 ∷ 1 ∷ 187 ∷ 218 ∷ 0 ∷ 0 ∷ 0 ∷ 7 ∷ 0 ∷ 0 ∷ 0 ∷ 9 ∷ 3
    ∷ 0 ∷ 10 ∷ 1 ∷ 27 ∷ 0 ∷ 1 ∷ 0 ∷ 3 ∷ 10 ∷ 27 ∷ 65 ∷ 66
    ∷ 0 ∷ 9 ∷ 1 ∷ 26 ∷ 0 ∷ 3 ∷ 0 ∷ 4 ∷ 104 ∷ 54 ∷ 5 ∷ []

-- STORY-LOSS: all has arrived on both links; so many bytes and packets are used of each
abbrev pub lossy : Bool → ℕ → ℕ → ℕ → ℕ → List ℕ → Moment
lossy strict used packets used' packets' places =
    moment (responder strict) (link (three_on true) 42 used packets) (link (four_on false) 52 used' packets') places

-- STORY-LOSS: the loose setting skips the packet, and drops it when the redundant link, which is late, brings it
pub record LooseSteps : Type 0 where
  pub first : Answers (responder false) (lossy false 0 0 0 0 []) 0 (lossy false 19 1 0 0 (0 ∷ []))
  pub second : Answers (responder false) (lossy false 19 1 0 0 (0 ∷ [])) 0 (lossy false 31 2 0 0 (0 ∷ 1 ∷ []))
  pub skips : Answers (responder false) (lossy false 31 2 0 0 (0 ∷ 1 ∷ [])) 0 (lossy false 42 3 0 0 (0 ∷ 1 ∷ 3 ∷ []))
  pub first_again : Answers (responder false) (lossy false 42 3 0 0 (0 ∷ 1 ∷ 3 ∷ [])) 306 (lossy false 42 3 19 1 (0 ∷ 1 ∷ 3 ∷ []))
  pub second_again : Answers (responder false) (lossy false 42 3 19 1 (0 ∷ 1 ∷ 3 ∷ [])) 306 (lossy false 42 3 31 2 (0 ∷ 1 ∷ 3 ∷ []))
  pub late : Answers (responder false) (lossy false 42 3 31 2 (0 ∷ 1 ∷ 3 ∷ [])) 306 (lossy false 42 3 41 3 (0 ∷ 1 ∷ 3 ∷ []))

-- STORY-LOSS: the strict setting waits for it
pub record StrictSteps : Type 0 where
  pub first : Answers (responder true) (lossy true 0 0 0 0 []) 0 (lossy true 19 1 0 0 (0 ∷ []))
  pub second : Answers (responder true) (lossy true 19 1 0 0 (0 ∷ [])) 0 (lossy true 31 2 0 0 (0 ∷ 1 ∷ []))
  pub waits : Answers (responder true) (lossy true 31 2 0 0 (0 ∷ 1 ∷ [])) 307 (lossy true 42 3 0 0 (0 ∷ 1 ∷ []))
  pub first_again : Answers (responder true) (lossy true 42 3 0 0 (0 ∷ 1 ∷ [])) 306 (lossy true 42 3 19 1 (0 ∷ 1 ∷ []))
  pub second_again : Answers (responder true) (lossy true 42 3 19 1 (0 ∷ 1 ∷ [])) 306 (lossy true 42 3 31 2 (0 ∷ 1 ∷ []))
  pub comes : Answers (responder true) (lossy true 42 3 31 2 (0 ∷ 1 ∷ [])) 0 (lossy true 42 3 41 3 (0 ∷ 1 ∷ 2 ∷ []))
  pub last : Answers (responder true) (lossy true 42 3 41 3 (0 ∷ 1 ∷ 2 ∷ [])) 0 (lossy true 42 3 52 4 (0 ∷ 1 ∷ 2 ∷ 3 ∷ []))

-- STORY-LOSS: the runs of the two settings over the same links
pub record WorkedLoss : Type 0 where
  pub kept : (normal : Bool) → Keeps four (keeps normal)
  pub bytes : bytes_on true (brought_of four keeps true) ≡ three_on true
  pub loose_steps : LooseSteps
  pub loose_run : Run (responder false) (brought_of four keeps) (NotFarApart keeps) (lossy false 42 3 41 3 (0 ∷ 1 ∷ 3 ∷ []))
  pub strict_steps : StrictSteps
  pub strict_run : Run (responder true) (brought_of four keeps) (NotFarFromTold keeps) (lossy true 42 3 52 4 (0 ∷ 1 ∷ 2 ∷ 3 ∷ []))

-- ---- both links lose a packet

-- STORY-LOSS: both links lose the packet at place 2
abbrev pub both_keep : Bool → List ℕ
both_keep normal = 0 ∷ 1 ∷ 3 ∷ []

-- STORY-LOSS: so many bytes have arrived on each link and are used, in so many packets
abbrev pub even : ℕ → ℕ → ℕ → ℕ → List ℕ → Moment
even used packets used' packets' places =
    moment (responder false) (link (three_on true) used used packets) (link (three_on false) used' used' packets') places

-- STORY-LOSS: so many bytes more arrive on a link, and a step of the loose setting is taken
abbrev pub Evens : Bool → ℕ → Moment → ℕ → Moment → Type 0
Evens normal n m answer then = Answers (responder false) (with (three_on normal) normal n m) answer then

-- STORY-LOSS: the links bring their packets in turn, so that neither is late
pub record EvenSteps : Type 0 where
  pub first : Evens true 19 (start (responder false)) 0 (even 19 1 0 0 (0 ∷ []))
  pub first_again : Evens false 19 (even 19 1 0 0 (0 ∷ [])) 306 (even 19 1 19 1 (0 ∷ []))
  pub second : Evens true 12 (even 19 1 19 1 (0 ∷ [])) 0 (even 31 2 19 1 (0 ∷ 1 ∷ []))
  pub second_again : Evens false 12 (even 31 2 19 1 (0 ∷ 1 ∷ [])) 306 (even 31 2 31 2 (0 ∷ 1 ∷ []))
  pub skips : Evens true 11 (even 31 2 31 2 (0 ∷ 1 ∷ [])) 0 (even 42 3 31 2 (0 ∷ 1 ∷ 3 ∷ []))
  pub skipped_again : Evens false 11 (even 42 3 31 2 (0 ∷ 1 ∷ 3 ∷ [])) 306 (even 42 3 42 3 (0 ∷ 1 ∷ 3 ∷ []))

-- STORY-LOSS: a run in which what is missing was lost on both links
pub record WorkedBothLose : Type 0 where
  pub kept : Keeps four (0 ∷ 1 ∷ 3 ∷ [])
  pub bytes : (normal : Bool) → bytes_on normal (brought_of four both_keep normal) ≡ three_on normal
  pub steps : EvenSteps
  pub run : Run (responder false) (brought_of four both_keep) (NotFarNorLate both_keep) (even 42 3 42 3 (0 ∷ 1 ∷ 3 ∷ []))

-- ---- the redundant link brings another user data

-- STORY-SENT: where the redundant link brings another sequence, alike in its numbers, the claim is false
abbrev pub AlikeIsNeeded : Type 0
AlikeIsNeeded =
    ((gateway : Gateway) → gateway.strict ≡ true → (sent other : List Packet) → Sequence gateway sent → Sequence gateway other
    → numbers_of other ≡ numbers_of sent
    → (m : Moment) → Run gateway (λ (normal : Bool). cond normal sent other) (NotFarBehind 32768) m → Story sent m)
    → ⊥
