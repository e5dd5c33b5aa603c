-- What is promised of the list of callers. Each promise is a type here, and is proved under the same words in proofs/.
-- Assumes nothing.
use Rattle.std.specs.Prelude.{ℕ, ◌<◌, ◌≡◌, Bool, true, false, ◌⊎◌, length, replicate}
use mathlib.Core.List.{List, [], ◌∷◌, ◌++◌, Memᴰ}
use Rattle.field.specs.Row.{row_of, FitsRow}
use Rattle.packet.specs.Packet.{packet_header_at, user_data_at, PacketOn}
use Rattle.packet_types.specs.Types.{au1, caller_of, called_of, opening_fault}
use Rattle.links.specs.declared.State.{State}
use Rattle.links.specs.declared.Taken.{Taken}
use Rattle.links.specs.Taken.{fresh_state, handed_up}
use Rattle.links.specs.Callers.{id_size, callers_of}
use Rattle.links.specs.Table.{taken_of, user_data_of}
use Rattle.link_promises.specs.Promises.{of_link, looks_at}

-- LINK-LIST: the ids that are written into a list, one behind the other, are the ids on it; bytes behind them that make no entry change
-- nothing
abbrev pub ListHoldsItsIds : Type 0
ListHoldsItsIds =
    (ids rest : List ℕ) → let widths = replicate (length ids) id_size in
    FitsRow widths ids → length rest < id_size → callers_of (row_of widths ids ++ rest) ≡ ids

-- LINK-SET: the same ids are on two lists
abbrev pub SameIds : List ℕ → List ℕ → Type 0
SameIds callers callers' =
    (id : ℕ) → (Memᴰ id (callers_of callers) → Memᴰ id (callers_of callers'))
    × (Memᴰ id (callers_of callers') → Memᴰ id (callers_of callers))

-- two lists with two own ids, over the same links and state: the steps by them are the same
abbrev pub SameStep : List ℕ → ℕ → List ℕ → ℕ → State → Type 0
SameStep callers ours callers' ours' state =
    (normal : List ℕ) (normal_at : ℕ) (redundant : List ℕ) (redundant_at : ℕ)
    → taken_of normal normal_at redundant redundant_at callers ours state
    ≡ taken_of normal normal_at redundant redundant_at callers' ours' state

-- LINK-SET: only which ids are on the list counts
abbrev pub OnlyIdsCount : Type 0
OnlyIdsCount = (callers callers' : List ℕ) (ours : ℕ) (state : State) → SameIds callers callers' → SameStep callers ours callers' ours state

-- LINK-SET: so their order makes no difference: any two of them may change places
abbrev pub OrderMakesNoDifference : Type 0
OrderMakesNoDifference =
    (callers callers' : List ℕ) (ours : ℕ) (state : State) (before between behind : List ℕ) (one other : ℕ)
    → callers_of callers ≡ before ++ (one ∷ (between ++ (other ∷ behind)))
    → callers_of callers' ≡ before ++ (other ∷ (between ++ (one ∷ behind))) → SameStep callers ours callers' ours state

-- LINK-SET: nor does an entry that stands twice
abbrev pub TwiceMakesNoDifference : Type 0
TwiceMakesNoDifference =
    (callers callers' : List ℕ) (ours : ℕ) (state : State) (before between behind : List ℕ) (one : ℕ)
    → callers_of callers ≡ before ++ (one ∷ (between ++ (one ∷ behind))) → callers_of callers' ≡ before ++ (one ∷ (between ++ behind))
    → SameStep callers ours callers' ours state

-- LINK-310: neither an initiator's packet nor a later one is judged by the list and our own id
abbrev pub OthersNotJudged : Type 0
OthersNotJudged =
    (callers callers' : List ℕ) (ours ours' : ℕ) (state : State) → (state.responder ≡ false) ⊎ (state.first ≡ false)
    → SameStep callers ours callers' ours' state

-- ---- steps one after the other

-- what a step is lent: the bytes of both links and a place in each, the list of callers, and our own id
pub record Lent : Type 0 where
  pub normal : List ℕ
  pub normal_at : ℕ
  pub redundant : List ℕ
  pub redundant_at : ℕ
  pub callers : List ℕ
  pub ours : ℕ

-- the step, and the user data that it hands up:
abbrev pub taken_by : Lent → State → Taken
taken_by lent state =
    taken_of lent.normal lent.normal_at lent.redundant lent.redundant_at lent.callers lent.ours state

abbrev pub data_by : Lent → State → List ℕ
data_by lent state = user_data_of lent.normal lent.redundant (taken_by lent state)

-- the state after steps, each with what it is lent
abbrev pub state_after : State → List Lent → State
state_after state [] = state
state_after state (lent ∷ rest) = state_after (taken_by lent state).state rest

-- none of these steps hands up a packet
abbrev pub NoneHandsUp : State → List Lent → Type 0
NoneHandsUp state [] = Unit {0}
NoneHandsUp state (lent ∷ rest) = ((taken_by lent state).answer ≡ 0 → ⊥) × NoneHandsUp (taken_by lent state).state rest

-- LINK-KNOWN: the step hands up an AU1 of a caller on its list, who calls us
pub record KnownCall (lent : Lent) (state : State) : Type 0 where
  pub handed_up_lem : (taken_by lent state).answer ≡ 0
  pub is_au1 : (taken_by lent state).kind ≡ au1
  pub on_list : Memᴰ (caller_of (data_by lent state)) (callers_of lent.callers)
  pub calls_us : called_of (data_by lent state) ≡ lent.ours

-- LINK-KNOWN: whatever a responder's steps are lent, the first packet that one of them hands up is such an AU1: nothing is handed up before
abbrev pub KnownCallFirst : Type 0
KnownCallFirst =
    (strict : Bool) (before : List Lent) (lent : Lent)
    → let state = state_after (fresh_state true strict) before in
    NoneHandsUp (fresh_state true strict) before → (taken_by lent state).answer ≡ 0 → KnownCall lent state

-- LINK-LIST: each of these steps is lent a list that has no entry
abbrev pub EmptyLists : List Lent → Type 0
EmptyLists [] = Unit {0}
EmptyLists (lent ∷ rest) = (length lent.callers < id_size) × EmptyLists rest

-- LINK-LIST: such lists let nobody in
abbrev pub EmptyLetsNobodyIn : Type 0
EmptyLetsNobodyIn = (strict : Bool) (steps : List Lent) → EmptyLists steps → NoneHandsUp (fresh_state true strict) steps

-- LINK-310: a caller on the list, who calls us with an AU1 that has no fault, is let in
abbrev pub KnownCallLetIn : Type 0
KnownCallLetIn =
    (lent : Lent) (state : State) (link : Bool)
    → let s = of_link link lent.normal lent.redundant in
    let at = of_link link lent.normal_at lent.redundant_at in
    let header = packet_header_at s at in
    looks_at lent.normal lent.normal_at lent.redundant lent.redundant_at lent.callers lent.ours state link ≡ true
    → PacketOn link s at → state.first ≡ true → state.responder ≡ true
    → header.kind ≡ au1 → opening_fault au1 header.number (user_data_at s at) ≡ false
    → Memᴰ (caller_of (user_data_at s at)) (callers_of lent.callers) → called_of (user_data_at s at) ≡ lent.ours
    → taken_by lent state ≡ handed_up link at header state
