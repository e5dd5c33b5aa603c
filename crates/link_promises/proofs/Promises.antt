-- What is promised of every step, besides its table: each promise holds of the four things that may follow (proofs/Outcome).
-- Assumes nothing.
use Prim.Native.Nat.{ℕ, ◌+◌, ◌-◌, ◌≤◌}
use mathlib.Core.Path.{◌≡◌, refl, ap, ◌∙◌}
use mathlib.Core.Bool.{Bool, true, false}
use mathlib.Core.List.{List, [], Memᴰ}
use mathlib.Core.Logic.{⊎_elim}
use native.Mathlib.Omega.{arith}
use borrow.Author.Tests.{ne_eqb, le-leb}
use lib.ListN.{length, drop, length-drop}
use lib.Seq.{length-take-le}
use Rattle.packet.specs.Sizes.{packet_header_size, least_length}
use Rattle.packet.specs.Packet.{packet_header_at, user_data_at, PacketOn}
use Rattle.links.specs.declared.State.{State}
use Rattle.links.specs.declared.Taken.{Taken}
use Rattle.links.specs.Taken.{down_of, empty_part, handed_up}
use Rattle.links.specs.Table.{taken_of, user_data_of}
use Rattle.link_promises.specs.Promises.{of_link, link_answers, link_bytes, link_place, AnswersOfTheTable, DownStaysDown, UsesNoMoreThanLent, FaultsPutOneLinkDown, OthersHandUpNothing, HandsUpThePacket, CountsItsUserData}
use Rattle.link_promises.proofs.Outcome.{entry, by_step}

-- no part is handed up of another answer
pub no_part : (normal redundant : List ℕ) (taken : Taken) → (taken.answer ≡ 0 → ⊥) → user_data_of normal redundant taken ≡ []
unfolding user_data_of
no_part normal redundant taken z = simp (ne_eqb _ _ z)

-- the part that is handed up of a packet that stands whole at a place is its user data
pub data_of_packet : (normal redundant : List ℕ) (link : Bool) (at : ℕ) (state : State) → PacketOn link (of_link link normal redundant) at
    → user_data_of normal redundant (handed_up link at (packet_header_at (of_link link normal redundant) at) state) ≡ user_data_at (of_link link normal redundant) at
unfolding user_data_of
data_of_packet normal redundant link at state p =
    let s = of_link link normal redundant in
    let h : at + packet_header_size + ((packet_header_at s at).length - least_length) ≤ length s = omega (arith, p.whole, p.least) in
    simp (le-leb _ _ h)

-- a packet that stands whole at a place has as many bytes of user data as its length says
size_of_data : (link : Bool) (s : List ℕ) (at : ℕ) → PacketOn link s at → length (user_data_at s at) ≡ (packet_header_at s at).length - least_length
size_of_data link s at p =
    length-take-le ((packet_header_at s at).length - least_length) (drop (at + packet_header_size) s) (omega (arith, length-drop (at + packet_header_size) s, p.whole, p.least))

-- a link that is down is down after one goes down
normal_down : (link : Bool) (state : State) → state.normal_up ≡ false → (down_of link state).normal_up ≡ false
normal_down true state e = refl
normal_down false state e = e

redundant_down : (link : Bool) (state : State) → state.redundant_up ≡ false → (down_of link state).redundant_up ≡ false
redundant_down true state e = e
redundant_down false state e = refl

module _ (normal : List ℕ) (normal_at : ℕ) (redundant : List ℕ) (redundant_at : ℕ) (callers : List ℕ) (ours : ℕ) (state : State) where
  abbrev named : Taken → List ℕ
  named taken = link_bytes normal normal_at redundant redundant_at callers ours state taken

  abbrev here : Taken → ℕ
  here taken = link_place normal normal_at redundant redundant_at callers ours state taken

  pub answers_of_the_table : AnswersOfTheTable normal normal_at redundant redundant_at callers ours state
  answers_of_the_table =
      by_step normal normal_at redundant redundant_at callers ours state (λ (t : Taken). Memᴰ t.answer link_answers) (λ a m o. m) (λ link a m l h. m)
      (λ link a m l p. m) (λ link c. entry link_answers 10 (omega arith))

  pub down_stays_down : DownStaysDown normal normal_at redundant redundant_at callers ours state
  down_stays_down = (
    λ e. by_step normal normal_at redundant redundant_at callers ours state (λ (t : Taken). t.state.normal_up ≡ false) (λ a m o. e)
        (λ link a m l h. normal_down link state e) (λ link a m l p. e) (λ link c. e),
    λ e. by_step normal normal_at redundant redundant_at callers ours state (λ (t : Taken). t.state.redundant_up ≡ false) (λ a m o. e)
        (λ link a m l h. redundant_down link state e) (λ link a m l p. e) (λ link c. e),
  )

  pub uses_no_more_than_lent : UsesNoMoreThanLent normal normal_at redundant redundant_at callers ours state
  uses_no_more_than_lent =
      by_step normal normal_at redundant redundant_at callers ours state (λ (t : Taken). here t ≤ length (named t) → here t + t.used ≤ length (named t)) (λ a m o w. omega arith)
      (λ link a m l h w. omega arith) (λ link a m l p w. p.whole) (λ link c w. c.stands.whole)

  pub faults_put_one_link_down : FaultsPutOneLinkDown normal normal_at redundant redundant_at callers ours state
  faults_put_one_link_down =
      by_step normal normal_at redundant redundant_at callers ours state
      (λ (t : Taken). 302 ≤ t.answer → t.answer ≤ 304 → (t.used ≡ 0) × (t.state ≡ down_of t.normal state))
      (λ a m o l h. let z : ⊥ = ⊎_elim (λ b. omega arith) (λ b. omega arith) o in absurd z) (λ link a m l' h' l h. (refl, refl))
      (λ link a m b p l h. let z : ⊥ = omega arith in absurd z) (λ link c l h. let z : ⊥ = omega arith in absurd z)

  pub others_hand_up_nothing : OthersHandUpNothing normal normal_at redundant redundant_at callers ours state
  others_hand_up_nothing z = (
    no_part normal redundant (taken_of normal normal_at redundant redundant_at callers ours state) z,
    by_step normal normal_at redundant redundant_at callers ours state
        (λ (t : Taken). (t.answer ≡ 0 → ⊥) → t ≡ empty_part t.answer t.normal t.used t.state) (λ a m o z. refl) (λ link a m l h z. refl)
        (λ link a m b p z. refl) (λ link c z. absurd (z refl)) z,
  )

  pub hands_up_the_packet : HandsUpThePacket normal normal_at redundant redundant_at callers ours state
  hands_up_the_packet =
      by_step normal normal_at redundant redundant_at callers ours state
      (λ (t : Taken).
      t.answer ≡ 0
      → (user_data_of normal redundant t ≡ user_data_at (named t) (here t)) × (t ≡ handed_up t.normal (here t) (packet_header_at (named t) (here t)) state)
      × PacketOn t.normal (named t) (here t))
      (λ a m o z. let f : ⊥ = ⊎_elim (λ b. omega arith) (λ b. omega arith) o in absurd f) (λ link a m l h z. let f : ⊥ = omega arith in absurd f)
      (λ link a m b p z. let f : ⊥ = omega arith in absurd f)
      (λ link c z. (data_of_packet normal redundant link (of_link link normal_at redundant_at) state c.stands, refl, c.stands))

  pub counts_its_user_data : CountsItsUserData normal normal_at redundant redundant_at callers ours state
  counts_its_user_data =
      by_step normal normal_at redundant redundant_at callers ours state (λ (t : Taken). length (user_data_of normal redundant t) ≡ t.size)
      (λ a m o. ap length (no_part normal redundant _ (λ z. ⊎_elim (λ b. omega arith) (λ b. omega arith) o)))
      (λ link a m l h. ap length (no_part normal redundant _ (λ z. omega arith)))
      (λ link a m b p. ap length (no_part normal redundant _ (λ z. omega arith)))
      (λ link c. ap length (data_of_packet normal redundant link (of_link link normal_at redundant_at) state c.stands)
      ∙ size_of_data link (of_link link normal redundant) (of_link link normal_at redundant_at) c.stands)
