-- What the rows answer to a packet of the sequence on the link looked at, by its place and by how many places of the sequence are done with.
-- Assumes nothing.
use Prim.Native.Nat.{ℕ, zero, suc, ◌+◌, ◌-◌, ◌%◌, ◌≤◌, ◌<◌}
use mathlib.Core.Path.{◌≡◌, refl, sym, ap, ap₂, ◌∙◌, subst}
use mathlib.Core.Bool.{Bool, true, false, not, ◌&&◌, ◌||◌}
use mathlib.Core.List.{List}
use native.Mathlib.Omega.{arith}
use borrow.Author.Tests.{ltb-true, ltb-false, le-leb, eq-eqb, eqb-false, leb-false}
use lib.Dec.{eqb, ltb, leb}
use Rattle.number.specs.Number.{numbers, behind_from, distance_of}
use Rattle.packet.specs.Packet.{packet_header_at, user_data_at}
use Rattle.packet_types.specs.Types.{in_class_d, opens, opening_fault}
use Rattle.links.specs.declared.State.{State}
use Rattle.links.specs.declared.Taken.{Taken}
use Rattle.links.specs.Taken.{remembered_of, dropped, handed_up}
use Rattle.links.specs.Callers.{not_allowed}
use Rattle.links.specs.Table.{both_down, not_opening, not_later, too_far, class_d_rows, rows_of}
use Rattle.links.proofs.Bools.{both_false, by_row}
use Rattle.links.proofs.ClassRows.{row_allowed, row_answered, row_306, row_307, row_later}
use Rattle.links.proofs.LinkRows.{row_class}
use Rattle.links.proofs.Step as step
use Rattle.link_promises.proofs.Accepted.{right_length, in_time}
use Rattle.one_story.specs.Sequence.{Packet, Gateway, fresh_of, Opens, Sent}
use Rattle.one_story.specs.OneStory.{BothUp, most_lag}
use Rattle.one_story.proofs.Numbers.{distance_ahead, distance_behind}
use Rattle.one_story.proofs.Standing.{Stands, opening_kind, later_kind, class_d_lem}

-- the state once so many places of the sequence are done with: the first packet is awaited, or the last number is that of the last of them
abbrev pub state_at : Gateway → ℕ → State
state_at gateway zero = fresh_of gateway
state_at gateway (suc last) = remembered_of (last % numbers) (fresh_of gateway)

-- both links are up, whatever has been handed up
pub both_up : (gateway : Gateway) (done : ℕ) → BothUp (state_at gateway done)
both_up gateway zero = record { normal_up = refl; redundant_up = refl }
both_up gateway (suc last) = record { normal_up = refl; redundant_up = refl }

pub not_down : (gateway : Gateway) (done : ℕ) → both_down (state_at gateway done) ≡ false
not_down gateway done = step.normal_up (state_at gateway done) (both_up gateway done).normal_up

-- a packet that is handed up is the last
pub remembers : (gateway : Gateway) (place done : ℕ) → remembered_of (place % numbers) (state_at gateway done) ≡ state_at gateway (suc place)
remembers gateway place zero = refl
remembers gateway place (suc last) = refl

-- d = 1 leaves none out; d of 2 or more does, in the strict setting
one_not_far : (strict : Bool) → too_far strict 1 ≡ false
unfolding too_far
one_not_far true = refl
one_not_far false = refl

pub two_far : (d : ℕ) → 2 ≤ d → too_far true d ≡ true
unfolding too_far
two_far d h = le-leb 2 d h

-- an answer that drops a packet: past those of either class, and not 308
abbrev pub Drop : ℕ → Type 0
Drop answer = (304 < answer) × (answer ≡ 308 → ⊥)

module _ (gateway : Gateway) (p : Packet) (normal : Bool) (s : List ℕ) (at : ℕ) (r : Stands normal p s at) where
  abbrev rows : ℕ → Taken
  rows done = rows_of true normal s at gateway.callers gateway.ours (state_at gateway done)

  -- handed up, or used and dropped
  abbrev pub Hands : ℕ → Type 0
  Hands done = rows done ≡ handed_up normal at (packet_header_at s at) (state_at gateway done)

  pub record Drops (done : ℕ) : Type 0 where
    pub answer : ℕ
    pub used : 304 < answer
    pub is : rows done ≡ dropped answer normal (packet_header_at s at) (state_at gateway done)

  -- no row of a link applies
  pub to_class : (done : ℕ)
      → rows done ≡ class_d_rows normal at (packet_header_at s at) (user_data_at s at) gateway.callers gateway.ours (state_at gateway done)
  to_class done =
      sym (row_class normal s at (state_at gateway done)
      (class_d_rows normal at (packet_header_at s at) (user_data_at s at) gateway.callers gateway.ours (state_at gateway done)) (not_down gateway done)
      (right_length normal s at r.stands) r.stands.right r.stands.flagged)

  -- so a packet there is used: what holds of every way to drop it, and of handing it up, holds of the rows
  pub rows_take : (done : ℕ) (P : Taken → Type 0) → ((answer : ℕ) → Drop answer → P (dropped answer normal (packet_header_at s at) (state_at gateway done)))
      → P (handed_up normal at (packet_header_at s at) (state_at gateway done)) → P (rows done)
  unfolding class_d_rows
  rows_take done P drops hands =
      let state = state_at gateway done in
      let header = packet_header_at s at in
      let d = distance_of header.number state.last in
      subst P (sym (to_class done))
      (by_row P (not (in_class_d header.kind)) (λ e. drops 305 (omega arith, λ z. omega arith)) (λ e.
      by_row P (state.first && not_opening state.responder header (user_data_at s at)) (λ e. drops 309 (omega arith, λ z. omega arith)) (λ e.
      by_row P (state.first && state.responder && not_allowed gateway.callers gateway.ours (user_data_at s at)) (λ e. drops 310 (omega arith, λ z. omega arith)) (λ e.
      by_row P (not state.first && not_later header.kind d) (λ e. drops 306 (omega arith, λ z. omega arith)) (λ e.
      by_row P (not state.first && too_far state.strict d) (λ e. drops 307 (omega arith, λ z. omega arith)) (λ e. hands))))))

  in_class : in_class_d p.kind ≡ true → in_class_d (packet_header_at s at).kind ≡ true
  in_class c = ap in_class_d r.same_kind ∙ c

  -- ---- the opening packet
  opening : Opens gateway p → not_opening gateway.responder (packet_header_at s at) (user_data_at s at) ≡ false
  unfolding not_opening
  opening o =
      let fault : opening_fault (packet_header_at s at).kind (packet_header_at s at).number (user_data_at s at) ≡ false = rw (r.same_kind, r.same_number, r.same_data) o.acceptable in
      simp (eq-eqb _ _ (r.same_kind ∙ o.opening), fault)

  pub first_one : Opens gateway p → Hands 0
  first_one o = to_class 0 ∙ sym (by gateway.responder refl)
    where
      class : in_class_d (packet_header_at s at).kind ≡ true
      class = in_class (opening_kind gateway p o).0

      by : (responder : Bool) → gateway.responder ≡ responder
          → handed_up normal at (packet_header_at s at) (state_at gateway 0)
          ≡ class_d_rows normal at (packet_header_at s at) (user_data_at s at) gateway.callers gateway.ours (state_at gateway 0)
      by true e =
          row_allowed normal at (packet_header_at s at) (user_data_at s at) gateway.callers gateway.ours (state_at gateway 0) class refl (opening o) e
          (ap (not_allowed gateway.callers gateway.ours) r.same_data ∙ o.allowed e)
      by false e =
          row_answered normal at (packet_header_at s at) (user_data_at s at) gateway.callers gateway.ours (state_at gateway 0) class refl (opening o) e

  -- ---- a later one, by its d
  module _ (last : ℕ) where
    abbrev d : ℕ
    d = distance_of (packet_header_at s at).number (last % numbers)

    d_of : (place : ℕ) → Sent gateway place p → d ≡ distance_of (place % numbers) (last % numbers)
    d_of place g = ap (λ (n : ℕ). distance_of n (last % numbers)) (r.same_number ∙ g.numbered)

    -- where the setting lets it
    pub later_one : (place : ℕ) → Sent gateway (suc place) p → 1 ≤ d → d < behind_from → too_far gateway.strict d ≡ false → Hands (suc last)
    later_one place g l h t =
        let c = later_kind p.kind g.kinded in
        to_class (suc last)
        ∙ sym (row_later normal at (packet_header_at s at) (user_data_at s at) gateway.callers gateway.ours (state_at gateway (suc last)) (in_class c.0) refl d refl
        (in_time (packet_header_at s at).kind d (ap opens r.same_kind ∙ c.1) l h) t)

    -- 306, or else 307
    pub not_taken : in_class_d p.kind ≡ true → (not_later (packet_header_at s at).kind d ≡ false → too_far gateway.strict d ≡ true) → Drops (suc last)
    not_taken c far = by (not_later (packet_header_at s at).kind d) refl
      where
        by : (b : Bool) → not_later (packet_header_at s at).kind d ≡ b → Drops (suc last)
        by true e = record {
          answer = 306;
          used = omega arith;
          is = to_class (suc last) ∙ sym (row_306 normal at (packet_header_at s at) (user_data_at s at) gateway.callers gateway.ours (state_at gateway (suc last)) (in_class c) refl d refl e);
        }
        by false e = record {
          answer = 307;
          used = omega arith;
          is =
              to_class (suc last)
              ∙ sym (row_307 normal at (packet_header_at s at) (user_data_at s at) gateway.callers gateway.ours (state_at gateway (suc last)) (in_class c) refl d refl e (far e));
        }

    -- a d that is neither 0 nor behind
    pub between : not_later (packet_header_at s at).kind d ≡ false → (1 ≤ d) × (d < behind_from)
    unfolding not_later
    between e =
        let b = both_false (opens (packet_header_at s at).kind || eqb d 0) (leb behind_from d) e in
        (one d (eqb-false d 0 (both_false (opens (packet_header_at s at).kind) (eqb d 0) b.0).1), leb-false behind_from d b.1)
      where
        one : (n : ℕ) → (n ≡ 0 → ⊥) → 1 ≤ n
        one zero z = absurd (z refl)
        one (suc n) z = omega arith

    -- ---- by its place
    pub ahead : (place : ℕ) → Sent gateway place p → last < place → place < last + behind_from → too_far gateway.strict (place - last) ≡ false → Hands (suc last)
    ahead zero g l h t = let none : ⊥ = omega arith in absurd none
    ahead (suc place) g l h t =
        let e : d ≡ suc place - last = d_of (suc place) g ∙ distance_ahead (suc place) last (omega arith) (omega arith) in
        later_one place g (omega arith) (omega arith) (ap (too_far gateway.strict) e ∙ t)

    pub behind : (place : ℕ) → Sent gateway place p → place ≤ last → last < place + numbers
        → (1 ≤ place + numbers - last → place + numbers - last < behind_from → too_far gateway.strict (place + numbers - last) ≡ true) → Drops (suc last)
    behind place g l h far = by (ltb place last) refl
      where
        by : (b : Bool) → ltb place last ≡ b → Drops (suc last)
        by true e =
            let x : d ≡ place + numbers - last = d_of place g ∙ distance_behind place last (ltb-true place last e) h in
            not_taken (class_d_lem gateway place p g normal) (λ n. let b = between n in ap (too_far gateway.strict) x ∙ far (omega arith) (omega arith))
        by false e =
            let z : d ≡ place - last = d_of place g ∙ distance_ahead place last (ltb-false place last e) (omega arith) in
            not_taken (class_d_lem gateway place p g normal) (λ n. let none : ⊥ = omega (arith, (between n).0) in absurd none)

    -- one beyond the next is dropped in the strict setting
    pub beyond : (place : ℕ) → Sent gateway place p → suc last < place → place < last + numbers → gateway.strict ≡ true → Drops (suc last)
    beyond place g l h strict =
        let e : d ≡ place - last = d_of place g ∙ distance_ahead place last (omega arith) h in
        not_taken (class_d_lem gateway place p g normal) (λ _. ap₂ too_far strict e ∙ two_far (place - last) (omega arith))

    -- an earlier one that lies so far behind that its number is a later one's is handed up a second time
    pub behind_taken : (place : ℕ) → Sent gateway (suc place) p → suc place < last → last < suc place + numbers
        → suc place + numbers - last < behind_from → too_far gateway.strict (suc place + numbers - last) ≡ false → Hands (suc last)
    behind_taken place g l h few t =
        let e : d ≡ suc place + numbers - last = d_of (suc place) g ∙ distance_behind (suc place) last l h in
        later_one place g (omega arith) (omega arith) (ap (too_far gateway.strict) e ∙ t)

  -- the next one is handed up
  pub next_one : (place : ℕ) → Sent gateway place p → Hands place
  next_one zero g = first_one g.kinded
  next_one (suc last) g = ahead last (suc last) g (omega arith) (omega arith) (near gateway.strict)
    where
      near : (strict : Bool) → too_far strict (suc last - last) ≡ false
      near strict = let e : suc last - last ≡ 1 = omega arith in ap (too_far strict) e ∙ one_not_far strict

  -- an earlier one is dropped, where it is not too far behind for the setting
  pub earlier_one : (place done : ℕ) → Sent gateway place p → place < done → done < place + most_lag gateway.strict → Drops done
  earlier_one place zero g l h = let none : ⊥ = omega arith in absurd none
  earlier_one place (suc last) g l h =
      behind last place g (omega arith) (within gateway.strict h) (λ one few. far gateway.strict h one few)
    where
      within : (strict : Bool) → suc last < place + most_lag strict → last < place + numbers
      within true h = omega arith
      within false h = omega arith

      far : (strict : Bool) → suc last < place + most_lag strict → 1 ≤ place + numbers - last → place + numbers - last < behind_from
          → too_far strict (place + numbers - last) ≡ true
      far true h one few = two_far (place + numbers - last) (omega arith)
      far false h one few = let none : ⊥ = omega arith in absurd none
