-- A step goes forward: unless it answers 308 or 301, it uses bytes of the link that it names, or puts down a link that was up.
-- Assumes nothing.
use Prim.Native.Nat.{ℕ, ◌+◌, ◌≤◌, ◌<◌}
use mathlib.Core.Path.{◌≡◌, refl, subst}
use mathlib.Core.Bool.{Bool, true, false}
use mathlib.Core.List.{List}
use mathlib.Core.Logic.{◌⊎◌, inl, inr, ⊎_elim}
use native.Mathlib.Omega.{arith}
use lib.ListN.{length}
use Rattle.links.specs.declared.State.{State}
use Rattle.links.specs.declared.Taken.{Taken}
use Rattle.links.specs.Taken.{down_of}
use Rattle.links.specs.Table.{judgeable, held, both_down, taken_of}
use Rattle.link_promises.specs.Promises.{of_link, links_up, link_bytes, link_place, GoesForward}
use Rattle.links.proofs.Bools.{both_true}
use Rattle.link_promises.proofs.Outcome.{by_rows, by_step}
use Rattle.links.proofs.Step.{at_normal, at_redundant, at_308, at_301}

-- fewer links are up after one that is up goes down
one_less : (link : Bool) (state : State) → of_link link state.normal_up state.redundant_up ≡ true → links_up (down_of link state) < links_up state
one_less true state e = rw e (omega arith)
one_less false state e = rw e (omega arith)

module _ (normal : List ℕ) (normal_at : ℕ) (redundant : List ℕ) (redundant_at : ℕ) (callers : List ℕ) (ours : ℕ) (state : State) where
  abbrev step : Taken
  step = taken_of normal normal_at redundant redundant_at callers ours state

  -- a step that answers neither 308 nor 301 names a link that is up
  abbrev NamesOneUp : Taken → Type 0
  NamesOneUp t = (t.answer ≡ 308 → ⊥) → (t.answer ≡ 301 → ⊥) → of_link t.normal state.normal_up state.redundant_up ≡ true

  neither : (answer : ℕ) → (answer ≡ 308) ⊎ (answer ≡ 301) → (answer ≡ 308 → ⊥) → (answer ≡ 301 → ⊥) → ⊥
  neither answer o a b = ⊎_elim a b o

  names_one_up : NamesOneUp step
  names_one_up = by_normal (held state.normal_up normal normal_at) refl
    where
      by_both : held state.normal_up normal normal_at ≡ false → held state.redundant_up redundant redundant_at ≡ false → (down : Bool) → both_down state ≡ down
          → NamesOneUp step
      by_both n r true d = subst NamesOneUp (at_308 normal normal_at redundant redundant_at callers ours state n d) (λ a b. absurd (a refl))
      by_both n r false d = subst NamesOneUp (at_301 normal normal_at redundant redundant_at callers ours state n r d) (λ a b. absurd (b refl))

      by_redundant : held state.normal_up normal normal_at ≡ false → (b : Bool) → held state.redundant_up redundant redundant_at ≡ b → NamesOneUp step
      by_redundant n false r = by_both n r (both_down state) refl
      by_redundant n true r =
          let both = both_true state.redundant_up (judgeable redundant redundant_at) r in
          subst NamesOneUp (at_redundant normal normal_at redundant redundant_at callers ours state n r)
          (by_rows false redundant redundant_at callers ours state NamesOneUp (λ x m o a b. absurd (neither x o a b)) (λ x m l h a b. both.0) (λ x m l p a b. both.0) (λ c a b. both.0) true (λ _. both.1))

      by_normal : (b : Bool) → held state.normal_up normal normal_at ≡ b → NamesOneUp step
      by_normal false n = by_redundant n (held state.redundant_up redundant redundant_at) refl
      by_normal true n =
          let both = both_true state.normal_up (judgeable normal normal_at) n in
          subst NamesOneUp (at_normal normal normal_at redundant redundant_at callers ours state n)
          (by_rows true normal normal_at callers ours state NamesOneUp (λ x m o a b. absurd (neither x o a b)) (λ x m l h a b. both.0) (λ x m l p a b. both.0) (λ c a b. both.0) true (λ _. both.1))

  abbrev Forward : Taken → Type 0
  Forward t =
      (t.answer ≡ 308 → ⊥) → (t.answer ≡ 301 → ⊥) → of_link t.normal state.normal_up state.redundant_up ≡ true
      → ((0 < t.used) × (link_place normal normal_at redundant redundant_at callers ours state t + t.used ≤ length (link_bytes normal normal_at redundant redundant_at callers ours state t)) × (links_up t.state ≡ links_up state))
      ⊎ ((t.used ≡ 0) × (links_up t.state < links_up state))

  pub goes_forward : GoesForward normal normal_at redundant redundant_at callers ours state
  goes_forward a b =
      by_step normal normal_at redundant redundant_at callers ours state Forward (λ x m o a b up. absurd (neither x o a b)) (λ link x m l h a b up. inr (refl, one_less link state up))
      (λ link x m l p a b up. inl (omega arith, p.whole, refl)) (λ link c a b up. inl (omega arith, c.stands.whole, refl)) a b (names_one_up a b)
