-- Each step but the last uses bytes up or puts a link down, so that a step for each byte and each link that is up, and one at the end, are enough.
-- Assumes nothing.
use Prim.Native.Nat.{ℕ, zero, suc, ◌+◌, ◌-◌, ◌≤◌, ◌<◌}
use mathlib.Core.Path.{◌≡◌, refl, sym, ap, ◌∙◌}
use mathlib.Core.Bool.{Bool, true, false, cond, ◌||◌, false≢true}
use mathlib.Core.List.{List, ◌++◌}
use mathlib.Core.Logic.{⊎_elim}
use native.Mathlib.Omega.{arith}
use lib.Dec.{eqb}
use lib.ListN.{length}
use borrow.Author.Tests.{eq-eqb}
use Rattle.rules.specs.Rows.{when◌answer◌else◌}
use Rattle.link_promises.proofs.Forward.{goes_forward}
use Rattle.text.specs.Line.{end_of}
use Rattle.recording.specs.Printed.{line_of}
use Rattle.recording.specs.Progress.{last_answer}
use Rattle.recording.specs.Cut.{Reach, reached_by, taken_from, cut_in, most_steps, GoesOn}

-- an answer that is not the last is neither 301 nor 308
not_301 : (n : ℕ) → last_answer n ≡ false → n ≡ 301 → ⊥
unfolding last_answer
not_301 n e z = false≢true (sym e ∙ simp (eq-eqb n 301 z))

not_308 : (n : ℕ) → last_answer n ≡ false → n ≡ 308 → ⊥
unfolding last_answer
not_308 n e z = false≢true (sym e ∙ by (eqb n 301) (eq-eqb n 308 z))
  where
    by : (b : Bool) → eqb n 308 ≡ true → (b || eqb n 308) ≡ true
    by true s = refl
    by false s = s

-- what comes after a row that does not apply
goes_alike : {A : Type 0} (b : Bool) (x : A) {y z : A} → (b ≡ false → y ≡ z) → (when b answer x else y) ≡ (when b answer x else z)
goes_alike true x same = refl
goes_alike false x same = same refl

module _ (normal redundant callers : List ℕ) (ours : ℕ) where
  -- bytes used of one of two links
  used_up_lem : (link : Bool) (n r used : ℕ) → cond link n r + used ≤ length (cond link normal redundant) → 0 < used
      → (length normal - cond link (n + used) n) + (length redundant - cond link r (r + used)) < (length normal - n) + (length redundant - r)
  used_up_lem true n r used h l = omega arith
  used_up_lem false n r used h l = omega arith

  none_used : (link : Bool) (n r used : ℕ) → used ≡ 0
      → (length normal - cond link (n + used) n) + (length redundant - cond link r (r + used)) ≡ (length normal - n) + (length redundant - r)
  none_used true n r used h = omega arith
  none_used false n r used h = omega arith

  -- after a step but the last fewer are left
  fewer_left : (x : Reach) → last_answer (taken_from normal redundant callers ours x).answer ≡ false
      → most_steps normal redundant callers ours (reached_by (taken_from normal redundant callers ours x) x) < most_steps normal redundant callers ours x
  fewer_left x e =
      let t = taken_from normal redundant callers ours x in
      ⊎_elim (λ bytes. omega (arith, used_up_lem t.normal x.normal x.redundant t.used bytes.1 bytes.0, bytes.2))
      (λ down. omega (arith, none_used t.normal x.normal x.redundant t.used down.0, down.1))
      (goes_forward normal x.normal redundant x.redundant callers ours x.state (not_308 t.answer e) (not_301 t.answer e))

  -- more steps than are left change nothing
  enough : (n m : ℕ) (x : Reach) → most_steps normal redundant callers ours x < n → most_steps normal redundant callers ours x < m → cut_in normal redundant callers ours n x ≡ cut_in normal redundant callers ours m x
  unfolding cut_in
  enough zero m x h g = let none : ⊥ = omega arith in absurd none
  enough (suc n) zero x h g = let none : ⊥ = omega arith in absurd none
  enough (suc n) (suc m) x h g =
      let t = taken_from normal redundant callers ours x in
      ap (λ (l : List ℕ). line_of t ++ l)
      (goes_alike (last_answer t.answer) (end_of (reached_by t x).handed_up) (λ e.
      let fewer = fewer_left x e in
      enough n m (reached_by t x) (omega arith) (omega arith)))

  pub goes_on_lem : GoesOn normal redundant callers ours
  unfolding cut_in
  goes_on_lem x =
      let t = taken_from normal redundant callers ours x in
      ap (λ (l : List ℕ). line_of t ++ l)
      (goes_alike (last_answer t.answer) (end_of (reached_by t x).handed_up) (λ e.
      let fewer = fewer_left x e in
      enough (most_steps normal redundant callers ours x) (suc (most_steps normal redundant callers ours (reached_by t x))) (reached_by t x) (omega arith) (omega arith)))
