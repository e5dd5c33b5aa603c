-- What holds of a step by its rows: whatever holds of the four things that may follow holds of the step.
-- Assumes nothing.
use Prim.Native.Nat.{ℕ, zero, suc, ◌≤◌, ◌<◌}
use mathlib.Core.Path.{◌≡◌, refl}
use mathlib.Core.Bool.{Bool, true, false, not, ◌&&◌}
use mathlib.Core.List.{List, [], ◌∷◌, Memᴰ}
use mathlib.Core.Logic.{◌⊎◌, inl, inr}
use native.Mathlib.Omega.{arith}
use borrow.Author.Tests.{not-false, eqb-true}
use lib.Dec.{eqb}
use lib.ListN.{length, get_or}
use Rattle.number.specs.Number.{distance_of}
use Rattle.packet_types.specs.Types.{in_class_d}
use Rattle.packet.specs.Packet.{packet_header_at, check_at, user_data_at, flag_of, PacketOn}
use Rattle.links.specs.declared.State.{State}
use Rattle.links.specs.declared.Taken.{Taken}
use Rattle.links.specs.Taken.{nothing_changes, link_down, dropped, handed_up}
use Rattle.links.specs.Callers.{not_allowed}
use Rattle.links.specs.Table.{length_at, length_fault, judgeable, both_down, not_opening, not_later, too_far, link_rows, class_d_rows, rows_of, taken_of}
use Rattle.link_promises.specs.Promises.{link_answers, of_link}
use Rattle.std.proofs.lemmas.Bool.{not_from_false}
use Rattle.links.proofs.Bools.{both_true, by_row, second_false, third_false}
use Rattle.links.proofs.Judged.{length_right, all_there}

-- why a packet of a link is handed up
pub record Accepted (normal : Bool) (s : List ℕ) (at : ℕ) (callers : List ℕ) (ours : ℕ) (state : State) : Type 0 where
  pub stands : PacketOn normal s at
  pub of_class_d : in_class_d (packet_header_at s at).kind ≡ true
  pub opening : state.first ≡ true → not_opening state.responder (packet_header_at s at) (user_data_at s at) ≡ false
  pub allowed : state.first ≡ true → state.responder ≡ true → not_allowed callers ours (user_data_at s at) ≡ false
  pub later : state.first ≡ false → not_later (packet_header_at s at).kind (distance_of (packet_header_at s at).number state.last) ≡ false
  pub near : state.first ≡ false → too_far state.strict (distance_of (packet_header_at s at).number state.last) ≡ false

-- the entry at an index is in the list
pub entry : (l : List ℕ) (i : ℕ) → i < length l → Memᴰ (get_or l i 0) l
entry [] i h = let none : ⊥ = omega arith in absurd none
entry (x ∷ l) zero h = Memᴰ.head refl
entry (x ∷ l) (suc i) h = Memᴰ.tail (entry l i (omega arith))

-- a packet past row 304 stands whole on the link, with a right check and the link's flag
pub packet_on_lem : (normal : Bool) (s : List ℕ) (at : ℕ) → judgeable s at ≡ true → length_fault (length_at s at) ≡ false
    → not (eqb (packet_header_at s at).check (check_at s at)) ≡ false → not (eqb (packet_header_at s at).flag (flag_of normal)) ≡ false → PacketOn normal s at
packet_on_lem normal s at h l c f = record {
  whole = all_there s at h l;
  least = (length_right (length_at s at) l).0;
  most = (length_right (length_at s at) l).1;
  right = eqb-true _ _ (not-false _ c);
  flagged = eqb-true _ _ (not-false _ f);
}

module _ (normal : Bool) (s : List ℕ) (at : ℕ) (callers : List ℕ) (ours : ℕ) (state : State) (P : Taken → Type 0)
    (nothing : (answer : ℕ) → Memᴰ answer link_answers → (answer ≡ 308) ⊎ (answer ≡ 301) → P (nothing_changes answer state))
    (down : (answer : ℕ) → Memᴰ answer link_answers → 302 ≤ answer → answer ≤ 304 → P (link_down answer normal state))
    (drops : (answer : ℕ) → Memᴰ answer link_answers → 304 < answer → PacketOn normal s at → P (dropped answer normal (packet_header_at s at) state))
    (hands : Accepted normal s at callers ours state → P (handed_up normal at (packet_header_at s at) state)) where
  by_class : PacketOn normal s at → P (class_d_rows normal at (packet_header_at s at) (user_data_at s at) callers ours state)
  unfolding class_d_rows
  by_class p =
      by_row P _ (λ e. drops 305 (entry link_answers 5 (omega arith)) (omega arith) p) (λ e₁.
      by_row P _ (λ e. drops 309 (entry link_answers 6 (omega arith)) (omega arith) p) (λ e₂.
      by_row P _ (λ e. drops 310 (entry link_answers 7 (omega arith)) (omega arith) p) (λ e₃.
      by_row P _ (λ e. drops 306 (entry link_answers 8 (omega arith)) (omega arith) p) (λ e₄.
      by_row P _ (λ e. drops 307 (entry link_answers 9 (omega arith)) (omega arith) p) (λ e₅.
      hands
      (record {
        stands = p;
        of_class_d = not-false _ e₁;
        opening = λ f. second_false _ _ e₂ f;
        allowed = λ f r. third_false _ _ _ e₃ f r;
        later = λ f. second_false _ _ e₄ (not_from_false _ f);
        near = λ f. second_false _ _ e₅ (not_from_false _ f);
      }))))))

  pub by_rows : (found : Bool) → (found ≡ true → judgeable s at ≡ true) → P (rows_of found normal s at callers ours state)
  unfolding link_rows
  by_rows found there =
      by_row P (both_down state) (λ e. nothing 308 (entry link_answers 0 (omega arith)) (inl refl)) (λ e₀.
      by_row P _ (λ e. nothing 301 (entry link_answers 1 (omega arith)) (inr refl)) (λ e₁.
      by_row P _ (λ e. down 302 (entry link_answers 2 (omega arith)) (omega arith) (omega arith)) (λ e₂.
      by_row P _ (λ e. down 303 (entry link_answers 3 (omega arith)) (omega arith) (omega arith)) (λ e₃.
      by_row P _ (λ e. down 304 (entry link_answers 4 (omega arith)) (omega arith) (omega arith)) (λ e₄.
      by_class (packet_on_lem normal s at (there (not-false _ e₁)) e₂ e₃ e₄))))))

module _ (normal : List ℕ) (normal_at : ℕ) (redundant : List ℕ) (redundant_at : ℕ) (callers : List ℕ) (ours : ℕ) (state : State) (P : Taken → Type 0)
    (nothing : (answer : ℕ) → Memᴰ answer link_answers → (answer ≡ 308) ⊎ (answer ≡ 301) → P (nothing_changes answer state))
    (down : (link : Bool) (answer : ℕ) → Memᴰ answer link_answers → 302 ≤ answer → answer ≤ 304 → P (link_down answer link state))
    (drops : (link : Bool) (answer : ℕ) → Memᴰ answer link_answers → 304 < answer → PacketOn link (of_link link normal redundant) (of_link link normal_at redundant_at)
    → P (dropped answer link (packet_header_at (of_link link normal redundant) (of_link link normal_at redundant_at)) state))
    (hands : (link : Bool) → Accepted link (of_link link normal redundant) (of_link link normal_at redundant_at) callers ours state
    → P (handed_up link (of_link link normal_at redundant_at) (packet_header_at (of_link link normal redundant) (of_link link normal_at redundant_at)) state)) where
  pub by_step : P (taken_of normal normal_at redundant redundant_at callers ours state)
  unfolding taken_of
  by_step =
      by_row P (state.normal_up && judgeable normal normal_at)
      (λ e. by_rows true normal normal_at callers ours state P nothing (down true) (drops true) (hands true) true (λ _. (both_true state.normal_up (judgeable normal normal_at) e).1))
      (λ e. by_rows false redundant redundant_at callers ours state P nothing (down false) (drops false) (hands false)
      (state.redundant_up && judgeable redundant redundant_at) (λ h. (both_true state.redundant_up (judgeable redundant redundant_at) h).1))
