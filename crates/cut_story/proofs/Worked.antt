-- Recorded links that meet what is supposed, by computation.
-- Assumes nothing.
use Prim.Native.Nat.{ℕ, zero, suc, ◌≤◌}
use mathlib.Core.Path.{◌≡◌, refl, sym, ap, ◌∙◌}
use mathlib.Core.Bool.{true, false}
use mathlib.Core.List.{[], append-nil}
use native.Mathlib.Omega.{arith}
use lib.Dec.{lit<, lit≤}
use lib.ListN.{length, take, drop, take-append-drop}
use Rattle.field.specs.Field.{bytes_of}
use Rattle.one_story.specs.Sequence.{packet_on, bytes_on}
use Rattle.one_story.specs.OneStory.{Whole}
use Rattle.one_story.specs.Worked.{four, four_on}
use Rattle.one_story.proofs.Worked.{worked_run}
use Rattle.cut_story.specs.Worked.{RecordedFour}

-- how many bytes the first packets have on the normal link
sizes : (length (bytes_on true (take 2 four)) ≡ 31) × (length (bytes_on true (take 3 four)) ≡ 41) × (length (bytes_on true (take 4 four)) ≡ 52)
unfolding packet_on bytes_of
sizes = (refl, refl, refl)

normal_whole : Whole true four (take 34 (four_on true)) 2
normal_whole = record { within = lit≤ tt; all_there = omega (arith, sizes.0); no_more = no_more }
  where
    no_more : (k : ℕ) → k ≤ 4 → length (bytes_on true (take k four)) ≤ 34 → k ≤ 2
    no_more zero l h = omega arith
    no_more (suc zero) l h = omega arith
    no_more (suc (suc zero)) l h = omega arith
    no_more (suc (suc (suc zero))) l h = let none : ⊥ = omega (arith, sizes.1) in absurd none
    no_more (suc (suc (suc (suc zero)))) l h = let none : ⊥ = omega (arith, sizes.2) in absurd none
    no_more (suc (suc (suc (suc (suc k))))) l h = let none : ⊥ = omega arith in absurd none

pub recorded_four : RecordedFour
recorded_four = record {
  sequence = worked_run.sequence;
  normal_part = record { rest = drop 34 (four_on true); part = take-append-drop 34 (four_on true) ∙ sym worked_run.bytes.0 };
  redundant_part = record { rest = []; part = append-nil (four_on false) ∙ sym worked_run.bytes.1 };
  normal_whole = normal_whole;
  redundant_whole = record { within = lit≤ tt; all_there = omega (arith, ap length worked_run.bytes.1); no_more = λ k l h. l };
  near = λ _. lit< tt;
}
