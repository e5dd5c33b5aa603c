-- What stays of a buffer where a part of it stays.
-- Assumes nothing.
use Rattle.std.proofs.Common.{ℕ, ◌≤◌, ◌≡◌, ap, ◌∙◌, sym, List, take}
use lib.Seq.{take-take}

-- what stays of a longer part stays of a shorter one
pub shorter_part : (at to : ℕ) (before after : List ℕ) → at ≤ to → take to after ≡ take to before → take at after ≡ take at before
shorter_part at to before after h e = sym (take-take at to after h) ∙ ap (λ (l : List ℕ). take at l) e ∙ take-take at to before h
