-- Two refills that one input allows agree where their last reads do, and so do two windows that are topped up.
-- Assumes nothing.
use Rattle.std.proofs.Common.{ℕ, min, ◌≡◌, refl, sym, ap, ◌∙◌, Bool, true, false, not, ◌&&◌, List, Option, Some, None, Result, Ok, Err, arith, eqb, take}
use Rattle.window.specs.Answers.{clamp_len}
use Rattle.window.specs.Window.{left_of, low_of, is_nought, ended_by, gave_by, RefillsAgree, TopsAgree}
use Rattle.window.specs.declared.Window.{Window}
use Rattle.window.specs.declared.Read.{Read}
use Rattle.window.specs.declared.Refilled.{Refilled}

abbrev windowed : ℕ → ℕ → Bool → Window
windowed from to ended = record { from = from; to = to; ended = ended }

-- what is known of how many bytes a read gave, or none where it failed
abbrev clamped : Option ℕ → ℕ → ℕ
clamped (Some k) room = min k room
clamped None room = 0

abbrev nought : Option ℕ → Bool
nought (Some k) = eqb k 0
nought None = false

is_clamped : {E : Type 0} (r : Result ℕ E) (room : ℕ) → clamp_len r room ≡ clamped (gave_by r) room
is_clamped (Ok k) room = refl
is_clamped (Err why) room = refl

nought_is : {E : Type 0} (r : Result ℕ E) → is_nought r ≡ nought (gave_by r)
nought_is (Ok k) = refl
nought_is (Err why) = refl

came_alike : {E : Type 0} (r r' : Result ℕ E) (room : ℕ) → gave_by r ≡ gave_by r' → clamp_len r room ≡ clamp_len r' room
came_alike r r' room e = is_clamped r room ∙ ap (λ (o : Option ℕ). clamped o room) e ∙ sym (is_clamped r' room)

nought_alike : {E : Type 0} (r r' : Result ℕ E) → gave_by r ≡ gave_by r' → is_nought r ≡ is_nought r'
nought_alike r r' e = nought_is r ∙ ap nought e ∙ sym (nought_is r')

ended_alike : (r r' : Read) → r.room ≡ r'.room → gave_by r.got ≡ gave_by r'.got → ended_by r ≡ ended_by r'
unfolding ended_by
ended_alike r r' room gave =
    ap (λ (n : ℕ). not (eqb n 0) && is_nought r.got) room
    ∙ ap (λ (b : Bool). not (eqb r'.room 0) && b) (nought_alike r.got r'.got gave)

alike : {from from' to to' : ℕ} {ended ended' : Bool} → from ≡ from' → to ≡ to' → ended ≡ ended'
    → windowed from to ended ≡ windowed from' to' ended'
alike from to ended = cc

pub refills_agree : RefillsAgree
refills_agree before w after after' r r' one other room gave =
    let came = came_alike r.last.got r'.last.got r.last.room gave ∙ ap (clamp_len r'.last.got) room in
    let from : r.window.from ≡ r'.window.from = one.front ∙ sym other.front in
    let to : r.window.to ≡ r'.window.to = omega (arith, one.asked, other.asked, room, came) in
    let ended = one.ended ∙ ended_alike r.last r'.last room gave ∙ sym other.ended in
    (alike from to ended, one.kept ∙ sym other.kept)

pub tops_agree : TopsAgree
tops_agree most before w after after' r r' one other room gave = by (low_of most w) refl
  where
    by : (low : Bool) → low_of most w ≡ low → (r.window ≡ r'.window) × (take (left_of w) after ≡ take (left_of w) after')
    by true e = refills_agree before w after after' r r' (one.low e) (other.low e) room gave
    by false e =
        let same = one.not_low e in
        let same' = other.not_low e in
        (ap (λ (q : Refilled). q.window) (same.0 ∙ sym same'.0), ap (take (left_of w)) (same.1 ∙ sym same'.1))
