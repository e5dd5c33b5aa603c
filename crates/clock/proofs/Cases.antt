-- What the definitions of specs/ say in each case.
-- Assumes nothing.
use Rattle.std.proofs.Common.{◌≡◌, ℕ, ◌^◌, ◌<◌, ◌≤◌, ◌⊎◌, ⊎_elim, ℤ, pos, negsuc, neg_ℤ, nat_abs, sym, refl, ap, arith, le-ltb, lt-ltb, ne_eqb, le-leb}
use borrow.Author.Tests.{lt-leb}
use lib.IntN.{pos-ne-negsuc}
use lib.Signed.{mag, lt_z}
use mathlib.Core.Path.{ap₂, ◌∙◌}
use mir.Val.{bool_byte}
use Rattle.clock.specs.Clock.{centred, verdict_of, sign_magnitude_of, offset_read}
use Rattle.clock.specs.declared.Verdict.TheVariants.{Future, Late, Fresh}
use Rattle.clock.specs.declared.SignMagnitude.{SignMagnitude}
use Rattle.clock.specs.declared.Offset.{Offset}
use Rattle.clock.proofs.Wrapped.{centred_small}
use Rattle.std.specs.Prelude.{Some, None}

pub verdict_future : (z : ℤ) (t_max_lem : ℕ) → z ≡ negsuc (mag z) → verdict_of z t_max_lem ≡ Future
unfolding verdict_of
verdict_future (pos n) t_max_lem e = absurd (pos-ne-negsuc n n e)
verdict_future (negsuc n) t_max_lem e = refl

pub verdict_late : (z : ℤ) (t_max_lem : ℕ) → z ≡ pos (mag z) → t_max_lem < nat_abs z → verdict_of z t_max_lem ≡ Late
unfolding verdict_of
verdict_late (pos n) t_max_lem e h = simp (le-ltb n 0 (omega arith), lt-ltb t_max_lem n h)
verdict_late (negsuc n) t_max_lem e h = absurd (pos-ne-negsuc n n (sym e))

pub verdict_fresh : (z : ℤ) (t_max_lem : ℕ) → z ≡ pos (mag z) → nat_abs z ≤ t_max_lem → verdict_of z t_max_lem ≡ Fresh
unfolding verdict_of
verdict_fresh (pos n) t_max_lem e h = simp (le-ltb n 0 (omega arith), le-ltb t_max_lem n h)
verdict_fresh (negsuc n) t_max_lem e h = absurd (pos-ne-negsuc n n (sym e))

abbrev pub signed_as : ℕ → ℕ → SignMagnitude
signed_as s n = record { sign = s; magnitude = n }

pub sign_as : (z : ℤ) (s m : ℕ) → s ≡ bool_byte (lt_z z (pos 0)) → m ≡ nat_abs z → signed_as s m ≡ sign_magnitude_of z
unfolding sign_magnitude_of
sign_as (pos n) s m e h = ap₂ signed_as (e ∙ ap bool_byte (le-ltb n 0 (omega arith))) h
sign_as (negsuc n) s m e h = ap₂ signed_as e h

abbrev pub offset : ℤ → Offset
offset z = record { 0 = z }

pub read_plus : (s n : ℕ) → s ≡ 0 → n < 2 ^ 31 → (r : Offset) → r.0 ≡ centred (pos n) → Some r ≡ offset_read s n
unfolding offset_read
read_plus s n e h r q = rw e (simp (lt-ltb n (2 ^ 31) h) (ap (λ (z : ℤ). Some (offset z)) (q ∙ centred_small n h)))

pub read_big : (s n : ℕ) → s ≡ 0 → 2 ^ 31 ≤ n → None ≡ offset_read s n
unfolding offset_read
read_big s n e h = rw e (simp (le-ltb n (2 ^ 31) h))

pub read_minus : (s n : ℕ) → s ≡ 1 → 0 < n → n ≤ 2 ^ 31 → (r : Offset) → r.0 ≡ neg_ℤ (pos n) → Some r ≡ offset_read s n
unfolding offset_read
read_minus s n e h k r q = rw e (simp (le-leb 1 n h, le-leb n (2 ^ 31) k) (ap (λ (z : ℤ). Some (offset z)) q))

pub read_zero : (s n : ℕ) → s ≡ 1 → n < 1 → None ≡ offset_read s n
unfolding offset_read
read_zero s n e h = rw e (simp (lt-leb 1 n h))

pub read_over : (s n : ℕ) → s ≡ 1 → 2 ^ 31 < n → None ≡ offset_read s n
unfolding offset_read
read_over s n e h = let k : 1 ≤ n = omega arith in rw e (simp (le-leb 1 n k, lt-leb n (2 ^ 31) h))

pub read_out : (s n : ℕ) → s ≡ 1 → (n < 1) ⊎ (2 ^ 31 < n) → None ≡ offset_read s n
read_out s n e = ⊎_elim (read_zero s n e) (read_over s n e)

pub read_sign : (s n : ℕ) → (s ≡ 0 → ⊥) → (s ≡ 1 → ⊥) → None ≡ offset_read s n
unfolding offset_read
read_sign s n h k = simp (ne_eqb s 0 h, ne_eqb s 1 k)
