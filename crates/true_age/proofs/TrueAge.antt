-- The age that receive computes and the true age: the bounds, and what each verdict says.
-- Assumes nothing.
use Prim.Native.Nat.{ℕ, ◌+◌, ◌-◌, ◌^◌, ◌≤◌, ◌<◌}
use mathlib.Core.Path.{◌≡◌}
use mathlib.Core.Bool.{true, false}
use native.Mathlib.Omega.{arith}
use lib.IntN.{ℤ, pos, negsuc, ◌+ℤ◌, ◌-ℤ◌}
use lib.Signed.{mag, lt_z, ◌≤ℤ◌}
use borrow.Author.Tests.{ltb-true, ltb-false}
use Rattle.rules.proofs.Integers.{up, dn, sum_is, less_is, is_le, le_is}
use Rattle.clock.specs.Clock.{centred, age_of, verdict_of}
use Rattle.clock.specs.declared.Verdict.{Verdict}
use Rattle.clock.specs.declared.Verdict.TheVariants.{Future, Late, Fresh}
use Rattle.clock.proofs.Wrapped.{◌≈◌, ≈-refl, ≈-sym, ≈-trans, ≈-sum, ≈-less, wrapped-≈, centred-≈, centred_is}
use Rattle.calls.proofs.Replies.{both}
use Rattle.true_age.specs.Clocks.{World, InBand, count_of, lead}
use Rattle.true_age.specs.Claim.{true_age, Bounds}

within : (z : ℤ) → up z < dn z + 2 ^ 31 → dn z ≤ up z + 2 ^ 31 → mag z < 2 ^ 31
within (pos n) h k = omega arith
within (negsuc n) h k = omega arith

-- our own message was written at one moment and arrived at another; the peer sent the judged one, and we take it
module _ (W : World) (began : W.Moment) (j : ℕ) (e : ℕ) (wrote arrived sent taken : W.Moment) (band : InBand W began taken j) (own-since : W.early began wrote)
    (own_before : W.early wrote taken) (own-onward : W.early wrote arrived) (since : W.early began sent) (onward : W.early sent taken) where
  abbrev d : ℕ
  d = W.peers arrived - W.peers wrote

  abbrev age : ℤ
  age = age_of (count_of (W.ours taken)).0 (count_of (W.peers sent)).0 e (centred (pos (count_of (W.ours wrote)).0 -ℤ pos (count_of (W.peers arrived)).0))

  -- the age, had the counts no end
  unwrapped : ℤ
  unwrapped = pos (W.ours taken) -ℤ pos (W.peers sent) +ℤ pos e -ℤ (pos (W.ours wrote) -ℤ pos (W.peers arrived))

  same_mod : unwrapped ≈ pos (count_of (W.ours taken)).0 -ℤ pos (count_of (W.peers sent)).0 +ℤ pos e
      -ℤ centred (pos (count_of (W.ours wrote)).0 -ℤ pos (count_of (W.peers arrived)).0)
  unfolding unwrapped
  same_mod =
      ≈-sym
      (≈-less (≈-sum (≈-less (wrapped-≈ (pos (W.ours taken))) (wrapped-≈ (pos (W.peers sent)))) (≈-refl (pos e)))
      (≈-trans (centred-≈ (pos (count_of (W.ours wrote)).0 -ℤ pos (count_of (W.peers arrived)).0))
      (≈-less (wrapped-≈ (pos (W.ours wrote))) (wrapped-≈ (pos (W.peers arrived))))))

  parts : up unwrapped + W.peers sent + W.ours wrote ≡ dn unwrapped + W.ours taken + e + W.peers arrived
  unfolding unwrapped
  parts =
      let x : ℤ = pos (W.ours taken) -ℤ pos (W.peers sent) in
      let y : ℤ = pos (W.ours wrote) -ℤ pos (W.peers arrived) in
      omega (
        arith,
        less_is (pos (W.ours taken)) (pos (W.peers sent)),
        less_is (pos (W.ours wrote)) (pos (W.peers arrived)),
        sum_is x (pos e),
        less_is (x +ℤ pos e) y,
      )

  -- the two counts' difference at two moments is the same up to j
  drift : (t u : W.Moment) → W.early began t → W.early t taken → W.early began u → W.early u taken → W.ours t + W.peers u ≤ W.ours u + W.peers t + j
  drift t u ht kt hu ku =
      omega (
        arith,
        le_is (lead W t) (band.floor +ℤ pos j) (band.under t ht kt),
        le_is band.floor (lead W u) (band.over u hu ku),
        less_is (pos (W.ours t)) (pos (W.peers t)),
        less_is (pos (W.ours u)) (pos (W.peers u)),
        sum_is band.floor (pos j),
      )

  low : true_age W sent taken + e + d + dn unwrapped ≤ up unwrapped + j
  low =
      omega (
        arith,
        parts,
        drift wrote sent own-since own_before since onward,
        W.ours_runs sent taken onward,
        W.peers_runs wrote arrived own-onward,
      )

  high : up unwrapped ≤ true_age W sent taken + e + j + d + dn unwrapped
  high =
      omega (
        arith,
        parts,
        drift sent wrote since onward own-since own_before,
        W.ours_runs sent taken onward,
        W.peers_runs wrote arrived own-onward,
      )

  -- below 2^31 the counts' end is not met
  is_unwrapped : true_age W sent taken + e + j + d < 2 ^ 31 → age ≡ unwrapped
  unfolding age_of
  is_unwrapped small = centred_is _ unwrapped same_mod (within unwrapped (omega (arith, low, high, small)) (omega (arith, low, high, small)))

  least_of_lem : (pos (true_age W sent taken) +ℤ pos e -ℤ pos j +ℤ pos d) ≤ℤ unwrapped
  least_of_lem =
      let t : ℤ = pos (true_age W sent taken) in
      is_le (t +ℤ pos e -ℤ pos j +ℤ pos d) unwrapped
      (omega (arith, low, sum_is t (pos e), less_is (t +ℤ pos e) (pos j), sum_is (t +ℤ pos e -ℤ pos j) (pos d)))

  most_of : unwrapped ≤ℤ (pos (true_age W sent taken) +ℤ pos e +ℤ pos j +ℤ pos d)
  most_of =
      let t : ℤ = pos (true_age W sent taken) in
      is_le unwrapped (t +ℤ pos e +ℤ pos j +ℤ pos d)
      (omega (arith, high, sum_is t (pos e), sum_is (t +ℤ pos e) (pos j), sum_is (t +ℤ pos e +ℤ pos j) (pos d)))

  pub age_bounds : true_age W sent taken + e + j + d < 2 ^ 31 → Bounds (true_age W sent taken) e j d age
  age_bounds small = record { least = rw (is_unwrapped small) least_of_lem; most = rw (is_unwrapped small) most_of }

-- ---- what a verdict says of the age

below : (z : ℤ) → lt_z z (pos 0) ≡ true → up z < dn z
below (pos n) e = let h : n < 0 = ltb-true n 0 e in omega arith
below (negsuc n) e = omega arith

above : (t : ℕ) (z : ℤ) → lt_z (pos t) z ≡ true → t + dn z < up z
above t (pos n) e = let h : t < n = ltb-true t n e in omega arith
above t (negsuc n) e = let q : ◌≡◌ {A = ℕ} 0 1 = cc in let x : ⊥ = omega arith in absurd x

not_above : (t : ℕ) (z : ℤ) → lt_z (pos t) z ≡ false → up z ≤ t + dn z
not_above t (pos n) e = let h : n ≤ t = ltb-false t n e in omega arith
not_above t (negsuc n) e = omega arith

fresh_age : (z : ℤ) (t : ℕ) → verdict_of z t ≡ Fresh → up z ≤ t + dn z
unfolding verdict_of
fresh_age z t =
    both (λ (v : Verdict). v ≡ Fresh → up z ≤ t + dn z) (lt_z z (pos 0)) _ _ (λ _ e. let q : ◌≡◌ {A = ℕ} 0 1 = cc in omega arith) (λ _.
    both (λ (v : Verdict). v ≡ Fresh → up z ≤ t + dn z) (lt_z (pos t) z) _ _ (λ _ e. let q : ◌≡◌ {A = ℕ} 0 1 = cc in omega arith) (λ n _. not_above t z n))

late_age : (z : ℤ) (t : ℕ) → verdict_of z t ≡ Late → t + dn z < up z
unfolding verdict_of
late_age z t =
    both (λ (v : Verdict). v ≡ Late → t + dn z < up z) (lt_z z (pos 0)) _ _ (λ _ e. let q : ◌≡◌ {A = ℕ} 0 1 = cc in omega arith) (λ _.
    both (λ (v : Verdict). v ≡ Late → t + dn z < up z) (lt_z (pos t) z) _ _ (λ y _. above t z y) (λ _ e. let q : ◌≡◌ {A = ℕ} 0 1 = cc in omega arith))

future_age : (z : ℤ) (t : ℕ) → verdict_of z t ≡ Future → up z < dn z
unfolding verdict_of
future_age z t =
    both (λ (v : Verdict). v ≡ Future → up z < dn z) (lt_z z (pos 0)) _ _ (λ y _. below z y) (λ _.
    both (λ (v : Verdict). v ≡ Future → up z < dn z) (lt_z (pos t) z) _ _ (λ _ e. let q : ◌≡◌ {A = ℕ} 0 1 = cc in omega arith) (λ _ e. let q : ◌≡◌ {A = ℕ} 0 1 = cc in omega arith))

module _ (the_true_age e j d : ℕ) (age : ℤ) (b : Bounds the_true_age e j d age) (t_max_lem : ℕ) where
  pub fresh_bound : verdict_of age t_max_lem ≡ Fresh → pos the_true_age ≤ℤ (pos t_max_lem -ℤ pos e +ℤ pos j -ℤ pos d)
  fresh_bound v =
      let t : ℤ = pos the_true_age in
      is_le t (pos t_max_lem -ℤ pos e +ℤ pos j -ℤ pos d)
      (omega (
        arith,
        fresh_age age t_max_lem v,
        le_is (t +ℤ pos e -ℤ pos j +ℤ pos d) age b.least,
        sum_is t (pos e),
        less_is (t +ℤ pos e) (pos j),
        sum_is (t +ℤ pos e -ℤ pos j) (pos d),
        less_is (pos t_max_lem) (pos e),
        sum_is (pos t_max_lem -ℤ pos e) (pos j),
        less_is (pos t_max_lem -ℤ pos e +ℤ pos j) (pos d),
      ))

  pub late_bound : verdict_of age t_max_lem ≡ Late → t_max_lem < the_true_age + e + j + d
  late_bound v =
      let t : ℤ = pos the_true_age in
      omega (
        arith,
        late_age age t_max_lem v,
        le_is age (t +ℤ pos e +ℤ pos j +ℤ pos d) b.most,
        sum_is t (pos e),
        sum_is (t +ℤ pos e) (pos j),
        sum_is (t +ℤ pos e +ℤ pos j) (pos d),
      )

  pub future_bound : verdict_of age t_max_lem ≡ Future → the_true_age + e + d < j
  future_bound v =
      let t : ℤ = pos the_true_age in
      omega (
        arith,
        future_age age t_max_lem v,
        le_is (t +ℤ pos e -ℤ pos j +ℤ pos d) age b.least,
        sum_is t (pos e),
        less_is (t +ℤ pos e) (pos j),
        sum_is (t +ℤ pos e -ℤ pos j) (pos d),
      )
