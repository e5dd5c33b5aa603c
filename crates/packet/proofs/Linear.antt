-- Linear functions, which pass through exclusive or: two that agree at the powers of two below 2 ^ n agree at every number below it.
-- Assumes nothing.
use mathlib.Core.Path.{◌≡◌, refl, sym, ap, ap₂, ◌∙◌}
use mathlib.Core.List.{List, [], ◌∷◌}
use mathlib.Core.Logic.{⊎_elim}
use Prim.Native.Nat.{ℕ, zero, suc, ◌+◌, ◌-◌, ◌*◌, ◌/◌, ◌%◌, ◌^◌, ◌≤◌, ◌<◌}
use native.Mathlib.Nat.{add-zero, pow-suc, eq-zero-or-pos}
use native.Mathlib.Omega.{arith}
use lib.Arith.{lt-one}
use lib.ListN.{get_or, drop}
use lib.Bits.{bit_xor, xor_self, xor_mod, xor_shr, xor_block, xor_shifted}
use lib.Pow.{pow_pos}
use Rattle.packet.proofs.Xor.{xor_four}

abbrev pub Linear : (ℕ → ℕ) → Type 0
Linear f = (a b : ℕ) → f (bit_xor a b) ≡ bit_xor (f a) (f b)

pub linear_same : Linear (λ x. x)
linear_same a b = refl

pub linear_xor : (f g : ℕ → ℕ) → Linear f → Linear g → Linear (λ x. bit_xor (f x) (g x))
linear_xor f g p q a b = ap₂ bit_xor (p a b) (q a b) ∙ xor_four (f a) (f b) (g a) (g b)

pub linear_after : (f g : ℕ → ℕ) → Linear f → Linear g → Linear (λ x. f (g x))
linear_after f g p q a b = ap f (q a b) ∙ p (g a) (g b)

-- the machine's shifts, at w bits, and the lowest bits
pub linear_right : (k : ℕ) → Linear (λ x. x / 2 ^ k)
linear_right k a b = xor_shr a b k

pub linear_left : (w k : ℕ) → Linear (λ x. (x * 2 ^ k) % 2 ^ w)
linear_left w k a b = ap (λ (x : ℕ). x % 2 ^ w) (up a b k) ∙ xor_mod (a * 2 ^ k) (b * 2 ^ k) w
  where
    up : (a b k : ℕ) → bit_xor a b * 2 ^ k ≡ bit_xor (a * 2 ^ k) (b * 2 ^ k)
    up a b k =
        sym (ap₂ bit_xor (sym (add-zero (a * 2 ^ k))) (sym (add-zero (b * 2 ^ k)))
        ∙ xor_block k a b 0 0 (pow_pos k) (pow_pos k)
        ∙ add-zero (bit_xor a b * 2 ^ k))

pub linear_lowest : (k : ℕ) → Linear (λ x. x % 2 ^ k)
linear_lowest k a b = xor_mod a b k

-- what a function gives at the powers of two below 2 ^ n, the highest first
abbrev pub at_powers : (ℕ → ℕ) → ℕ → List ℕ
at_powers f zero = []
at_powers f (suc n) = f (2 ^ n) ∷ at_powers f n

module _ (f g : ℕ → ℕ) (p : Linear f) (q : Linear g) where
  at_zero : f 0 ≡ g 0
  at_zero = p 0 0 ∙ xor_self (f 0) ∙ sym (q 0 0 ∙ xor_self (g 0))

  -- a number without its highest bit
  without : (n w : ℕ) → 2 ^ n ≤ w → w - 2 ^ n < 2 ^ n → w ≡ bit_xor (2 ^ n) (w - 2 ^ n)
  without n w s l =
      let one : 1 * 2 ^ n ≡ 2 ^ n = omega arith in
      let e : 1 * 2 ^ n + (w - 2 ^ n) ≡ w = omega arith in
      sym (ap (λ (x : ℕ). bit_xor x (w - 2 ^ n)) (sym one) ∙ xor_shifted 1 n (w - 2 ^ n) l ∙ e)

  pub agree : (n : ℕ) → at_powers f n ≡ at_powers g n → (w : ℕ) → w < 2 ^ n → f w ≡ g w
  agree zero e w l = ap f (lt-one l) ∙ at_zero ∙ sym (ap g (lt-one l))
  agree (suc n) e w l =
      let rest = agree n (ap (drop 1) e) in
      ⊎_elim
      (λ (z : 2 ^ n - w ≡ 0).
      let s : 2 ^ n ≤ w = omega arith in
      let big : w < 2 ^ n * 2 = rw pow-suc at l in
      let small : w - 2 ^ n < 2 ^ n = omega arith in
      let parts : w ≡ bit_xor (2 ^ n) (w - 2 ^ n) = without n w s small in
      ap f parts ∙ p (2 ^ n) (w - 2 ^ n) ∙ ap₂ bit_xor (ap (λ (xs : List ℕ). get_or xs 0 0) e) (rest (w - 2 ^ n) small)
      ∙ sym (ap g parts ∙ q (2 ^ n) (w - 2 ^ n)))
      (λ (s : 0 < 2 ^ n - w). rest w (omega arith))
      (eq-zero-or-pos (2 ^ n - w))
