-- PKT-CHECK: the register of the check, as a loop that counts up to m has it: one more byte, and none left.
-- Assumes nothing.
use mathlib.Core.Path.{◌≡◌, sym, ap, ap₂, ◌∙◌}
use Prim.Native.Nat.{ℕ, suc, ◌+◌, ◌-◌, ◌≤◌, ◌<◌}
use native.Mathlib.Nat.{add-zero, sub-zero}
use native.Mathlib.Omega.{arith}
use mathlib.Core.List.{List, ◌∷◌}
use lib.ListN.{length, take, drop, get_or}
use lib.Seq.{drop-cons}
use Rattle.packet.specs.Check.{byte_in, bytes_in, all_ones, check_of}
use Rattle.packet.proofs.Register.{one_less, none_left}

-- of the m bytes from `at` on k are in: those that are left, put into the register as it is, give the check
abbrev pub ChecksOn : List ℕ → ℕ → ℕ → ℕ → ℕ → Type 0
ChecksOn s at m r k = (k ≤ m) × (bytes_in r (take (m - k) (drop (at + k) s)) ≡ check_of (take m (drop at s)))

pub checks_first : (s : List ℕ) (at m : ℕ) → ChecksOn s at m all_ones 0
checks_first s at m = (omega arith, ap₂ (λ (n i : ℕ). check_of (take n (drop i s))) (sub-zero m) (add-zero at))

pub checks_next : (s : List ℕ) (at m r k next : ℕ) → k < m → at + m ≤ length s → next ≡ byte_in r (get_or s (at + k) 0)
    → ChecksOn s at m r k → ChecksOn s at m next (k + 1)
unfolding bytes_in
checks_next s at m r k next h l e on =
    (omega arith, ap (λ (x : ℕ). bytes_in x (take (m - (k + 1)) (drop (at + (k + 1)) s))) e ∙ sym more ∙ on.1)
  where
    after : (at k : ℕ) → suc (at + k) ≡ at + (k + 1)
    after at k = omega arith

    more : bytes_in r (take (m - k) (drop (at + k) s)) ≡ bytes_in (byte_in r (get_or s (at + k) 0)) (take (m - (k + 1)) (drop (at + (k + 1)) s))
    more =
        ap₂ (λ (n : ℕ) (x : List ℕ). bytes_in r (take n x)) (one_less m k h)
        (drop-cons s (at + k) 0 (omega arith) ∙ ap (λ (n : ℕ). get_or s (at + k) 0 ∷ drop n s) (after at k))

pub checks_last : (s : List ℕ) (at m r k : ℕ) → m ≤ k → ChecksOn s at m r k → r ≡ check_of (take m (drop at s))
unfolding bytes_in
checks_last s at m r k h on = sym (ap (λ (n : ℕ). bytes_in r (take n (drop (at + k) s))) (none_left m k h)) ∙ on.1
