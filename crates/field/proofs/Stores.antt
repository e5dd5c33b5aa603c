-- Runs of stores: one after another, one more at the end, and one past the run.
-- Assumes nothing.
use Prim.Native.Nat.{ℕ, suc, ◌+◌, ◌<◌, ◌≤◌}
use mathlib.Core.Path.{◌≡◌, refl, ap, ◌∙◌, sym}
use mathlib.Core.List.{List, [], ◌∷◌, ◌++◌}
use native.Mathlib.Omega.{arith}
use native.Mathlib.Nat.{add-zero}
use native.Mathlib.Numerals.{add-one}
use lib.ListN.{length, take, set, get_or}
use lib.Seq.{sets, take-suc, length-take-le, set_comm}

-- to store one run after another is to store both
pub stores_append : (a b l : List ℕ) (i : ℕ) → sets l i (a ++ b) ≡ sets (sets l i a) (i + length a) b
stores_append [] b l i = ap (λ (k : ℕ). sets l k b) (sym (add-zero i))
stores_append (x ∷ a) b l i = stores_append a b (set l i x) (suc i) ∙ ap (λ (k : ℕ). sets (sets (set l i x) (suc i) a) k b) (omega arith)

pub snoc : (vs l : List ℕ) (i v : ℕ) → sets l i (vs ++ (v ∷ [])) ≡ set (sets l i vs) (i + length vs) v
snoc vs l i v = stores_append vs (v ∷ []) l i

-- a store past the run may go before it
pub store_first : (vs l : List ℕ) (i k v : ℕ) → i + length vs ≤ k → set (sets l i vs) k v ≡ sets (set l k v) i vs
store_first [] l i k v h = refl
store_first (a ∷ vs) l i k v h =
    store_first vs (set l i a) (suc i) k v (omega arith)
    ∙ ap (λ (x : List ℕ). sets x (suc i) vs) (set_comm l i k a v (λ e. omega arith))

-- a copy of i bytes of s, with one more
pub copied : (s l : List ℕ) (at i : ℕ) → i < length s → set (sets l at (take i s)) (at + i) (get_or s i 0) ≡ sets l at (take (i + 1) s)
copied s l at i h =
    rw (add-one, take-suc s i 0 h, snoc (take i s) l at (get_or s i 0))
    (ap (λ (k : ℕ). set (sets l at (take i s)) (at + k) (get_or s i 0)) (sym (length-take-le i s (omega arith))))
