-- `field::write` meets its contract: the i bytes of what is left, put into out as it is, give the answer. Assumes nothing.
use Prim.Native.Nat.{ℕ, suc, ◌≤◌, ◌+◌, ◌-◌, ◌/◌, ◌%◌, ◌<◌}
use mathlib.Core.Path.{◌≡◌, refl, ◌∙◌, sym, ap}
use mathlib.Core.List.{List}
use native.Mathlib.Omega.{arith}
use lib.ListN.{length, set, length-set}
use lib.Seq.{sets}
use Rattle.field.specs.Field.{bytes_of}
use Rattle.field.proofs.Stores.{snoc, store_first}
use Rattle.field.proofs.Field.{length_bytes}
use Rattle.field.proofs.write.Goals as goal

-- the last of the i bytes goes in first
last_first : (l : List ℕ) (at k x : ℕ) → sets (set l (at + k) (x % 256)) at (bytes_of k (x / 256)) ≡ sets l at (bytes_of (suc k) x)
unfolding bytes_of
last_first l at k x =
    sym (snoc (bytes_of k (x / 256)) l at (x % 256)
    ∙ ap (λ (n : ℕ). set (sets l at (bytes_of k (x / 256))) (at + n) (x % 256)) (length_bytes k (x / 256))
    ∙ store_first (bytes_of k (x / 256)) l at (at + k) (x % 256) (omega (arith, length_bytes k (x / 256))))

less : (l : List ℕ) (at i x : ℕ) → 0 < i → sets (set l (at + (i - 1)) (x % 256)) at (bytes_of (i - 1) (x / 256)) ≡ sets l at (bytes_of i x)
less l at i x h = last_first l at (i - 1) x ∙ ap (λ (n : ℕ). sets l at (bytes_of n x)) (omega arith)

none : (l : List ℕ) (at i x : ℕ) → i ≤ 0 → sets l at (bytes_of i x) ≡ l
unfolding bytes_of
none l at i x h = ap (λ (n : ℕ). sets l at (bytes_of n x)) (let e : i ≡ 0 = omega arith in e)

pub loop-i-preserved : goal.loop-i-preserved
loop-i-preserved c =
    let l = c.loop-i in
    less l.out c.args.at l.i l.left (omega arith) ∙ l.invariant

pub returns : goal.returns
returns c = let l = c.loop-i in sym (none l.out c.args.at l.i l.left (omega arith)) ∙ l.invariant
