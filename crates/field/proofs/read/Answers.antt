-- `field::read` meets its contract: after i bytes r is their number, below 256 ^ i. Assumes nothing.
use Prim.Native.Nat.{ℕ, ◌≤◌, ◌<◌, ◌+◌, ◌-◌, ◌*◌, ◌^◌}
use mathlib.Core.Path.{◌≡◌, ap, ◌∙◌}
use mathlib.Core.List.{List}
use lib.ListN.{length, take, drop, get_or, length-drop}
use lib.Seq.{length-take-le, get_or-take, get_or-drop}
use lib.Dec.{lit<}
use lib.Arith.{digits_lt}
use native.Mathlib.Omega.{arith}
use native.Mathlib.Numerals.{add-one}
use native.Mathlib.Nat.{pow-le-pow_right, pow-suc}
use borrow.Author.Rules.{rules}
use Rattle.field.specs.Field.{field_of}
use Rattle.field.proofs.read.Goals as goal

low : (i w : ℕ) → i < w → w ≤ 4 → 256 ^ i ≤ 16777216
low i w h k = pow-le-pow_right (lit< tt) (let h3 : i ≤ 3 = omega arith in h3)

more : (s : List ℕ) (at i r b : ℕ) → r ≡ field_of s at i → r < 256 ^ i → get_or s (at + i) 0 < 256 → b ≡ get_or s (at + i) 0
    → (r * 256 + b ≡ field_of s at (i + 1)) × (r * 256 + b < 256 ^ (i + 1))
unfolding field_of
more s at i r b e h k q = rw (q, add-one, pow-suc) (ap (λ (x : ℕ). x * 256 + get_or s (at + i) 0) e, digits_lt h k)

-- the part of s that the loop goes over
byte_in : (s : List ℕ) (at w i : ℕ) → i < length (take (at + w - at) (drop at s)) → at + w ≤ length s
    → (i < w) × (get_or (take (at + w - at) (drop at s)) i 0 ≡ get_or s (at + i) 0)
byte_in s at w i h k =
    let l : i < w = omega (arith, length-take-le (at + w - at) (drop at s) (omega (arith, length-drop at s))) in
    (l, get_or-take (at + w - at) (drop at s) i 0 (omega arith) ∙ get_or-drop at s i 0)

pub loop-byte-init : goal.loop-byte-init
unfolding field_of
loop-byte-init c = search rules

pub overflow_mul-r : goal.overflow_mul-r
overflow_mul-r c =
    let i = c.loop-byte.byte-index in
    let b = byte_in c.args.s.now c.args.at c.args.w i c.loop-byte-test.true c.requires.1 in
    omega (arith, low i c.args.w b.0 c.requires.0)

pub overflow_add-r : goal.overflow_add-r
overflow_add-r c =
    let i = c.loop-byte.byte-index in
    let b = byte_in c.args.s.now c.args.at c.args.w i c.loop-byte-test.true c.requires.1 in
    omega (arith, c.from.ensures, b.1, c.type_inv.s (c.args.at + i), low i c.args.w b.0 c.requires.0)

pub loop-byte-preserved : goal.loop-byte-preserved
loop-byte-preserved c =
    let a = c.args in
    let l = c.loop-byte in
    let b = byte_in a.s.now a.at a.w l.byte-index c.loop-byte-test.true c.requires.1 in
    more a.s.now a.at l.byte-index l.r c.from.result l.invariant.0 l.invariant.1
    (omega (arith, c.type_inv.s (a.at + l.byte-index))) (c.from.ensures ∙ b.1)
