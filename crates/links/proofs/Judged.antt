-- What `judgeable` says of a link's bytes at a place, case by case, and what follows from it.
-- Assumes nothing.
use Prim.Native.Nat.{ℕ, ◌+◌, ◌≤◌}
use mathlib.Core.Path.{◌≡◌, sym}
use mathlib.Core.Bool.{true, false}
use mathlib.Core.List.{List}
use borrow.Author.Tests.{le-leb, leb-true, ltb-false}
use lib.Dec.{leb, ltb}
use lib.ListN.{length}
use Rattle.packet.specs.Sizes.{length_size, least_length, most_length, packet_size}
use Rattle.links.specs.Table.{length_at, length_fault, judgeable}
use Rattle.links.proofs.Bools.{both_true, both_false, other_true}

-- a length that is no fault
pub length_right : (n : ℕ) → length_fault n ≡ false → (least_length ≤ n) × (n ≤ most_length)
unfolding length_fault
length_right n e =
    let b = both_false (ltb n least_length) (ltb most_length n) e in
    (ltb-false n least_length b.0, ltb-false most_length n b.1)

module _ (s : List ℕ) (at : ℕ) where
  -- a whole packet
  pub whole : at + length_size ≤ length s → false ≡ length_fault (length_at s at) → at + packet_size (length_at s at) ≤ length s → true ≡ judgeable s at
  unfolding judgeable
  whole h f k = simp (le-leb _ _ h, sym f, le-leb _ _ k)

  -- the length field is there
  pub seen : judgeable s at ≡ true → at + length_size ≤ length s
  unfolding judgeable
  seen e = leb-true _ _ (both_true (leb (at + length_size) (length s)) _ e).0

  -- the packet is whole where its length is right
  pub all_there : judgeable s at ≡ true → length_fault (length_at s at) ≡ false → at + packet_size (length_at s at) ≤ length s
  unfolding judgeable
  all_there e f =
      leb-true _ _ (other_true (length_fault (length_at s at)) _ (both_true (leb (at + length_size) (length s)) _ e).1 f)
