-- What a step sees of a link: where two links' bytes agree in the most bytes of a packet from their places, all that is judged there agrees.
-- Assumes nothing.
use Prim.Native.Nat.{ℕ, ◌+◌, ◌-◌, ◌≤◌, ◌<◌, min}
use mathlib.Core.Path.{◌≡◌, refl, sym, ap, ap₂, ◌∙◌}
use mathlib.Core.Bool.{Bool, true, false, ◌&&◌, ◌||◌}
use mathlib.Core.List.{List}
use native.Mathlib.Omega.{arith}
use lib.Dec.{leb}
use lib.ListN.{length, take, drop, get_or, length-take, length-drop}
use lib.Seq.{get_or-take, get_or-drop, take-take, drop-drop}
use Rattle.std.proofs.lemmas.Bool.Decides.{nat_tests}
use Rattle.std.proofs.lemmas.List.{drop-take}
use Rattle.field.specs.Field.{field_of}
use Rattle.field.proofs.Field.{field_same}
use Rattle.packet.specs.Sizes.{length_size, packet_header_size, least_length, most_packet, checked_bytes}
use Rattle.packet.specs.Check.{check_of}
use Rattle.packet.specs.Packet.{packet_header_at, check_at, user_data_at}
use Rattle.links.specs.Table.{length_at, length_fault, judgeable}
use Rattle.link_promises.specs.Promises.{seen_from}
use Rattle.links.proofs.Judged.{length_right}

-- one byte, and whether so many bytes are there, by what is seen
byte_seen : (s : List ℕ) (at i : ℕ) → i < most_packet → get_or (seen_from s at) i 0 ≡ get_or s (at + i) 0
byte_seen s at i h = get_or-take most_packet (drop at s) i 0 h ∙ get_or-drop at s i 0

room_seen : (s : List ℕ) (at k : ℕ) → 0 < k → k ≤ most_packet → leb (at + k) (length s) ≡ leb k (length (seen_from s at))
room_seen s at k p h =
    let size : length (seen_from s at) ≡ min most_packet (length s - at) = length-take most_packet (drop at s) ∙ ap (min most_packet) (length-drop at s) in
    room (length s) (length (seen_from s at)) size
  where
    room : (all seen : ℕ) → seen ≡ min most_packet (all - at) → leb (at + k) all ≡ leb k seen
    room all seen e = grind (arith, nat_tests)

part_seen : (s : List ℕ) (at k n : ℕ) → k + n ≤ most_packet → take n (drop k (seen_from s at)) ≡ take n (drop (at + k) s)
part_seen s at k n h =
    let most : most_packet ≡ k + (most_packet - k) = omega arith in
    ap (λ (m : ℕ). take n (drop k (take m (drop at s)))) most
    ∙ ap (take n) (drop-take k (most_packet - k) (drop at s))
    ∙ take-take n (most_packet - k) (drop k (drop at s)) (omega arith)
    ∙ ap (take n) (drop-drop k at s)

module _ (s : List ℕ) (at : ℕ) (s' : List ℕ) (at' : ℕ) (seen : seen_from s at ≡ seen_from s' at') where
  same_byte : (i : ℕ) → i < most_packet → get_or s (at + i) 0 ≡ get_or s' (at' + i) 0
  same_byte i h = sym (byte_seen s at i h) ∙ ap (λ (l : List ℕ). get_or l i 0) seen ∙ byte_seen s' at' i h

  same_room : (k : ℕ) → 0 < k → k ≤ most_packet → leb (at + k) (length s) ≡ leb (at' + k) (length s')
  same_room k p h = room_seen s at k p h ∙ ap (λ (l : List ℕ). leb k (length l)) seen ∙ sym (room_seen s' at' k p h)

  same_part : (k n : ℕ) → k + n ≤ most_packet → take n (drop (at + k) s) ≡ take n (drop (at' + k) s')
  same_part k n h = sym (part_seen s at k n h) ∙ ap (λ (l : List ℕ). take n (drop k l)) seen ∙ part_seen s' at' k n h

  same_field : (k w : ℕ) → k + w ≤ most_packet → field_of s (at + k) w ≡ field_of s' (at' + k) w
  same_field k w h = field_same s s' (at + k) (at' + k) w (λ i l. bytes i l)
    where
      bytes : (i : ℕ) → i < w → get_or s (at + k + i) 0 ≡ get_or s' (at' + k + i) 0
      bytes i l =
          let e : at + k + i ≡ at + (k + i) = omega arith in
          let e' : at' + k + i ≡ at' + (k + i) = omega arith in
          ap (λ (j : ℕ). get_or s j 0) e ∙ same_byte (k + i) (omega arith) ∙ ap (λ (j : ℕ). get_or s' j 0) (sym e')

  pub same_length : length_at s at ≡ length_at s' at'
  same_length = field_same s s' at at' length_size (λ i l. same_byte i (omega arith))

  pub same_header : packet_header_at s at ≡ packet_header_at s' at'
  same_header =
      let length = same_length in
      let version = same_field 2 1 (omega arith) in
      let application = same_field 3 1 (omega arith) in
      let number = same_field 4 2 (omega arith) in
      let flag = same_field 6 1 (omega arith) in
      let kind = same_field 7 1 (omega arith) in
      let check = same_field 8 2 (omega arith) in
      cc

  pub same_check : check_at s at ≡ check_at s' at'
  same_check =
      ap check_of (sym (take-take checked_bytes most_packet (drop at s) (omega arith)) ∙ ap (take checked_bytes) seen ∙ take-take checked_bytes most_packet (drop at' s') (omega arith))

  pub same_judgeable : judgeable s at ≡ judgeable s' at'
  unfolding judgeable
  same_judgeable =
      ap₂ (λ (a b : Bool). a && b) (same_room length_size (omega arith) (omega arith)) (by_length (length_fault (length_at s at)) refl)
    where
      by_length : (fault : Bool) → length_fault (length_at s at) ≡ fault
          → (length_fault (length_at s at) || leb (at + (length_at s at + length_size)) (length s))
          ≡ (length_fault (length_at s' at') || leb (at' + (length_at s' at' + length_size)) (length s'))
      by_length true e = simp (sym same_length, e)
      by_length false e =
          let most = (length_right (length_at s at) e).1 in
          simp (sym same_length, e) (same_room (length_at s at + length_size) (omega arith) (omega arith))

  -- the user data too, where the length is right
  pub same_data : length_fault (length_at s at) ≡ false → user_data_at s at ≡ user_data_at s' at'
  same_data e =
      let right = length_right (length_at s at) e in
      same_part packet_header_size (length_at s at - least_length) (omega arith)
      ∙ ap (λ (n : ℕ). take (n - least_length) (drop (at' + packet_header_size) s')) same_length
