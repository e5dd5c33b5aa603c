-- A packet of the sequence at a place of a lent buffer: where the buffer holds, from there, a first part of the packet's bytes and what follows them, the
-- step finds a whole packet exactly if all its bytes are there, and reads it back; it never finds a length fault.
-- Assumes nothing.
use Prim.Native.Nat.{ℕ, zero, suc, ◌+◌, ◌^◌, ◌≤◌, ◌<◌}
use mathlib.Core.Path.{◌≡◌, refl, sym, ap, ◌∙◌, subst}
use mathlib.Core.Bool.{Bool, true, false, and-false}
use mathlib.Core.List.{List, [], ◌∷◌, ◌++◌}
use mathlib.Core.Logic.{◌⊎◌, ⊎_elim}
use native.Mathlib.Omega.{arith}
use borrow.Author.Tests.{le-ltb}
use lib.Dec.{lit<}
use lib.ListN.{length, take, drop, get_or, length-append, length-drop, take-append-drop, get_or-append}
use lib.Seq.{take-append-le, take_at, get_or-drop, length-take-le}
use Rattle.field.specs.Row.{row_of}
use Rattle.field.proofs.Field.{field_same}
use Rattle.packet.specs.Sizes.{packet_header_size, least_length, most_length, most_user_data}
use Rattle.packet.specs.Packet.{packet_widths, flag_of}
use Rattle.packet_types.specs.Types.{data_packet, release_packet, classes_of, in_class_d, opens, not_class_d}
use Rattle.packet_writing.specs.Writing.{checked_of, check_for, write_answer}
use Rattle.packet_writing.proofs.Bytes.{row_length}
use Rattle.packet_writing.proofs.Answers.{all_written}
use Rattle.round_trips.specs.Packet.{ReadsBack}
use Rattle.round_trips.proofs.Packet.{written_reads_back}
use Rattle.links.specs.Table.{length_at, length_fault, judgeable}
use Rattle.links.proofs.Judged.{seen, all_there, whole}
use Rattle.link_promises.proofs.Accepted.{data_or_release}
use Rattle.one_story.specs.Sequence.{Packet, Gateway, Opens, Kinded, Sent, packet_on, SentIsWritten}

-- the packet reads back at a place of some bytes
abbrev pub Stands : Bool → Packet → List ℕ → ℕ → Type 0
Stands normal p s at = ReadsBack normal p.version p.application p.number p.kind p.user_data s at

-- the types of the sequence
pub opening_kind : (gateway : Gateway) (p : Packet) → Opens gateway p → (in_class_d p.kind ≡ true) × (p.kind < 2 ^ 8)
unfolding in_class_d classes_of
opening_kind gateway p o = by gateway.responder refl
  where
    by : (responder : Bool) → gateway.responder ≡ responder → (in_class_d p.kind ≡ true) × (p.kind < 2 ^ 8)
    by true e = rw (o.opening, e) (refl, lit< tt)
    by false e = rw (o.opening, e) (refl, lit< tt)

pub later_kind : (kind : ℕ) → (kind ≡ data_packet) ⊎ (kind ≡ release_packet) → (in_class_d kind ≡ true) × (opens kind ≡ false) × (kind < 2 ^ 8)
later_kind kind k =
    let c = data_or_release kind k in
    (c.0, c.1, ⊎_elim (λ (e : kind ≡ data_packet). omega arith) (λ (e : kind ≡ release_packet). omega arith) k)

kind_right : (gateway : Gateway) (place : ℕ) (p : Packet) → Kinded gateway place p
    → (not_class_d p.number p.kind p.user_data ≡ false) × (in_class_d p.kind ≡ true) × (p.kind < 2 ^ 8)
unfolding not_class_d
kind_right gateway zero p o =
    let c = opening_kind gateway p o in
    (simp (c.0, o.acceptable, and-false (opens p.kind)), c.0, c.1)
kind_right gateway (suc place) p e = let c = later_kind p.kind e in (simp (c.0, c.1), c.0, c.2)

module _ (gateway : Gateway) (place : ℕ) (p : Packet) (g : Sent gateway place p) (normal : Bool) where
  pub class_d_lem : in_class_d p.kind ≡ true
  class_d_lem = (kind_right gateway place p g.kinded).1

  abbrev size : ℕ
  size = packet_header_size + length p.user_data

  -- the peer's writer would not refuse it
  pub not_refused : (room : ℕ) → size ≤ room → write_answer room p.number p.kind p.user_data ≡ 0
  unfolding write_answer
  not_refused room h =
      let c = kind_right gateway place p g.kinded in
      simp (c.0, le-ltb most_user_data (length p.user_data) g.short, le-ltb room size h)

  pub packet_length : length (packet_on normal p) ≡ packet_header_size + length p.user_data
  unfolding packet_on
  packet_length =
      let fields = checked_of normal p.version p.application p.number p.kind p.user_data in
      length-append (row_of packet_widths (fields ++ (check_for fields ∷ []))) p.user_data
      ∙ ap (λ (n : ℕ). n + length p.user_data) (row_length (least_length + length p.user_data) p.version p.application p.number (flag_of normal) p.kind (check_for fields))

  reads : (before after : List ℕ) → Stands normal p (before ++ (packet_on normal p ++ after)) (length before)
  unfolding packet_on
  reads before after =
      written_reads_back size normal p.version p.application p.number p.kind p.user_data before after g.version_fits g.application_fits
      (omega (arith, g.numbered)) (kind_right gateway place p g.kinded).2 (not_refused size (omega arith))

  module _ (s : List ℕ) (at : ℕ) (rest tail : List ℕ) (e : drop at s ++ rest ≡ packet_on normal p ++ tail) where
    length_seen : at + 2 ≤ length s → length_at s at ≡ least_length + length p.user_data
    length_seen h = field_same s (packet_on normal p ++ tail) at 0 2 (λ k l. byte k l) ∙ (reads [] tail).length_of_data
      where
        byte : (k : ℕ) → k < 2 → get_or s (at + k) 0 ≡ get_or (packet_on normal p ++ tail) (0 + k) 0
        byte k l =
            let z : 0 + k ≡ k = omega arith in
            sym (get_or-drop at s k 0)
            ∙ sym (get_or-append (drop at s) rest 0 k (omega (arith, length-drop at s)))
            ∙ ap (λ (b : List ℕ). get_or b k 0) e
            ∙ ap (λ (j : ℕ). get_or (packet_on normal p ++ tail) j 0) (sym z)

    no_fault : at + 2 ≤ length s → length_fault (length_at s at) ≡ false
    unfolding length_fault
    no_fault h =
        let n = length_seen h in
        let short = g.short in
        simp (le-ltb (length_at s at) least_length (omega arith), le-ltb most_length (length_at s at) (omega arith))

    -- all its bytes are there
    pub enough : judgeable s at ≡ true → at + (packet_header_size + length p.user_data) ≤ length s
    enough h =
        let two = seen s at h in
        omega (arith, all_there s at h (no_fault two), length_seen two)

    pub whole_judgeable : at + (packet_header_size + length p.user_data) ≤ length s → judgeable s at ≡ true
    whole_judgeable h =
        let two : at + 2 ≤ length s = omega arith in
        sym (whole s at two (sym (no_fault two)) (omega (arith, length_seen two)))

    -- and it reads back
    pub stands : judgeable s at ≡ true → Stands normal p s at
    stands h =
        let two = seen s at h in
        let all = enough h in
        let more = drop size (drop at s) in
        let front : take size (drop at s) ≡ packet_on normal p =
        sym (take-append-le size (drop at s) rest (omega (arith, length-drop at s))) ∙ ap (take size) e ∙ take_at (packet_on normal p) tail size packet_length in
        let cut : drop at s ≡ packet_on normal p ++ more = sym (take-append-drop size (drop at s)) ∙ ap (λ (l : List ℕ). l ++ more) front in
        let split : take at s ++ (packet_on normal p ++ more) ≡ s = sym (ap (λ (l : List ℕ). take at s ++ l) cut) ∙ take-append-drop at s in
        subst (λ (l : List ℕ). Stands normal p l at) split
        (subst (λ (n : ℕ). Stands normal p (take at s ++ (packet_on normal p ++ more)) n) (length-take-le at s (omega arith)) (reads (take at s) more))

pub sent_is_written : SentIsWritten
unfolding packet_on
sent_is_written gateway place p g room h normal =
    sym (all_written room p.number p.kind p.user_data (not_refused gateway place p g normal room h) normal p.version p.application)
