-- A step sees of each link the most bytes of a packet from its place, and no more: two pairs of links that agree in these, or end alike, are taken alike.
-- Assumes nothing.
use Prim.Native.Nat.{ℕ}
use mathlib.Core.Path.{◌≡◌, refl, sym, ap, ap₂, ◌∙◌, subst}
use mathlib.Core.Bool.{Bool, true, false, not, ◌&&◌}
use mathlib.Core.List.{List, ◌++◌, append-nil}
use mathlib.Core.Logic.{⊎_elim}
use native.Mathlib.Omega.{arith}
use borrow.Author.Tests.{not-false}
use lib.Dec.{eqb}
use lib.ListN.{take, drop}
use lib.Seq.{take-append-le}
use Rattle.number.specs.Number.{distance_of}
use Rattle.packet_types.specs.Types.{in_class_d}
use Rattle.packet.specs.Packet.{packet_header_at, user_data_at, flag_of, PacketOn}
use Rattle.packet.specs.declared.Header.{Header}
use Rattle.links.specs.declared.State.{State}
use Rattle.links.specs.declared.Taken.{Taken}
use Rattle.packet.specs.Sizes.{most_packet, packet_size}
use Rattle.links.specs.Taken.{down_of, empty_part, dropped, handed_up}
use Rattle.links.specs.Callers.{not_allowed}
use Rattle.links.specs.Table.{length_fault, judgeable, held, both_down, not_opening, not_later, too_far, link_rows, class_d_rows, rows_of, taken_of}
use Rattle.link_promises.specs.Promises.{of_link, seen_from, placeless, Alike, SeesNoMoreThanAPacket, BufferSeenAsFile}
use Rattle.links.proofs.Bools.{both_true, by_rows_alike}
use Rattle.link_promises.proofs.Seen.{same_length, same_header, same_check, same_judgeable, same_data}
use Rattle.link_promises.proofs.Outcome.{packet_on_lem}
use Rattle.link_promises.proofs.Promises.{no_part, data_of_packet}

-- the link looked at, in two pairs of links
module _ (normal redundant normal' redundant' : List ℕ) (link : Bool) (at at' : ℕ) (callers : List ℕ) (ours : ℕ) (state : State)
    (seen : seen_from (of_link link normal redundant) at ≡ seen_from (of_link link normal' redundant') at') where
  abbrev s : List ℕ
  s = of_link link normal redundant

  abbrev s' : List ℕ
  s' = of_link link normal' redundant'

  abbrev R : Taken → Taken → Type 0
  R t t' = Alike normal redundant t normal' redundant' t'

  -- nothing is handed up
  empty : (answer used : ℕ) (named : Bool) (after : State) → (answer ≡ 0 → ⊥) → R (empty_part answer named used after) (empty_part answer named used after)
  empty answer used named after z = record {
    same_taken = refl;
    same_data = no_part normal redundant (empty_part answer named used after) z ∙ sym (no_part normal' redundant' (empty_part answer named used after) z);
  }

  header : packet_header_at s at ≡ packet_header_at s' at'
  header = same_header s at s' at' seen

  drops : (answer : ℕ) → (answer ≡ 0 → ⊥) → R (dropped answer link (packet_header_at s at) state) (dropped answer link (packet_header_at s' at') state)
  drops answer z =
      subst (λ (h : Header). R (dropped answer link h state) (dropped answer link (packet_header_at s' at') state)) (sym header)
      (empty answer (packet_size (packet_header_at s' at').length) link state z)

  class_alike : PacketOn link s at → PacketOn link s' at' → user_data_at s at ≡ user_data_at s' at'
      → R (class_d_rows link at (packet_header_at s at) (user_data_at s at) callers ours state) (class_d_rows link at' (packet_header_at s' at') (user_data_at s' at') callers ours state)
  unfolding class_d_rows
  class_alike p p' d =
      by_rows_alike R _ _ (ap (λ (h : Header). not (in_class_d h.kind)) header) (λ e. drops 305 (λ z. omega arith)) (λ e.
      by_rows_alike R _ _ (ap₂ (λ (h : Header) (u : List ℕ). state.first && not_opening state.responder h u) header d) (λ e. drops 309 (λ z. omega arith)) (λ e.
      by_rows_alike R _ _ (ap (λ (u : List ℕ). state.first && state.responder && not_allowed callers ours u) d) (λ e. drops 310 (λ z. omega arith)) (λ e.
      by_rows_alike R _ _ (ap (λ (h : Header). not state.first && not_later h.kind (distance_of h.number state.last)) header) (λ e. drops 306 (λ z. omega arith)) (λ e.
      by_rows_alike R _ _ (ap (λ (h : Header). not state.first && too_far state.strict (distance_of h.number state.last)) header) (λ e. drops 307 (λ z. omega arith)) (λ e.
      record {
        same_taken = ap (λ (h : Header). placeless (handed_up link 0 h state)) header;
        same_data = data_of_packet normal redundant link at state p ∙ d ∙ sym (data_of_packet normal' redundant' link at' state p');
      })))))

  rows_alike : (found found' : Bool) → found ≡ found' → (found ≡ true → judgeable s at ≡ true) → R (rows_of found link s at callers ours state) (rows_of found' link s' at' callers ours state)
  unfolding link_rows
  rows_alike found found' same there =
      let length = ap length_fault (same_length s at s' at' seen) in
      let check = ap₂ (λ (h : Header) (c : ℕ). not (eqb h.check c)) header (same_check s at s' at' seen) in
      let flag = ap (λ (h : Header). not (eqb h.flag (flag_of link))) header in
      by_rows_alike R (both_down state) (both_down state) refl (λ e. empty 308 0 true state (λ z. omega arith)) (λ e.
      by_rows_alike R (not found) (not found') (ap not same) (λ e. empty 301 0 true state (λ z. omega arith)) (λ e₁.
      by_rows_alike R _ _ length (λ e. empty 302 0 link (down_of link state) (λ z. omega arith)) (λ e₂.
      by_rows_alike R _ _ check (λ e. empty 303 0 link (down_of link state) (λ z. omega arith)) (λ e₃.
      by_rows_alike R _ _ flag (λ e. empty 304 0 link (down_of link state) (λ z. omega arith)) (λ e₄.
      let h = there (not-false found e₁) in
      class_alike (packet_on_lem link s at h e₂ e₃ e₄)
      (packet_on_lem link s' at' (sym (same_judgeable s at s' at' seen) ∙ h) (sym length ∙ e₂) (sym check ∙ e₃) (sym flag ∙ e₄))
      (same_data s at s' at' seen e₂))))))

pub sees_no_more_than_a_packet : SeesNoMoreThanAPacket
unfolding taken_of
sees_no_more_than_a_packet normal normal_at redundant redundant_at normal' normal_at' redundant' redundant_at' callers ours state n r =
    by_rows_alike (λ (t t' : Taken). Alike normal redundant t normal' redundant' t') (held state.normal_up normal normal_at)
    (held state.normal_up normal' normal_at') (ap (λ (b : Bool). state.normal_up && b) (same_judgeable normal normal_at normal' normal_at' n))
    (λ e. rows_alike normal redundant normal' redundant' true normal_at normal_at' callers ours state n true true refl
    (λ _. (both_true state.normal_up (judgeable normal normal_at) e).1))
    (λ e. rows_alike normal redundant normal' redundant' false redundant_at redundant_at' callers ours state r
    (held state.redundant_up redundant redundant_at) (held state.redundant_up redundant' redundant_at')
    (ap (λ (b : Bool). state.redundant_up && b) (same_judgeable redundant redundant_at redundant' redundant_at' r))
    (λ h. (both_true state.redundant_up (judgeable redundant redundant_at) h).1))

pub buffer_seen_as_file : BufferSeenAsFile
buffer_seen_as_file buffer at file file_at rest e =
    ⊎_elim (λ h. sym (ap (take most_packet) e ∙ take-append-le most_packet (drop at buffer) rest h))
    (λ z. ap (take most_packet) (sym (e ∙ ap (λ (l : List ℕ). drop at buffer ++ l) z ∙ append-nil (drop at buffer))))
