-- With the loose setting any d from 1 on that does not lie behind is handed up; and what is handed up, written back from its fields, gives the same bytes.
-- Assumes nothing.
use Prim.Native.Nat.{ℕ, ◌+◌, ◌-◌, ◌≤◌, ◌<◌}
use mathlib.Core.Path.{◌≡◌, refl, sym, ap, ◌∙◌, subst}
use mathlib.Core.Bool.{Bool, true, false, not, ◌&&◌, ◌||◌, and-false}
use mathlib.Core.List.{List}
use mathlib.Core.Logic.{◌⊎◌, ⊎_elim}
use native.Mathlib.Omega.{arith}
use borrow.Author.Tests.{le-ltb, lt-leb, ne_eqb, not-true}
use lib.Dec.{eqb, leb}
use lib.ListN.{length, take, drop, length-drop}
use lib.Seq.{length-take-le}
use Rattle.number.specs.Number.{distance_of, behind_from}
use Rattle.field.specs.Row.{Bytes}
use Rattle.packet.specs.Sizes.{length_size, packet_header_size, least_length, most_length, most_user_data}
use Rattle.packet_types.specs.Types.{data_packet, release_packet, classes_of, in_class_d, opens, opening_fault}
use Rattle.packet.specs.Packet.{packet_header_at, user_data_at, PacketOn}
use Rattle.packet_types.specs.Types.{not_class_d}
use Rattle.packet_writing.specs.Writing.{write_answer, packet_written, bytes_written}
use Rattle.packet.specs.declared.Header.{Header}
use Rattle.packet_writing.specs.declared.Written.{Written}
use Rattle.round_trips.proofs.Packet.{read_writes_back}
use Rattle.packet_writing.proofs.Answers.{all_written, says_all}
use Rattle.links.specs.declared.State.{State}
use Rattle.links.specs.declared.Taken.{Taken}
use Rattle.links.specs.Taken.{handed_up}
use Rattle.links.specs.Table.{length_at, length_fault, judgeable, held, both_down, opening_of, not_opening, not_later, too_far, class_d_rows, rows_of, taken_of, user_data_of}
use Rattle.link_promises.specs.Promises.{of_link, looks_at, LooseHandsUp, AcceptedWritesBack}
use Rattle.links.proofs.Bools.{both_true, both_false}
use Rattle.links.proofs.ClassRows.{row_later}
use Rattle.links.proofs.LinkRows.{row_class}
use Rattle.links.proofs.Step.{normal_up, redundant_up, at_normal, at_redundant}
use Rattle.link_promises.proofs.Outcome.{Accepted, by_step}
use Rattle.link_promises.proofs.Promises.{data_of_packet}

-- a packet that stands on a link has no length fault
pub right_length : (link : Bool) (s : List ℕ) (at : ℕ) → PacketOn link s at → length_fault (length_at s at) ≡ false
unfolding length_fault
right_length link s at p = simp (le-ltb (length_at s at) least_length p.least, le-ltb most_length (length_at s at) p.most)

-- ---- the loose setting

-- data and release are in class D and open nothing
pub data_or_release : (kind : ℕ) → (kind ≡ data_packet) ⊎ (kind ≡ release_packet) → (in_class_d kind ≡ true) × (opens kind ≡ false)
unfolding in_class_d classes_of opens
data_or_release kind =
    ⊎_elim (λ e. subst (λ (k : ℕ). (in_class_d k ≡ true) × (opens k ≡ false)) (sym e) (refl, refl))
    (λ e. subst (λ (k : ℕ). (in_class_d k ≡ true) × (opens k ≡ false)) (sym e) (refl, refl))

pub in_time : (kind d : ℕ) → opens kind ≡ false → 1 ≤ d → d < behind_from → not_later kind d ≡ false
unfolding not_later
in_time kind d o l h = simp (o, ne_eqb d 0 (λ (z : d ≡ 0). omega arith), lt-leb behind_from d h)

pub never_too_far : (strict : Bool) (d : ℕ) → strict ≡ false → too_far strict d ≡ false
unfolding too_far
never_too_far strict d e = simp e

-- the rows of the link looked at
module _ (link : Bool) (s : List ℕ) (at : ℕ) (callers : List ℕ) (ours : ℕ) (state : State) (p : PacketOn link s at) (k : ((packet_header_at s at).kind ≡ data_packet) ⊎ ((packet_header_at s at).kind ≡ release_packet))
    (f : state.first ≡ false) (loose : state.strict ≡ false)
    (l : 1 ≤ distance_of (packet_header_at s at).number state.last) (h : distance_of (packet_header_at s at).number state.last < behind_from) where
  loose_row : both_down state ≡ false → handed_up link at (packet_header_at s at) state ≡ rows_of true link s at callers ours state
  loose_row b =
      let d = distance_of (packet_header_at s at).number state.last in
      let c = data_or_release (packet_header_at s at).kind k in
      row_later link at (packet_header_at s at) (user_data_at s at) callers ours state c.0 f d refl (in_time (packet_header_at s at).kind d c.1 l h) (never_too_far state.strict d loose)
      ∙ row_class link s at state (class_d_rows link at (packet_header_at s at) (user_data_at s at) callers ours state) b (right_length link s at p) p.right p.flagged

module _ (normal : List ℕ) (normal_at : ℕ) (redundant : List ℕ) (redundant_at : ℕ) (callers : List ℕ) (ours : ℕ) (state : State) where
  -- what the rows of the link looked at give, the step takes
  pub looked_at : (link : Bool) (t : Taken) → looks_at normal normal_at redundant redundant_at callers ours state link ≡ true
      → (both_down state ≡ false → t ≡ rows_of true link (of_link link normal redundant) (of_link link normal_at redundant_at) callers ours state)
      → taken_of normal normal_at redundant redundant_at callers ours state ≡ t
  looked_at true t looks rows =
      sym
      (rows (normal_up state (both_true state.normal_up (judgeable normal normal_at) looks).0)
      ∙ at_normal normal normal_at redundant redundant_at callers ours state looks)
  looked_at false t looks rows =
      let b = both_true (not (held state.normal_up normal normal_at)) (held state.redundant_up redundant redundant_at) looks in
      sym
      (rows (redundant_up state (both_true state.redundant_up (judgeable redundant redundant_at) b.1).0)
      ∙ at_redundant normal normal_at redundant redundant_at callers ours state (not-true (held state.normal_up normal normal_at) b.0) b.1)

  pub loose_hands_up : LooseHandsUp normal normal_at redundant redundant_at callers ours state
  loose_hands_up link looks p k f loose l h =
      let s = of_link link normal redundant in
      let at = of_link link normal_at redundant_at in
      looked_at link (handed_up link at (packet_header_at s at) state) looks (loose_row link s at callers ours state p k f loose l h)

-- ---- written back

-- what the tests of a first packet and of a later one leave
no_opening_fault : (responder : Bool) (header : Header) (user_data : List ℕ) → not_opening responder header user_data ≡ false
    → opening_fault header.kind header.number user_data ≡ false
unfolding not_opening
no_opening_fault responder header user_data e =
    (both_false (not (eqb header.kind (opening_of responder))) (opening_fault header.kind header.number user_data) e).1

opens_nothing : (kind d : ℕ) → not_later kind d ≡ false → opens kind ≡ false
unfolding not_later
opens_nothing kind d e = (both_false (opens kind) (eqb d 0) (both_false (opens kind || eqb d 0) (leb behind_from d) e).0).0

-- a packet that is handed up is not refused when it is written: an AU1 or AU2 is handed up only as a first packet, and then has no opening fault
module _ (link : Bool) (s : List ℕ) (at : ℕ) (callers : List ℕ) (ours : ℕ) (state : State) (c : Accepted link s at callers ours state) where
  abbrev h : Header
  h = packet_header_at s at

  of_class_d : not_class_d h.number h.kind (user_data_at s at) ≡ false
  unfolding not_class_d
  of_class_d = by_first state.first refl
    where
      by_first : (first : Bool) → state.first ≡ first → (not (in_class_d h.kind) || (opens h.kind && opening_fault h.kind h.number (user_data_at s at))) ≡ false
      by_first true e = simp (c.of_class_d, no_opening_fault state.responder h (user_data_at s at) (c.opening e), and-false (opens h.kind))
      by_first false e = simp (c.of_class_d, opens_nothing h.kind (distance_of h.number state.last) (c.later e))

  data_length : length (user_data_at s at) ≡ h.length - least_length
  data_length =
      length-take-le (h.length - least_length) (drop (at + packet_header_size) s)
      (omega (arith, length-drop (at + packet_header_size) s, c.stands.whole, c.stands.least))

  not_refused : (room : ℕ) → h.length + length_size ≤ room → write_answer room h.number h.kind (user_data_at s at) ≡ 0
  unfolding write_answer
  not_refused room r =
      let short : length (user_data_at s at) ≤ most_user_data = omega (arith, data_length, c.stands.most) in
      let enough : packet_header_size + length (user_data_at s at) ≤ room = omega (arith, data_length, c.stands.least) in
      simp (of_class_d, le-ltb most_user_data (length (user_data_at s at)) short, le-ltb room (packet_header_size + length (user_data_at s at)) enough)

  written_back : (room : ℕ) → Bytes s → h.length + length_size ≤ room
      → (packet_written room h.number h.kind (user_data_at s at) ≡ record { answer = 0; written = h.length + length_size })
      × (bytes_written room link h.version h.application h.number h.kind (user_data_at s at) ≡ take (h.length + length_size) (drop at s))
  written_back room b r =
      let z = not_refused room r in
      let n : packet_header_size + length (user_data_at s at) ≡ h.length + length_size = omega (arith, data_length, c.stands.least) in (
        sym (says_all room h.number h.kind (user_data_at s at) z) ∙ ap (λ (k : ℕ). wrote k) n,
        sym (all_written room h.number h.kind (user_data_at s at) z link h.version h.application) ∙ read_writes_back link s at b c.stands,
      )
    where
      wrote : ℕ → Written
      wrote k = record { answer = 0; written = k }

module _ (normal : List ℕ) (normal_at : ℕ) (redundant : List ℕ) (redundant_at : ℕ) (callers : List ℕ) (ours : ℕ) (state : State) where
  pub accepted_writes_back : AcceptedWritesBack normal normal_at redundant redundant_at callers ours state
  accepted_writes_back room =
      by_step normal normal_at redundant redundant_at callers ours state
      (λ (t : Taken).
      t.answer ≡ 0 → Bytes (of_link t.normal normal redundant) → t.used ≤ room
      → (packet_written room t.number t.kind (user_data_of normal redundant t) ≡ record { answer = 0; written = t.used })
      × (bytes_written room t.normal t.version t.application t.number t.kind (user_data_of normal redundant t)
      ≡ take t.used (drop (of_link t.normal normal_at redundant_at) (of_link t.normal normal redundant))))
      (λ a m o z b r. let f : ⊥ = ⊎_elim (λ e. omega arith) (λ e. omega arith) o in absurd f)
      (λ link a m l h z b r. let f : ⊥ = omega arith in absurd f)
      (λ link a m g p z b r. let f : ⊥ = omega arith in absurd f)
      (λ link c z b r.
      rw (data_of_packet normal redundant link (of_link link normal_at redundant_at) state c.stands)
      (written_back link (of_link link normal redundant) (of_link link normal_at redundant_at) callers ours state c room b r))
