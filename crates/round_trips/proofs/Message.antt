-- The round trips of DEMAND-2, for every type of message: what is written reads back as the same fields, and what is accepted writes back
-- as the same bytes. Assumes nothing.
use Prim.Native.Nat.{ℕ, ◌+◌, ◌-◌, ◌<◌, ◌≤◌, ◌^◌}
use Rattle.std.proofs.lemmas.Bool.{and_parts}
use mathlib.Core.Path.{◌≡◌, refl, ap, ap₂, ◌∙◌, sym, subst}
use mathlib.Core.Bool.{true, false}
use mathlib.Core.List.{List, [], ◌∷◌, ◌++◌}
use native.Mathlib.Omega.{arith}
use borrow.Author.Tests.{eqb-true, eq-eqb, leb-true}
use lib.Dec.{eqb, leb}
use lib.ListN.{length, take, drop, length-drop, take-append-drop}
use lib.Seq.{sets, sets-eq}
use lib.Signed.{mag}
use lib.IntN.{ℤ, pos, negsuc}
use Rattle.clock.specs.Clock.{sign_magnitude_of, offset_read}
use Rattle.clock.specs.declared.Offset.{Offset}
use Rattle.clock.specs.declared.SignMagnitude.{SignMagnitude}
use Rattle.clock.proofs.RoundTrip.{offset_there, offset_back}
use Rattle.field.specs.Field.{field_of, bytes_of}
use Rattle.field.specs.Row.{fields_of, row_of, width_of, FitsRow, Bytes}
use Rattle.field.proofs.Row.{fields_of_row, row_of_fields}
use Rattle.message.specs.Table.{offset_start, offset_answ1, offset_answ2, offset_est, offset_end, application}
use Rattle.message.specs.Table.{header_size, start_size, est_size, end_size, max_at, table_of, lists, total_of}
use Rattle.message.specs.Layout.{header_widths, header_fields, header_from, widths_of, after_fields}
use Rattle.message.specs.Layout.{period_tail, empty_tail, check_tail, data_tail, offsets_tail, offsets_from, tail_from}
use Rattle.message.specs.Read.{message_header_of, offset_pair_at, tail_of, data_of, later_stamp, check_over, whole_of, parsed_of}
use Rattle.message.specs.declared.Header.{Header}
use Rattle.message.specs.declared.Tail.{Tail}
use Rattle.std.proofs.Common.{Option, Some, None}
use Rattle.message.specs.Layout.{whole}
use Rattle.message.specs.declared.After.{After}
use Rattle.message.specs.declared.After.TheVariants.{Period, Nothing, Offsets, Check, Data}
use Rattle.message.proofs.Rows.{fields_within, total_there}
use Rattle.message.proofs.Steps.{parsed_listed}
use Rattle.message.proofs.Accepted.{accepted}
use Rattle.message_writing.specs.Writing.{header_bytes, data_in, after_bytes, message_bytes, lent_as_said, allowed_of, writes, message_written}
use Rattle.message_writing.proofs.Sizes.{rest_there}
use Rattle.message_writing.proofs.Steps.{allowed_parts, parts_allowed, size_is_total}
use Rattle.round_trips.specs.Message.{Ranges, only_of, Allowed}

-- ---- the size written is the total of the type's row
pub totals : (h : Header) (t : Tail) (lent : List ℕ)
    → (h.kind ≡ offset_start → length (message_bytes h t lent) ≡ start_size)
    × (h.kind ≡ offset_answ1 → length (message_bytes h t lent) ≡ start_size)
    × (h.kind ≡ offset_answ2 → length (message_bytes h t lent) ≡ header_size)
    × (h.kind ≡ offset_est → length (message_bytes h t lent) ≡ est_size)
    × (h.kind ≡ offset_end → length (message_bytes h t lent) ≡ end_size)
    × (h.kind ≡ application → length (message_bytes h t lent) ≡ header_size + length lent)
unfolding table_of bytes_of
totals h t lent = (λ e. rw e, λ e. rw e, λ e. rw e, λ e. rw e, λ e. rw e, λ e. rw e (omega arith))

-- ---- written reads back
-- a sign and magnitude fit their fields
pair_fits : (z : ℤ) → mag z < 2 ^ 31 → ((sign_magnitude_of z).sign < 256) × ((sign_magnitude_of z).magnitude < 2 ^ 32)
unfolding sign_magnitude_of
pair_fits (pos n) h = (omega arith, omega arith)
pair_fits (negsuc n) h = (omega arith, omega arith)

whole_there : (h : Header) (t : Tail) → later_stamp h ≡ false → check_over t.check ≡ false → whole_of h (Some t) ≡ Some (whole h t)
unfolding whole_of
whole_there h t p q = rw (p, q)

module _ (h : Header) (t : Tail) (r : Ranges h t) where
  header_back : (rest : List ℕ) → message_header_of (header_bytes h ++ rest) ≡ h
  header_back rest =
      ap header_from (fields_of_row header_widths (header_fields h) [] rest 0 refl (r.kind, (r.number, (r.stamp, (r.last_peer_stamp, (r.arrival, tt))))))

  -- the fields after the header fit their widths
  fits : (after : After) → FitsRow (widths_of after) (after_fields after t)
  fits Period = (r.period, tt)
  fits Nothing = tt
  fits Offsets =
      let min = pair_fits t.min.0 r.min in
      let max = pair_fits t.max.0 r.max in
      (min.0, (min.1, (max.0, (max.1, tt))))
  fits Check = (r.check, tt)
  fits Data = tt

  fields_back : (after : After) (lent : List ℕ) → fields_of (widths_of after) (header_bytes h ++ after_bytes after t lent) header_size ≡ after_fields after t
  unfolding bytes_of
  fields_back after lent = fields_of_row (widths_of after) (after_fields after t) (header_bytes h) (data_in after lent) header_size refl (fits after)

  tail_from_lem : (after : After) (n : ℕ) → lent_as_said after t.«data» n ≡ true → tail_from after (after_fields after t) n ≡ Some (only_of after t)
  tail_from_lem Period n e = refl
  tail_from_lem Nothing n e = refl
  tail_from_lem Offsets n e = rw (offset_there t.min.0 r.min, offset_there t.max.0 r.max)
  tail_from_lem Check n e = refl
  tail_from_lem Data n e = rw (eqb-true t.«data» n e)

  counted : (after : After) (lent : List ℕ)
      → lent_as_said after t.«data» (length (header_bytes h ++ after_bytes after t lent) - header_size) ≡ lent_as_said after t.«data» (length lent)
  unfolding bytes_of
  counted Period lent = refl
  counted Nothing lent = refl
  counted Offsets lent = refl
  counted Check lent = refl
  counted Data lent = ap (eqb t.«data») (omega arith)

  check_only : (after : After) → check_over t.check ≡ false → check_over (only_of after t).check ≡ false
  unfolding check_over
  check_only Period e = refl
  check_only Nothing e = refl
  check_only Offsets e = refl
  check_only Check e = e
  check_only Data e = refl

  -- what the table allows reads back as the header and what its type has of the tail
  pub written_reads_back_only : (lent : List ℕ) → allowed_of h t (length lent) ≡ true
      → parsed_of (message_bytes h t lent) ≡ Some (whole h (only_of (table_of h.kind).after t))
  written_reads_back_only lent a =
      let parts = allowed_parts h t (length lent) a in
      let after = (table_of h.kind).after in
      let m = message_bytes h t lent in
      let listed : lists (table_of h.kind) (length m) ≡ true = rw (size_is_total h t lent a) parts.total_listed in
      let tail : tail_of after m ≡ Some (only_of after t)
      = ap (λ (f : List ℕ). tail_from after f (length m - header_size)) (fields_back after lent)
      ∙ tail_from_lem after (length m - header_size) (counted after lent ∙ parts.count) in
      parsed_listed m h (table_of h.kind) (sym (header_back (after_bytes after t lent))) refl (Some (only_of after t)) (sym tail) listed
      ∙ whole_there h (only_of after t) parts.stamps (check_only after parts.check)

  pub written_reads_back : (lent : List ℕ) → Allowed h t lent → parsed_of (message_bytes h t lent) ≡ Some (whole h t)
  written_reads_back lent a = written_reads_back_only lent a.by_table ∙ ap (λ (u : Tail). Some (whole h u)) a.only

-- and the application data of type 6 as the same bytes
pub data_reads_back : (h : Header) (t : Tail) (lent : List ℕ) → h.kind ≡ application → data_of (message_bytes h t lent) ≡ lent
unfolding table_of bytes_of
data_reads_back h t lent e = rw e

-- ---- accepted writes back
same_read : (t u : Tail) → Some u ≡ Some t → u ≡ t
same_read t u e = cc

offsets_there : (a b c d : ℕ) (t : Tail) (min max : Option Offset) → offset_read a b ≡ min → offset_read c d ≡ max → offsets_from min max ≡ Some t
    → after_fields Offsets t ≡ a ∷ b ∷ c ∷ d ∷ []
offsets_there a b c d t None max p q e = cc
offsets_there a b c d t (Some min) None p q e = cc
offsets_there a b c d t (Some min) (Some max) p q e =
    ap (after_fields Offsets) (sym (same_read t (offsets_tail min max) e))
    ∙ ap₂ (λ (x y : SignMagnitude). x.sign ∷ x.magnitude ∷ y.sign ∷ y.magnitude ∷ []) (offset_back a b min p) (offset_back c d max q)

-- the fields after the header are those of the tail that was read
fields_there : (after : After) (s : List ℕ) (t : Tail) → tail_of after s ≡ Some t → after_fields after t ≡ fields_of (widths_of after) s header_size
fields_there Period s t e = ap (after_fields Period) (sym (same_read t (period_tail (field_of s header_size 4)) e))
fields_there Nothing s t e = refl
fields_there Offsets s t e =
    offsets_there (field_of s header_size 1) (field_of s (header_size + 1) 4) (field_of s max_at 1) (field_of s (max_at + 1) 4) t (offset_pair_at s header_size) (offset_pair_at s max_at) refl refl e
fields_there Check s t e = ap (after_fields Check) (sym (same_read t (check_tail (field_of s header_size 1)) e))
fields_there Data s t e = refl

pub accepted_writes_back : (s : List ℕ) (h : Header) (t : Tail) → Bytes s → parsed_of s ≡ Some (whole h t) → message_bytes h t (data_of s) ≡ s
accepted_writes_back s h t b e =
    let x = accepted s h t e in
    let type = (message_header_of s).kind in
    let after = (table_of type).after in
    let fit : header_size + width_of (widths_of after) ≤ length s = fields_within (table_of type) type (length s) refl x.total_listed in
    let fields : row_of (widths_of after) (after_fields after t) ≡ take (width_of (widths_of after)) (drop header_size s)
    = ap (row_of (widths_of after)) (fields_there after s t x.tail) ∙ row_of_fields (widths_of after) s header_size b fit in
    ap (λ (g : Header). message_bytes g t (data_of s)) (sym x.header)
    ∙ ap₂ (λ (y z : List ℕ). y ++ z)
    (row_of_fields header_widths s 0 b (omega arith))
    (ap (λ (y : List ℕ). y ++ data_in after (drop header_size s)) fields ∙ rest_there type s x.total_listed)
    ∙ take-append-drop header_size s

-- ---- an accepted message is one that is written, in the same bytes
offsets_only : (t : Tail) (min max : Option Offset) → offsets_from min max ≡ Some t → only_of Offsets t ≡ t
offsets_only t None max e = cc
offsets_only t (Some min) None e = cc
offsets_only t (Some min) (Some max) e =
    subst (λ (u : Tail). only_of Offsets u ≡ u) (same_read t (offsets_tail min max) e) refl

only_there : (after : After) (s : List ℕ) (t : Tail) → tail_of after s ≡ Some t → only_of after t ≡ t
only_there Period s t e = subst (λ (u : Tail). only_of Period u ≡ u) (same_read t (period_tail (field_of s header_size 4)) e) refl
only_there Nothing s t e = same_read t empty_tail e
only_there Offsets s t e = offsets_only t (offset_pair_at s header_size) (offset_pair_at s max_at) e
only_there Check s t e = subst (λ (u : Tail). only_of Check u ≡ u) (same_read t (check_tail (field_of s header_size 1)) e) refl
only_there Data s t e = subst (λ (u : Tail). only_of Data u ≡ u) (same_read t (data_tail (length s - header_size)) e) refl

count_there : (after : After) (s : List ℕ) (t : Tail) → tail_of after s ≡ Some t → lent_as_said after t.«data» (length (data_of s)) ≡ true
count_there Period s t e = refl
count_there Nothing s t e = refl
count_there Offsets s t e = refl
count_there Check s t e = refl
count_there Data s t e =
    eq-eqb t.«data» (length (drop header_size s)) (sym (ap (λ (u : Tail). u.«data») (same_read t (data_tail (length s - header_size)) e)) ∙ sym (length-drop header_size s))

pub accepted_is_allowed : (s : List ℕ) (h : Header) (t : Tail) → parsed_of s ≡ Some (whole h t) → Allowed h t (data_of s)
accepted_is_allowed s h t e =
    let x = accepted s h t e in
    let type = (message_header_of s).kind in
    let row = table_of type in
    let size : total_of row (length (data_of s)) ≡ length s = ap (total_of row) (length-drop header_size s) ∙ total_there type (length s) x.total_listed in
    subst (λ (g : Header). Allowed g t (data_of s)) x.header
    (record {
      by_table =
          parts_allowed (message_header_of s) t (length (data_of s))
          (record { total_listed = rw size x.total_listed; stamps = x.stamps; check = x.check; count = count_there row.after s t x.tail });
      only = only_there row.after s t x.tail;
    })

-- ---- in the out buffer: the message, and past it what stood there
module _ (out : List ℕ) (h : Header) (t : Tail) (lent : List ℕ) (e : writes (length out) h t (length lent) ≡ true) where
  pub written_is_allowed : allowed_of h t (length lent) ≡ true
  unfolding writes
  written_is_allowed = (and_parts (allowed_of h t (length lent)) (leb (total_of (table_of h.kind) (length lent)) (length out)) e).0

  pub written_is_message : message_written (length out) h t lent ≡ message_bytes h t lent
  unfolding message_written
  written_is_message = rw e

  room : length (message_bytes h t lent) ≤ length out
  unfolding writes
  room =
      rw (size_is_total h t lent written_is_allowed)
      (leb-true (total_of (table_of h.kind) (length lent)) (length out)
      (and_parts (allowed_of h t (length lent)) (leb (total_of (table_of h.kind) (length lent)) (length out)) e).1)

  pub out_is : let bytes = message_written (length out) h t lent in sets out 0 bytes ≡ message_bytes h t lent ++ drop (length bytes) out
  out_is =
      let size = length (message_bytes h t lent) in
      let at : 0 + size ≡ length (message_written (length out) h t lent) = omega (arith, ap length written_is_message) in
      ap (sets out 0) written_is_message
      ∙ sets-eq (message_bytes h t lent) out 0 (omega (arith, room))
      ∙ ap (λ (n : ℕ). message_bytes h t lent ++ drop n out) at
