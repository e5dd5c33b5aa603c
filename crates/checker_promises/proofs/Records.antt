-- Records as they are written read back as the same fields and bytes, and what is read writes back as the same bytes.
-- Assumes nothing.
use Prim.Native.Nat.{ℕ, ◌≤◌}
use mathlib.Core.Path.{◌≡◌, refl, sym, ap, subst, ◌∙◌}
use mathlib.Core.Bool.{Bool, true, false, ◌||◌, not}
use mathlib.Core.List.{List, [], ◌++◌, append_assoc}
use native.Mathlib.Omega.{arith}
use borrow.Author.Tests.{le-ltb, eq-eqb, eqb-true, ltb-false, not-false}
use Rattle.std.proofs.lemmas.Bool.{or_parts}
use lib.Dec.{eqb, ltb}
use lib.ListN.{length, take, drop, length-append, length-drop, take-append-drop}
use lib.Seq.{take_at, drop_at, drop-drop, length-take-le}
use Rattle.rules.specs.Rows.{when◌answer◌else◌}
use Rattle.field.specs.Row.{row_of, FitsRow, Bytes}
use Rattle.field.proofs.Row.{length_row, fields_fit, fields_of_row, row_of_fields}
use Rattle.connection.specs.Connection.{◌outside◌to◌}
use Rattle.trace.specs.Record.{
  widths,
  named,
  fields_at,
  fields_size,
  size_of,
  record_bytes,
  most_record_bytes,
  mark,
  begin_kind,
  close_kind,
  wrong_mark,
  unknown_kind,
  length_over,
  bad_fields,
  cut_record,
  record_of,
}
use Rattle.trace.specs.declared.Record.{Record}
use Rattle.trace.specs.declared.Next.TheVariants as stands
use Rattle.trace.proofs.Records.{is_whole, whole_fits}
use Rattle.recorded_answer.specs.Answer.{answer_kind, answers_to, behind_of}
use Rattle.std.specs.Prelude.{Some, None}
use Rattle.recorded_answer.proofs.Answers.{parts_answer, answers_parts, not_answered, cut_behind, is_behind, behind_is}
use Rattle.checker_promises.specs.File.{fields_in, whole_record, answer_record, CallStands, AnswerStands}

-- the fields of a record, each in its width
abbrev Fits : Record → Type 0
Fits r = FitsRow widths (fields_in r)

-- ---- written, and read back

module _ (r : Record) (bytes rest : List ℕ) (fits : Fits r) where
  row_size_lem : length (row_of widths (fields_in r)) ≡ fields_size
  row_size_lem = length_row widths (fields_in r) fits

  fields_back : fields_at (whole_record r bytes ++ rest) ≡ r
  fields_back =
      ap fields_at (append_assoc (row_of widths (fields_in r)) bytes rest)
      ∙ ap named (fields_of_row widths (fields_in r) [] (bytes ++ rest) 0 refl fits)

  module _ (size : length bytes ≡ r.length) where
    bytes_back : record_bytes (whole_record r bytes ++ rest) r ≡ bytes
    bytes_back =
        let row = row_of widths (fields_in r) in
        ap (λ (l : List ℕ). take r.length (drop fields_size l)) (append_assoc row bytes rest)
        ∙ ap (take r.length) (drop_at row (bytes ++ rest) fields_size row_size_lem) ∙ take_at bytes rest r.length size

    whole_size : length (whole_record r bytes) ≡ size_of r
    whole_size = omega (arith, row_size_lem, size, length-append (row_of widths (fields_in r)) bytes)

    rest_back : drop (size_of r) (whole_record r bytes ++ rest) ≡ rest
    rest_back = drop_at (whole_record r bytes) rest (size_of r) whole_size

    long_enough : size_of r ≤ length (whole_record r bytes ++ rest)
    long_enough = omega (arith, whole_size, length-append (whole_record r bytes) rest)

-- the right mark
mark_right : (r : Record) → r.mark ≡ mark → wrong_mark r ≡ false
unfolding wrong_mark
mark_right r h = ap not (eq-eqb r.mark mark h)

-- a call's record has its fields in their widths, and is not bad
call_fits : (r : Record) (bytes : List ℕ) → CallStands r bytes → Fits r
call_fits r bytes s = (
  omega (arith, s.marked),
  (omega (arith, s.last_kind), (omega (arith, s.slot_fits), (omega (arith, s.now_fits), (omega (arith, s.most), tt)))),
)

not_bad : (r : Record) (bytes : List ℕ) → CallStands r bytes → bad_fields r ≡ false
unfolding unknown_kind length_over ◌outside◌to◌
not_bad r bytes s =
    rw (
      mark_right r s.marked,
      le-ltb r.kind begin_kind s.first_kind,
      le-ltb close_kind r.kind s.last_kind,
      le-ltb most_record_bytes r.length s.most,
    ) refl

module _ (r : Record) (bytes rest : List ℕ) (s : CallStands r bytes) where
  abbrev l : List ℕ
  l = whole_record r bytes ++ rest

  fields : fields_at l ≡ r
  fields = fields_back r bytes rest (call_fits r bytes s)

  pub call_first : record_of l ≡ stands.Whole r
  call_first =
      let long = long_enough r bytes rest (call_fits r bytes s) s.size in
      is_whole l (λ none. let f : ⊥ = omega (arith, none, long) in f) (ap bad_fields fields ∙ not_bad r bytes s)
      (subst (λ (x : Record). size_of x ≤ length l) (sym fields) long)
      ∙ ap stands.Whole fields

  pub call_bytes : record_bytes l r ≡ bytes
  call_bytes = bytes_back r bytes rest (call_fits r bytes s) s.size

  pub call_size : length (whole_record r bytes) ≡ size_of r
  call_size = whole_size r bytes rest (call_fits r bytes s) s.size

  pub call_rest : drop (size_of r) l ≡ rest
  call_rest = rest_back r bytes rest (call_fits r bytes s) s.size

  -- a call is no answer
  pub call_no_answer : (before : Record) → behind_of before l ≡ None
  call_no_answer before = by (answers_to before (fields_at l)) refl
    where
      by : (b : Bool) → answers_to before (fields_at l) ≡ b → behind_of before l ≡ None
      by false e = not_answered before l e
      by true e =
          let kind = (answers_parts before (fields_at l) e).kind in
          let same = ap (λ (x : Record). x.kind) fields in
          let f : ⊥ = omega (arith, kind, same, s.last_kind) in
          absurd f

-- nor are no bytes
pub none_no_answer : (before : Record) → behind_of before [] ≡ None
none_no_answer before = cut_behind before [] (omega arith)

module _ (call : Record) (bytes recorded rest : List ℕ) (c : CallStands call bytes) (s : AnswerStands recorded) where
  abbrev a : Record
  a = answer_record call recorded

  answer_fits : Fits a
  answer_fits = (omega arith, (omega arith, (omega (arith, c.slot_fits), (omega (arith, c.now_fits), (omega (arith, s.most), tt)))))

  abbrev m : List ℕ
  m = whole_record a recorded ++ rest

  pub answer_behind : behind_of call m ≡ Some a
  answer_behind =
      let same = fields_back a recorded rest answer_fits in
      is_behind call m
      (ap (answers_to call) same
      ∙ parts_answer call a (record { mark = mark_right a refl; kind = refl; slot = refl; now = refl; least = s.least; most = s.most }))
      (subst (λ (x : Record). size_of x ≤ length m) (sym same) (long_enough a recorded rest answer_fits refl))
      ∙ ap Some same

  pub answer_bytes_lem : record_bytes m a ≡ recorded
  answer_bytes_lem = bytes_back a recorded rest answer_fits refl

  pub answer_size_lem : length (whole_record a recorded) ≡ size_of a
  answer_size_lem = whole_size a recorded rest answer_fits refl

  pub answer_rest : drop (size_of a) m ≡ rest
  answer_rest = rest_back a recorded rest answer_fits refl

-- ---- read, and written back

module _ (s : List ℕ) (bytes : Bytes s) where
  abbrev f : Record
  f = fields_at s

  split : size_of f ≤ length s → s ≡ whole_record f (record_bytes s f) ++ drop (size_of f) s
  split h =
      let row : row_of widths (fields_in f) ≡ take fields_size s = row_of_fields widths s 0 bytes (omega (arith, h)) in
      let there = take f.length (drop fields_size s) in
      let behind = drop (size_of f) s in
      sym (
      ap (λ (l : List ℕ). l ++ there ++ behind) row
      ∙ append_assoc (take fields_size s) there behind
      ∙ ap (λ (l : List ℕ). take fields_size s ++ (there ++ l)) (sym (drop-drop f.length fields_size s))
      ∙ ap (λ (l : List ℕ). take fields_size s ++ l) (take-append-drop f.length (drop fields_size s))
      ∙ take-append-drop fields_size s
      )

  bytes_size : size_of f ≤ length s → length (record_bytes s f) ≡ f.length
  bytes_size h = length-take-le f.length (drop fields_size s) (omega (arith, h, length-drop fields_size s))

  fields_in_width : Fits f
  fields_in_width = fields_fit widths s 0 bytes

-- the mark of a record that has no wrong one
marked_by : (r : Record) → wrong_mark r ≡ false → r.mark ≡ mark
unfolding wrong_mark
marked_by r e = eqb-true r.mark mark (not-false _ e)

-- what a whole record is
whole_is : (s : List ℕ) (r : Record) → record_of s ≡ stands.Whole r → (fields_at s ≡ r) × (bad_fields (fields_at s) ≡ false)
unfolding record_of
whole_is s r = by (eqb (length s) 0) (bad_fields (fields_at s)) (cut_record s (fields_at s))
  where
    by : (none bad cut : Bool)
        → (when none answer stands.End else when bad || cut answer stands.Bad else stands.Whole (fields_at s)) ≡ stands.Whole r
        → (fields_at s ≡ r) × (bad ≡ false)
    by true bad cut e = cc
    by false true cut e = cc
    by false false true e = cc
    by false false false e = (cc, refl)

-- what has no bad fields
fields_stand : (r : Record) (bytes : List ℕ) → bad_fields r ≡ false → Fits r → length bytes ≡ r.length → CallStands r bytes
unfolding unknown_kind length_over ◌outside◌to◌
fields_stand r bytes e fits size =
    let wrong = or_parts (wrong_mark r || (ltb r.kind begin_kind || ltb close_kind r.kind)) (ltb most_record_bytes r.length) e in
    let unknown = or_parts (wrong_mark r) (ltb r.kind begin_kind || ltb close_kind r.kind) wrong.0 in
    let kinds = or_parts (ltb r.kind begin_kind) (ltb close_kind r.kind) unknown.1 in
    record {
      marked = marked_by r unknown.0;
      first_kind = ltb-false r.kind begin_kind kinds.0;
      last_kind = ltb-false close_kind r.kind kinds.1;
      slot_fits = omega (arith, fits.1.1.0);
      now_fits = omega (arith, fits.1.1.1.0);
      size = size;
      most = ltb-false most_record_bytes r.length wrong.1;
    }

module _ (s : List ℕ) (bytes : Bytes s) (r : Record) (e : record_of s ≡ stands.Whole r) where
  is : fields_at s ≡ r
  is = (whole_is s r e).0

  pub whole_stands : CallStands r (record_bytes s r)
  whole_stands =
      subst (λ (x : Record). CallStands x (record_bytes s x)) is
      (fields_stand (fields_at s) (record_bytes s (fields_at s)) (whole_is s r e).1 (fields_in_width s bytes)
      (bytes_size s bytes (subst (λ (x : Record). size_of x ≤ length s) (sym is) (whole_fits s r e))))

  pub whole_written : s ≡ whole_record r (record_bytes s r) ++ drop (size_of r) s
  whole_written =
      subst (λ (x : Record). s ≡ whole_record x (record_bytes s x) ++ drop (size_of x) s) is
      (split s bytes (subst (λ (x : Record). size_of x ≤ length s) (sym is) (whole_fits s r e)))

-- a record of its fields
abbrev record_from : ℕ → ℕ → ℕ → ℕ → ℕ → Record
record_from m k s n l = record { mark = m; kind = k; slot = s; now = record { 0 = n }; length = l }

module _ (call : Record) (s : List ℕ) (bytes : Bytes s) (a : Record) (e : behind_of call s ≡ Some a) where
  abbrev recorded : List ℕ
  recorded = record_bytes s a

  recorded_size : length recorded ≡ a.length
  recorded_size =
      length-take-le a.length (drop fields_size s) (omega (arith, (behind_is call s a e).fits, length-drop fields_size s))

  pub answer_stands : AnswerStands recorded
  answer_stands =
      let there = (behind_is call s a e).answering in
      record { least = omega (arith, there.least, recorded_size); most = omega (arith, there.most, recorded_size) }

  pub answer_is : a ≡ answer_record call recorded
  answer_is =
      let there = (behind_is call s a e).answering in
      ap (λ (x : ℕ). record_from x a.kind a.slot a.now.0 a.length) (marked_by a there.mark)
      ∙ ap (λ (x : ℕ). record_from mark x a.slot a.now.0 a.length) there.kind
      ∙ ap (λ (x : ℕ). record_from mark answer_kind x a.now.0 a.length) there.slot
      ∙ ap (λ (x : ℕ). record_from mark answer_kind call.slot x a.length) there.now
      ∙ ap (λ (x : ℕ). record_from mark answer_kind call.slot call.now.0 x) (sym recorded_size)

  pub answer_written : s ≡ whole_record (answer_record call recorded) recorded ++ drop (size_of a) s
  answer_written =
      let there = behind_is call s a e in
      subst (λ (x : Record). s ≡ whole_record x (record_bytes s a) ++ drop (size_of a) s) answer_is
      (subst (λ (x : Record). s ≡ whole_record x (record_bytes s x) ++ drop (size_of x) s) there.is
      (split s bytes (subst (λ (x : Record). size_of x ≤ length s) (sym there.is) there.fits)))
