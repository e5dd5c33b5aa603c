-- The check is a machine as `pieces` asks for, and says nothing before it stops.
-- Assumes nothing.
use Prim.Native.Nat.{ℕ, ◌+◌, ◌*◌, ◌≤◌}
use mathlib.Core.Path.{◌≡◌, refl, sym, ap, ◌∙◌}
use mathlib.Core.Bool.{Bool, true, false, ◌||◌, false≢true}
use mathlib.Core.List.{List, [], ◌++◌}
use native.Mathlib.Omega.{arith}
use borrow.Author.Tests.{ltb-false, le-ltb}
use lib.Dec.{eqb, ltb}
use lib.ListN.{length, drop, length-append, length-drop, length-take}
use lib.Seq.{drop-append-le}
use Rattle.rules.specs.Rows.{when◌answer◌else◌}
use Rattle.connection.specs.Connection.{◌outside◌to◌}
use Rattle.table.specs.Table.{LeftAt}
use Rattle.text.specs.Ascii.{ascii}
use Rattle.pieces.specs.Machine.{Turn, Lawful}
use Rattle.pieces.specs.Quiet.{Quiet}
use Rattle.trace.specs.Record.{fields_at, fields_size, size_of, record_bytes, record_of, most_record_bytes, most_record, wrong_mark, length_over, cut_record, begin_kind}
use Rattle.trace.specs.Call.{room, made_on}
use Rattle.trace.specs.declared.Record.{Record}
use Rattle.trace.specs.declared.Next.{Next}
use Rattle.trace.specs.declared.Next.TheVariants as stands
use Rattle.trace.proofs.Records.{whole_fits, whole_small, reads_no_more, same_fields, same_bytes}
use Rattle.recorded_answer.specs.Answer.{answer_kind, answer_fields_size, most_answer_bytes, is_right, behind_of}
use Rattle.std.specs.Prelude.{Option, Some, None}
use Rattle.recorded_answer.proofs.Answers.{behind_is, behind_no_more}
use Rattle.replay_lines.specs.Replay.{any_out}
use Rattle.replay_lines.proofs.Lent.{any_room}
use Rattle.recorder_file.specs.Said.{line_of, place_line, wrong_length, why_bad, bad_told, most_said}
use Rattle.recorder_file.specs.Check.{
  Found,
  nth,
  reckoned,
  difference,
  held_against,
  found_at_call,
  left_by,
  leaves_out,
  turn_by,
  turn_on,
  turn_of,
  checker,
}
use Rattle.recorder_file.specs.Check.Found.{ends, passes}
use Rattle.recorder_file.specs.declared.Passed.{Passed}
use Rattle.recorder_file.specs.declared.Progress.{Progress}
use Rattle.recorder_file.specs.declared.Verdict.{Verdict}
use Rattle.recorder_file.specs.Sizes.{verdict_fits, bad_told_fits, difference_fits}
use Rattle.recorder_file.specs.Written.{same_room}

-- what is found at a call: it passes alone, or with its answer, or the check ends
pub by_found : (P : Found → Type 0) (passed : Passed) (r : Record) (rest : List ℕ) (left : LeftAt) → P (passes (size_of r) 0 left.table)
    → ((a : Record) → behind_of r (drop (size_of r) rest) ≡ Some a → P (passes (size_of r + size_of a) 1 left.table))
    → ((a : Record) → behind_of r (drop (size_of r) rest) ≡ Some a
    → P (ends (difference passed r (record_bytes (drop (size_of r) rest) a) left)))
    → P (found_at_call passed r (behind_of r (drop (size_of r) rest)) (drop (size_of r) rest) left)
by_found P passed r rest left alone right wrong = by (behind_of r (drop (size_of r) rest)) refl
  where
    held : (a : Record) (b : Bool) → behind_of r (drop (size_of r) rest) ≡ Some a
        → P (when b answer passes (size_of r + size_of a) 1 left.table
        else ends (difference passed r (record_bytes (drop (size_of r) rest) a) left))
    held a true e = right a e
    held a false e = wrong a e

    by : (b : Option Record) → behind_of r (drop (size_of r) rest) ≡ b → P (found_at_call passed r b (drop (size_of r) rest) left)
    by None e = alone
    by (Some a) e = held a (is_right (record_bytes (drop (size_of r) rest) a) left.answer left.out) e

used_fits : (p : Progress) (s : List ℕ) → (turn_of p s).used ≤ length s
used_fits p s = by (record_of s) refl
  where
    by : (n : Next) → record_of s ≡ n → (turn_on p n s).used ≤ length s
    by stands.End e = omega arith
    by stands.Bad e = omega arith
    by (stands.Whole r) e =
        let fits = whole_fits s r e in
        by_found (λ (f : Found). (turn_by p f (leaves_out p (stands.Whole r) s)).used ≤ length s) p.passed r s (left_by p.table r s) fits
        (λ a b. omega (arith, fits, (behind_is r (drop (size_of r) s) a b).fits, length-drop (size_of r) s)) (λ _ _. omega arith)

used_or_stopped : (p : Progress) (s : List ℕ) → (turn_of p s).next.stopped ≡ false → 1 ≤ (turn_of p s).used
used_or_stopped p s = by (record_of s)
  where
    by : (n : Next) → (turn_on p n s).next.stopped ≡ false → 1 ≤ (turn_on p n s).used
    by stands.End e = absurd (false≢true (sym e))
    by stands.Bad e = absurd (false≢true (sym e))
    by (stands.Whole r) e =
        by_found (λ (f : Found). (turn_by p f (leaves_out p (stands.Whole r) s)).next.stopped ≡ false → 1
        ≤ (turn_by p f (leaves_out p (stands.Whole r) s)).used)
        p.passed r s (left_by p.table r s) (λ _. omega arith) (λ _ _ _. omega arith) (λ _ _ e. absurd (false≢true (sym e))) e

-- ---- bytes that follow are not looked at

-- a reason, by the tests behind the first
abbrev pub why_in : (mark kind wrong cut : Bool) → List ℕ
why_in mark kind wrong cut =
    when mark answer ascii ": wrong mark\n" else
    when kind answer ascii ": unknown kind\n" else
    when wrong answer ascii ": wrong length\n" else
    when cut answer ascii ": cut record\n" else
    ascii ": no call of its slot and now directly before it\n"

pub why_is : (l : List ℕ) → fields_size ≤ length l
    → why_bad l ≡ why_in (wrong_mark (fields_at l)) ((fields_at l).kind outside begin_kind to answer_kind) (wrong_length (fields_at l))
    (cut_record l (fields_at l))
unfolding why_bad
why_is l h = rw (le-ltb (length l) fields_size h)

why_alike : (mark kind wrong cut cut' : Bool) → (wrong ≡ false → cut ≡ cut') → why_in mark kind wrong cut ≡ why_in mark kind wrong cut'
why_alike true kind wrong cut cut' same = refl
why_alike false true wrong cut cut' same = refl
why_alike false false true cut cut' same = refl
why_alike false false false cut cut' same = ap (why_in false false false) (same refl)

few : (r : Record) → wrong_length r ≡ false → r.length ≤ most_answer_bytes
unfolding wrong_length length_over ◌outside◌to◌
few r = by (eqb r.kind answer_kind) (ltb r.length answer_fields_size)
  where
    by : (six short : Bool) → (when six answer short || ltb most_answer_bytes r.length else ltb most_record_bytes r.length) ≡ false
        → r.length ≤ most_answer_bytes
    by true true e = absurd (false≢true (sym e))
    by true false e = ltb-false most_answer_bytes r.length e
    by false short e = omega (arith, ltb-false most_record_bytes r.length e)

module _ (s rest : List ℕ) (many : fields_size + most_answer_bytes ≤ length s) where
  same_cut : (r : Record) → wrong_length r ≡ false → cut_record (s ++ rest) r ≡ cut_record s r
  unfolding cut_record
  same_cut r e =
      le-ltb (length (s ++ rest)) (size_of r) (omega (arith, few r e, length-append s rest))
      ∙ sym (le-ltb (length s) (size_of r) (omega (arith, few r e)))

  same_why : why_bad (s ++ rest) ≡ why_bad s
  same_why =
      let f = fields_at s in
      why_is (s ++ rest) (omega (arith, length-append s rest))
      ∙ ap (λ (r : Record). why_in (wrong_mark r) (r.kind outside begin_kind to answer_kind) (wrong_length r) (cut_record (s ++ rest) r))
      (same_fields s rest (omega arith))
      ∙ why_alike (wrong_mark f) (f.kind outside begin_kind to answer_kind) (wrong_length f) (cut_record (s ++ rest) f) (cut_record s f)
      (same_cut f)
      ∙ sym (why_is s (omega arith))

module _ (p : Progress) (s rest : List ℕ) (many : most_record + (fields_size + most_answer_bytes) ≤ length s) where
  -- a call, by what stands behind it
  abbrev call_turn : Record → Option Record → List ℕ → List ℕ → Turn Progress
  call_turn r b behind bytes =
      turn_by p (found_at_call p.passed r b behind (made_on p.table r bytes any_out)) (λ (out : List ℕ). (made_on p.table r bytes out).out)

  same_behind : (r : Record) (b : Option Record) → behind_of r (drop (size_of r) s) ≡ b → (bytes : List ℕ)
      → call_turn r b (drop (size_of r) s ++ rest) bytes ≡ call_turn r b (drop (size_of r) s) bytes
  same_behind r None e bytes = refl
  same_behind r (Some a) e bytes =
      ap (λ (recorded : List ℕ). turn_by p (held_against p.passed r a recorded (made_on p.table r bytes any_out))
      (λ (out : List ℕ). (made_on p.table r bytes out).out))
      (same_bytes (drop (size_of r) s) rest a (behind_is r (drop (size_of r) s) a e).fits)

  same_turn : turn_of p (s ++ rest) ≡ turn_of p s
  same_turn = ap (λ (n : Next). turn_on p n (s ++ rest)) (reads_no_more s rest (omega arith)) ∙ by (record_of s) refl
    where
      by : (n : Next) → record_of s ≡ n → turn_on p n (s ++ rest) ≡ turn_on p n s
      by stands.End e = refl
      by stands.Bad e =
          ap (λ (why : List ℕ). turn_by p
          (ends (record { verdict = Verdict.Bad; told = place_line (nth p.passed) p.passed.offset ++ why })) (λ (out : List ℕ). out))
          (same_why s rest (omega arith))
      by (stands.Whole r) e =
          let fits = whole_fits s r e in
          let left = drop-append-le (size_of r) s rest fits in
          let enough : fields_size + most_answer_bytes
          ≤ length (drop (size_of r) s) = omega (arith, whole_small s r e, length-drop (size_of r) s) in
          let bytes = same_bytes s rest r fits in
          ap (λ (l : List ℕ). call_turn r (behind_of r l) l (record_bytes (s ++ rest) r)) left
          ∙ ap (λ (l : List ℕ). call_turn r (behind_of r (drop (size_of r) s ++ rest)) (drop (size_of r) s ++ rest) l) bytes
          ∙ ap (λ (b : Option Record). call_turn r b (drop (size_of r) s ++ rest) (record_bytes s r))
          (behind_no_more r (drop (size_of r) s) rest enough)
          ∙ same_behind r (behind_of r (drop (size_of r) s)) refl (record_bytes s r)

text_fits : (p : Progress) (s : List ℕ) → length (turn_of p s).text ≤ most_said
text_fits p s = by (record_of s)
  where
    by : (n : Next) → length (turn_on p n s).text ≤ most_said
    by stands.End = omega
        (arith, verdict_fits (Verdict.Agrees p.passed.judged), length-append (line_of (Verdict.Agrees p.passed.judged)) [])
    by stands.Bad =
        let told = bad_told (nth p.passed) p.passed.offset s in
        omega (arith, bad_told_fits (nth p.passed) p.passed.offset s, verdict_fits Verdict.Bad, length-append (line_of Verdict.Bad) told)
    by (stands.Whole r) =
        by_found (λ (f : Found). length (turn_by p f (leaves_out p (stands.Whole r) s)).text
        ≤ most_said) p.passed r s (left_by p.table r s) (omega arith)
        (λ _ _. omega arith)
        (λ a b.
        let left = left_by p.table r s in
        let recorded = record_bytes (drop (size_of r) s) a in
        let d = difference p.passed r recorded left in
        let most = (behind_is r (drop (size_of r) s) a b).answering.most in
        let few : length recorded ≤ most_answer_bytes = omega (arith, most, length-take a.length (drop fields_size (drop (size_of r) s))) in
        let size : length left.out ≤ room = omega (arith, same_room p.table r (record_bytes s r) any_out, any_room) in
        omega (
          arith,
          difference_fits (nth p.passed + 1) (p.passed.offset + size_of r) recorded left.answer left.out few size,
          verdict_fits d.verdict,
          length-append (line_of d.verdict) d.told,
        ))

pub check_laws : Lawful checker
check_laws = record { uses_no_more = used_fits; uses_or_stops = used_or_stopped; sees_no_more = same_turn; prints_no_more = text_fits }

-- no record takes fewer bytes than it counts
pub check_counts : (p : Progress) (s : List ℕ) → reckoned (turn_of p s).next.passed + 1 ≤ reckoned p.passed + 1 + 2 * (turn_of p s).used
check_counts p s = by (record_of s)
  where
    by : (n : Next) → reckoned (turn_on p n s).next.passed + 1 ≤ reckoned p.passed + 1 + 2 * (turn_on p n s).used
    by stands.End = omega arith
    by stands.Bad = omega arith
    by (stands.Whole r) =
        by_found
        (λ (f : Found).
        reckoned (turn_by p f (leaves_out p (stands.Whole r) s)).next.passed + 1
        ≤ reckoned p.passed + 1 + 2 * (turn_by p f (leaves_out p (stands.Whole r) s)).used)
        p.passed r s (left_by p.table r s) (omega arith) (λ _ _. omega arith) (λ _ _. omega arith)

pub check_quiet : Quiet checker
check_quiet = (refl, λ p s. by p s (record_of s))
  where
    by : (p : Progress) (s : List ℕ) (n : Next) → (turn_on p n s).next.stopped ≡ false → (turn_on p n s).text ≡ []
    by p s stands.End e = absurd (false≢true (sym e))
    by p s stands.Bad e = absurd (false≢true (sym e))
    by p s (stands.Whole r) e =
        by_found (λ (f : Found). (turn_by p f (leaves_out p (stands.Whole r) s)).next.stopped ≡ false
        → (turn_by p f (leaves_out p (stands.Whole r) s)).text ≡ [])
        p.passed r s (left_by p.table r s) (λ _. refl) (λ _ _ _. refl) (λ _ _ e. absurd (false≢true (sym e))) e
