-- Each verdict is said exactly where it is true of the file, and what a person is told is true too.
-- Assumes nothing.
use Prim.Native.Nat.{ℕ, suc, ◌+◌}
use mathlib.Core.Path.{◌≡◌, refl, sym, ap, subst, ◌∙◌}
use mathlib.Core.List.{List, [], ◌∷◌, ◌++◌, append-nil}
use native.Mathlib.Omega.{arith}
use lib.ListN.{length, drop}
use lib.Seq.{drop-append_seam}
use Rattle.field.specs.Row.{Bytes}
use Rattle.connection.specs.declared.Connection.{Connection}
use Rattle.trace.specs.Record.{size_of, record_bytes, record_of}
use Rattle.trace.specs.Call.{made_on}
use Rattle.trace.specs.declared.Record.{Record}
use Rattle.trace.specs.declared.Next.{Next}
use Rattle.trace.specs.declared.Next.TheVariants as stands
use Rattle.trace.proofs.Records.{none_ends}
use Rattle.replay_lines.specs.Replay.{any_out}
use Rattle.recorded_answer.specs.Answer.{behind_of}
use Rattle.std.specs.Prelude.{Option, Some, None}
use Rattle.recorder_file.specs.Said.{difference_told, bad_told}
use Rattle.recorder_file.specs.Check.{Checked, start_of, nth, difference, checked_from, checked_of}
use Rattle.recorder_file.specs.declared.Passed.{Passed}
use Rattle.recorder_file.specs.declared.Progress.{Progress}
use Rattle.recorder_file.specs.declared.Verdict.{Verdict}
use Rattle.recorder_file.specs.declared.Verdict.TheVariants.{Agrees, Differs, Bad}
use Rattle.checker_promises.specs.File.{Entry, entry_bytes, file_of, table_after, judged_in, IsRight}
use Rattle.checker_promises.specs.File.Entry.{alone, answered}
use Rattle.checker_promises.specs.Exactly as the
use Rattle.checker_promises.specs.Exactly.{closed_table, AgreesWith, DiffersAt, BadAt, NoAnswerToTheLast}
use Rattle.checker_promises.proofs.Records.{none_no_answer, whole_stands, whole_written, answer_stands, answer_written}
use Rattle.checker_promises.proofs.Steps.{
  ends_there,
  found_end,
  found_bad,
  stops_wrong,
  after,
  ClearLast,
  clear_of,
  entry_no_answer,
  passes_all,
  after_table,
  after_calls,
  after_judged,
  after_offset,
}
use Rattle.checker_promises.proofs.Story.{bytes_behind, end_empty, StoryOf, story}

-- ---- from the file to the verdict

module _ (file : List ℕ) (n : ℕ) (w : AgreesWith file n) where
  agrees_said : checked_of file ≡ record { verdict = Agrees n; told = [] }
  agrees_said =
      let es = w.entries in
      let q = after start_of es in
      let count : q.passed.judged ≡ n = omega (arith, after_judged start_of es, w.judged) in
      ap (checked_from start_of) (w.is ∙ sym (append-nil (file_of es)))
      ∙ passes_all es [] start_of w.stand w.right (clear_of es [] none_no_answer)
      ∙ ends_there q [] (found_end q [] (none_ends [] refl))
      ∙ ap (λ (k : ℕ). record { verdict = Agrees k; told = [] }) count

module _ (file : List ℕ) (n : ℕ) (w : DiffersAt file n) where
  abbrev e : Entry
  e = answered w.call w.bytes w.recorded

  abbrev q : Progress
  q = after start_of w.before

  -- what is said, by how far the check is and its table
  abbrev said_with : Passed → List Connection → Checked
  said_with passed table = difference passed w.call w.recorded (made_on table w.call w.bytes any_out)

  differs_said : checked_of file ≡ said_with q.passed (table_after closed_table w.before)
  differs_said =
      let table = after_table start_of w.before in
      ap (checked_from start_of) w.is
      ∙ passes_all w.before (entry_bytes e ++ w.rest) start_of w.stand w.right
      (clear_of w.before (entry_bytes e ++ w.rest) (λ before. entry_no_answer before e w.rest w.stands))
      ∙ stops_wrong q w.call w.bytes w.recorded w.stands.0 w.stands.1 w.rest
      (λ right. w.wrong (subst (λ (t : List Connection). IsRight t e) table right))
      ∙ ap (said_with q.passed) table

  differs_verdict : (checked_of file).verdict ≡ Differs n
  differs_verdict =
      let place : q.passed.calls + 1 ≡ n = omega (arith, after_calls start_of w.before, w.place) in
      ap (λ (c : Checked). c.verdict) differs_said ∙ ap Differs place

  differs_told : (checked_of file).told ≡
      difference_told (length w.before + judged_in w.before + 2) (length (file_of w.before) + size_of w.call) w.recorded
      (made_on (table_after closed_table w.before) w.call w.bytes any_out).answer
      (made_on (table_after closed_table w.before) w.call w.bytes any_out).out
  differs_told =
      let left = made_on (table_after closed_table w.before) w.call w.bytes any_out in
      let record_is : nth q.passed + 1 ≡ length w.before + judged_in w.before + 2 =
      omega (arith, after_calls start_of w.before, after_judged start_of w.before) in
      let offset-is : q.passed.offset + size_of w.call ≡ length (file_of w.before) + size_of w.call =
      omega (arith, after_offset start_of w.before) in
      ap (λ (c : Checked). c.told) differs_said
      ∙ ap (λ (k : ℕ). difference_told k (q.passed.offset + size_of w.call) w.recorded left.answer left.out) record_is
      ∙ ap (λ (k : ℕ). difference_told (length w.before + judged_in w.before + 2) k w.recorded left.answer left.out) offset-is

-- what is no answer to the last, in the reader's words
clear_last : (es : List Entry) (rest : List ℕ) → Bytes rest → NoAnswerToTheLast es rest → ClearLast es rest
clear_last [] rest b none = tt
clear_last (answered call bytes recorded ∷ []) rest b none = tt
clear_last (alone call bytes ∷ []) rest b none = by (behind_of call rest) refl
  where
    by : (k : Option Record) → behind_of call rest ≡ k → behind_of call rest ≡ None
    by None e = e
    by (Some a) e =
        absurd (none (record_bytes rest a) (drop (size_of a) rest) (answer_stands call rest b a e) (answer_written call rest b a e))
clear_last (e ∷ f ∷ es) rest b none = clear_last (f ∷ es) rest b none

module _ (file : List ℕ) (b : Bytes file) (w : BadAt file) where
  abbrev p : Progress
  p = after start_of w.before

  rest_bytes : Bytes w.rest
  rest_bytes =
      subst Bytes (ap (drop (length (file_of w.before))) w.is ∙ drop-append_seam (file_of w.before) w.rest)
      (bytes_behind (length (file_of w.before)) file b)

  is_bad_lem : record_of w.rest ≡ stands.Bad
  is_bad_lem = by (record_of w.rest) refl
    where
      by : (n : Next) → record_of w.rest ≡ n → record_of w.rest ≡ stands.Bad
      by stands.End e = absurd (w.some (end_empty w.rest e))
      by stands.Bad e = e
      by (stands.Whole r) e =
          absurd
          (w.no_call r (record_bytes w.rest r) (drop (size_of r) w.rest) (whole_stands w.rest rest_bytes r e)
          (whole_written w.rest rest_bytes r e))

  bad_said : checked_of file ≡ record { verdict = Bad; told = bad_told (nth p.passed) p.passed.offset w.rest }
  bad_said =
      ap (checked_from start_of) w.is
      ∙ passes_all w.before w.rest start_of w.stand w.right (clear_last w.before w.rest rest_bytes w.no_answer)
      ∙ ends_there p w.rest (found_bad p w.rest is_bad_lem)

  bad_told_lem : (checked_of file).told ≡ bad_told (length w.before + judged_in w.before + 1) (length (file_of w.before)) w.rest
  bad_told_lem =
      let record_is : nth p.passed ≡ length w.before + judged_in w.before + 1 =
      omega (arith, after_calls start_of w.before, after_judged start_of w.before) in
      let offset-is : p.passed.offset ≡ length (file_of w.before) = omega (arith, after_offset start_of w.before) in
      ap (λ (c : Checked). c.told) bad_said
      ∙ ap (λ (k : ℕ). bad_told k p.passed.offset w.rest) record_is
      ∙ ap (λ (k : ℕ). bad_told (length w.before + judged_in w.before + 1) k w.rest) offset-is

-- ---- and from the verdict to the file

told_by_lem : (file : List ℕ) → Bytes file → (v : Verdict) → (checked_of file).verdict ≡ v → StoryOf closed_table 0 0 file v
told_by_lem file b v e = subst (StoryOf closed_table 0 0 file) e (story (suc (length file)) start_of file b (omega arith))

pub agrees_exactly : the.AgreesExactly
agrees_exactly file b n = (
  (λ e.
      let t = told_by_lem file b (Agrees n) e in
      record { entries = t.entries; is = t.is; stand = t.stand; right = t.right; judged = omega (arith, t.count) }),
  λ w. ap (λ (c : Checked). c.verdict) (agrees_said file n w),
)

pub differs_exactly : the.DiffersExactly
differs_exactly file b n = (
  (λ e.
      let t = told_by_lem file b (Differs n) e in
      record {
        before = t.before;
        call = t.call;
        bytes = t.bytes;
        recorded = t.recorded;
        rest = t.rest;
        is = t.is;
        stand = t.stand;
        stands = t.stands;
        right = t.right;
        wrong = t.wrong;
        place = omega (arith, t.place);
      }),
  differs_verdict file n,
)

pub bad_exactly : the.BadExactly
bad_exactly file b = (
  (λ e.
      let t = told_by_lem file b Bad e in
      record {
        before = t.before;
        rest = t.rest;
        is = t.is;
        stand = t.stand;
        right = t.right;
        some = t.some;
        no_call = t.no_call;
        no_answer = t.no_answer;
      }),
  λ w. ap (λ (c : Checked). c.verdict) (bad_said file b w),
)

pub tells_of_agreement : the.TellsOfAgreement
tells_of_agreement file n w = ap (λ (c : Checked). c.told) (agrees_said file n w)

pub tells_of_difference : the.TellsOfDifference
tells_of_difference file n w = differs_told file n w

pub tells_of_bad : the.TellsOfBad
tells_of_bad file b w = bad_told_lem file b w
