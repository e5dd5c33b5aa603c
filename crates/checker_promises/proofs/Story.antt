-- From the verdict to the file: whatever is said, the bytes are entries that stand and are right, up to where it stopped.
-- Assumes nothing.
use Prim.Native.Nat.{ℕ, zero, suc, ◌+◌, ◌<◌}
use mathlib.Core.Path.{◌≡◌, refl, sym, ap, subst, ◌∙◌}
use mathlib.Core.Bool.{Bool, true, false, ◌||◌, false≢true}
use mathlib.Core.List.{List, [], ◌∷◌, ◌++◌, append_assoc}
use native.Mathlib.Omega.{arith}
use borrow.Author.Tests.{eqb-true}
use lib.Dec.{eqb}
use lib.ListN.{length, drop, length-drop}
use lib.Seq.{drop-drop}
use Rattle.rules.specs.Rows.{when◌answer◌else◌}
use Rattle.field.specs.Row.{Bytes}
use Rattle.connection.specs.declared.Connection.{Connection}
use Rattle.table.specs.Table.{LeftAt}
use Rattle.text.proofs.Words.{same_itself, same_bytes}
use Rattle.trace.specs.Record.{size_of, record_bytes, bad_fields, cut_record, fields_at, record_of}
use Rattle.trace.specs.declared.Record.{Record}
use Rattle.trace.specs.declared.Next.{Next}
use Rattle.trace.specs.declared.Next.TheVariants as stands
use Rattle.trace.proofs.Records.{none_ends, whole_fits}
use Rattle.recorded_answer.specs.Answer.{answer_bytes, is_right, behind_of}
use Rattle.std.specs.Prelude.{Option, Some, None}
use Rattle.recorded_answer.proofs.Answers.{behind_is}
use Rattle.recorder_file.specs.Check.{Checked, left_by, one_call_more, checked_from}
use Rattle.recorder_file.specs.declared.Progress.{Progress}
use Rattle.recorder_file.specs.declared.Verdict.{Verdict}
use Rattle.recorder_file.specs.declared.Verdict.TheVariants.{Agrees, Differs, Bad}
use Rattle.recorder_file.proofs.Turns.{progress_of}
use Rattle.checker_promises.specs.File.{
  Entry,
  whole_record,
  answer_record,
  entry_bytes,
  file_of,
  CallStands,
  AnswerStands,
  EntryStands,
  AllStand,
  outcome_on,
  IsRight,
  AllRight,
  table_after,
  judged_in,
}
use Rattle.checker_promises.specs.File.Entry.{alone, answered}
use Rattle.checker_promises.specs.Exactly.{NotItsAnswer, NoAnswerToTheLast}
use Rattle.checker_promises.proofs.Records.{
  call_first,
  answer_behind,
  whole_stands,
  whole_written,
  answer_stands,
  answer_written,
}
use Rattle.checker_promises.proofs.Steps.{goes_on_lem, ends_there, found_end, found_bad, found_alone, found_answered, held_right, held_wrong, one_judged}

-- bytes of which some are dropped
pub bytes_behind : (n : ℕ) (l : List ℕ) → Bytes l → Bytes (drop n l)
bytes_behind zero l b = b
bytes_behind (suc n) [] b = tt
bytes_behind (suc n) (x ∷ l) b = bytes_behind n l b.1

-- ---- what the three verdicts say, from any table on

pub record AgreesFrom (table : List Connection) (judged : ℕ) (l : List ℕ) (n : ℕ) : Type 0 where
  pub entries : List Entry
  pub is : l ≡ file_of entries
  pub stand : AllStand entries
  pub right : AllRight table entries
  pub count : judged + judged_in entries ≡ n

pub record DiffersFrom (table : List Connection) (calls : ℕ) (l : List ℕ) (n : ℕ) : Type 0 where
  pub before : List Entry
  pub call : Record
  pub bytes : List ℕ
  pub recorded : List ℕ
  pub rest : List ℕ
  pub is : l ≡ file_of before ++ (entry_bytes (answered call bytes recorded) ++ rest)
  pub stand : AllStand before
  pub stands : EntryStands (answered call bytes recorded)
  pub right : AllRight table before
  pub wrong : IsRight (table_after table before) (answered call bytes recorded) → ⊥
  pub place : calls + suc (length before) ≡ n

pub record BadFrom (table : List Connection) (l : List ℕ) : Type 0 where
  pub before : List Entry
  pub rest : List ℕ
  pub is : l ≡ file_of before ++ rest
  pub stand : AllStand before
  pub right : AllRight table before
  pub some : rest ≡ [] → ⊥
  pub no_call : (call : Record) (bytes more : List ℕ) → CallStands call bytes → rest ≡ whole_record call bytes ++ more → ⊥
  pub no_answer : NoAnswerToTheLast before rest

abbrev pub StoryOf : List Connection → ℕ → ℕ → List ℕ → Verdict → Type 0
StoryOf table calls judged l (Agrees n) = AgreesFrom table judged l n
StoryOf table calls judged l (Differs n) = DiffersFrom table calls l n
StoryOf table calls judged l Bad = BadFrom table l

-- one entry before it
module _ (table : List Connection) (calls judged : ℕ) (l : List ℕ) (e : Entry) (s : EntryStands e) (right : IsRight table e) (rest : List ℕ)
    (is : l ≡ entry_bytes e ++ rest) (clear : NotItsAnswer e rest) where
  last_clear : (before : List Entry) (more : List ℕ) → rest ≡ file_of before ++ more → NoAnswerToTheLast before more → NoAnswerToTheLast (e ∷ before) more
  last_clear [] more i none = subst (NotItsAnswer e) i clear
  last_clear (f ∷ before) more i none = none

  extended : (v : Verdict) → StoryOf (outcome_on table e).table (calls + 1) (judged + judged_in (e ∷ [])) rest v → StoryOf table calls judged l v
  extended (Agrees n) t =
      record {
        entries = e ∷ t.entries;
        is = is ∙ ap (λ (x : List ℕ). entry_bytes e ++ x) t.is;
        stand = (s, t.stand);
        right = (right, t.right);
        count = omega (arith, t.count, one_judged e t.entries);
      }
  extended (Differs n) t =
      let wrong = entry_bytes (answered t.call t.bytes t.recorded) ++ t.rest in
      record {
        before = e ∷ t.before;
        call = t.call;
        bytes = t.bytes;
        recorded = t.recorded;
        rest = t.rest;
        is = is ∙ ap (λ (x : List ℕ). entry_bytes e ++ x) t.is ∙ sym (append_assoc (entry_bytes e) (file_of t.before) wrong);
        stand = (s, t.stand);
        stands = t.stands;
        right = (right, t.right);
        wrong = t.wrong;
        place = omega (arith, t.place);
      }
  extended Bad t =
      record {
        before = e ∷ t.before;
        rest = t.rest;
        is = is ∙ ap (λ (x : List ℕ). entry_bytes e ++ x) t.is ∙ sym (append_assoc (entry_bytes e) (file_of t.before) t.rest);
        stand = (s, t.stand);
        right = (right, t.right);
        some = t.some;
        no_call = t.no_call;
        no_answer = last_clear t.before t.rest t.is t.no_answer;
      }

-- ---- the ways out of a turn

-- only no bytes are the end
pub end_empty : (l : List ℕ) → record_of l ≡ stands.End → l ≡ []
unfolding record_of
end_empty l e = by (eqb (length l) 0) (bad_fields (fields_at l) || cut_record l (fields_at l)) refl e
  where
    empty : (m : List ℕ) → length m ≡ 0 → m ≡ []
    empty [] e = refl
    empty (x ∷ m) e = let f : ⊥ = omega (arith, e) in absurd f

    by : (none bad : Bool) → eqb (length l) 0 ≡ none
        → (when none answer stands.End else when bad answer stands.Bad else stands.Whole (fields_at l)) ≡ stands.End → l ≡ []
    by true bad is e = empty l (eqb-true (length l) 0 is)
    by false true is e = cc
    by false false is e = cc

-- one that is bad is no other
bad_not_end : {n : Next} → n ≡ stands.Bad → n ≡ stands.End → ⊥
bad_not_end e f = let g = sym e ∙ f in let z : ◌≡◌ {A = ℕ} 0 1 = cc in let c : ⊥ = omega arith in c

bad_not_whole : {n : Next} {r : Record} → n ≡ stands.Bad → n ≡ stands.Whole r → ⊥
bad_not_whole e f = let g = sym e ∙ f in let z : ◌≡◌ {A = ℕ} 0 1 = cc in let c : ⊥ = omega arith in c

none_not_recorded : {b : Option Record} {a : Record} → b ≡ None → b ≡ Some a → ⊥
none_not_recorded e f = let g = sym e ∙ f in cc

-- what is said from there on, at fewer bytes
abbrev Later : ℕ → Type 0
Later n =
    (p : Progress) (l : List ℕ) → Bytes l → length l < n → StoryOf p.table p.passed.calls p.passed.judged l (checked_from p l).verdict

module _ (p : Progress) (l : List ℕ) (b : Bytes l) where
  abbrev Told : Checked → Type 0
  Told c = StoryOf p.table p.passed.calls p.passed.judged l c.verdict

  at_end : record_of l ≡ stands.End → Told (checked_from p l)
  at_end e =
      subst Told (sym (ends_there p l (found_end p l e)))
      (record { entries = []; is = end_empty l e; stand = tt; right = tt; count = omega arith })

  at_bad : record_of l ≡ stands.Bad → Told (checked_from p l)
  at_bad e =
      subst Told (sym (ends_there p l (found_bad p l e)))
      (record {
        before = [];
        rest = l;
        is = refl;
        stand = tt;
        right = tt;
        some = λ none. bad_not_end e (ap record_of none ∙ none_ends [] refl);
        no_call = λ call bytes more s is. bad_not_whole e (ap record_of is ∙ call_first call bytes more s);
        no_answer = tt;
      })

  module _ (r : Record) (e : record_of l ≡ stands.Whole r) (n : ℕ) (few : length l < suc n) (later : Later n) where
    abbrev bytes : List ℕ
    bytes = record_bytes l r

    abbrev behind : List ℕ
    behind = drop (size_of r) l

    call : CallStands r bytes
    call = whole_stands l b r e

    written : l ≡ whole_record r bytes ++ behind
    written = whole_written l b r e

    at_alone : behind_of r behind ≡ None → Told (checked_from p l)
    at_alone none =
        subst Told (sym (goes_on_lem p l (found_alone p l r e none)))
        (extended p.table p.passed.calls p.passed.judged l (alone r bytes) call tt behind written
        (λ recorded more s is. none_not_recorded none (ap (behind_of r) is ∙ answer_behind r bytes recorded more call s))
        (checked_from (progress_of (left_by p.table r l).table (one_call_more p.passed (size_of r) 0) false) behind).verdict
        (later (progress_of (left_by p.table r l).table (one_call_more p.passed (size_of r) 0) false) behind (bytes_behind (size_of r) l b)
        (omega (arith, few, whole_fits l r e, length-drop (size_of r) l))))

    module _ (a : Record) (there : behind_of r behind ≡ Some a) where
      abbrev recorded : List ℕ
      recorded = record_bytes behind a

      abbrev left : LeftAt
      left = left_by p.table r l

      abbrev rest : List ℕ
      rest = drop (size_of r + size_of a) l

      stands_there : AnswerStands recorded
      stands_there = answer_stands r behind (bytes_behind (size_of r) l b) a there

      both_written : l ≡ entry_bytes (answered r bytes recorded) ++ rest
      both_written =
          let answer_there = whole_record (answer_record r recorded) recorded in
          written
          ∙ ap (λ (x : List ℕ). whole_record r bytes ++ x)
          (answer_written r behind (bytes_behind (size_of r) l b) a there
          ∙ ap (λ (x : List ℕ). answer_there ++ x) (drop-drop (size_of a) (size_of r) l))
          ∙ sym (append_assoc (whole_record r bytes) answer_there rest)

      at_right : is_right recorded left.answer left.out ≡ true → Told (checked_from p l)
      at_right is =
          let right = same_bytes recorded (answer_bytes left.answer left.out) is in
          let q = progress_of left.table (one_call_more p.passed (size_of r + size_of a) 1) false in
          subst Told (sym (goes_on_lem p l (found_answered p l r e a there ∙ held_right p.passed r a recorded left right)))
          (extended p.table p.passed.calls p.passed.judged l (answered r bytes recorded) (call, stands_there) right rest both_written tt
          (checked_from q rest).verdict
          (later q rest (bytes_behind (size_of r + size_of a) l b)
          (omega (arith, few, whole_fits l r e, (behind_is r behind a there).fits, length-drop (size_of r) l, length-drop (size_of r + size_of a) l))))

      at_wrong : is_right recorded left.answer left.out ≡ false → Told (checked_from p l)
      at_wrong is =
          let wrong : recorded ≡ answer_bytes left.answer left.out → ⊥ = not_right in
          subst Told (sym (ends_there p l (found_answered p l r e a there ∙ held_wrong p.passed r a recorded left wrong)))
          (record {
            before = [];
            call = r;
            bytes = bytes;
            recorded = recorded;
            rest = rest;
            is = both_written;
            stand = tt;
            stands = (call, stands_there);
            right = tt;
            wrong = wrong;
            place = refl;
          })
        where
          not_right : recorded ≡ answer_bytes left.answer left.out → ⊥
          not_right same =
              let yes = ap (λ (w : List ℕ). is_right w left.answer left.out) same ∙ same_itself (answer_bytes left.answer left.out) in
              absurd (false≢true (sym is ∙ yes))

    at_call : (k : Option Record) → behind_of r behind ≡ k → Told (checked_from p l)
    at_call None there = at_alone there
    at_call (Some a) there = by (is_right (recorded a there) (left a there).answer (left a there).out) refl
      where
        by : (yes : Bool) → is_right (recorded a there) (left a there).answer (left a there).out ≡ yes → Told (checked_from p l)
        by true is = at_right a there is
        by false is = at_wrong a there is

  at_any : (n : ℕ) → length l < suc n → Later n → (first : Next) → record_of l ≡ first → Told (checked_from p l)
  at_any n few later stands.End e = at_end e
  at_any n few later stands.Bad e = at_bad e
  at_any n few later (stands.Whole r) e = at_call r e n few later (behind_of r (drop (size_of r) l)) refl

pub story : (n : ℕ) → Later n
story zero p l b few = let f : ⊥ = omega (arith, few) in absurd f
story (suc n) p l b few = at_any p l b n few (story n) (record_of l) refl
