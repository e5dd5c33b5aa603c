-- The check goes on behind an entry that stands and is right, and stops where it must.
-- Assumes nothing.
use Prim.Native.Nat.{ℕ, ◌+◌}
use mathlib.Core.Path.{◌≡◌, refl, sym, ap, subst, ◌∙◌}
use mathlib.Core.Bool.{Bool, true, false}
use mathlib.Core.List.{List, [], ◌∷◌, ◌++◌, append_assoc}
use native.Mathlib.Omega.{arith}
use lib.ListN.{length, drop, length-append}
use lib.Seq.{drop-drop}
use Rattle.rules.specs.Rows.{when◌answer◌else◌}
use Rattle.connection.specs.declared.Connection.{Connection}
use Rattle.table.specs.Table.{LeftAt}
use Rattle.text.proofs.Words.{same_itself, same_bytes}
use Rattle.trace.specs.Record.{size_of, record_bytes, record_of}
use Rattle.trace.specs.Call.{made_on}
use Rattle.trace.specs.declared.Record.{Record}
use Rattle.trace.specs.declared.Next.{Next}
use Rattle.trace.specs.declared.Next.TheVariants as stands
use Rattle.replay_lines.specs.Replay.{any_out}
use Rattle.recorded_answer.specs.Answer.{answer_bytes, is_right, behind_of}
use Rattle.std.specs.Prelude.{Option, Some, None}
use Rattle.recorder_file.specs.Said.{bad_told}
use Rattle.recorder_file.specs.Check.{
  Checked,
  Found,
  nth,
  difference,
  held_against,
  found_at_call,
  left_by,
  found_on,
  found_of,
  leaves_out,
  one_call_more,
  turn_by,
  said_or_later,
  checked_from,
}
use Rattle.recorder_file.specs.Check.Found.{ends, passes}
use Rattle.recorder_file.specs.declared.Passed.{Passed}
use Rattle.recorder_file.specs.declared.Progress.{Progress}
use Rattle.recorder_file.specs.declared.Verdict.TheVariants.{Agrees, Bad}
use Rattle.recorder_file.proofs.Turns.{progress_of}
use Rattle.recorder_file.proofs.Checks.{checks_on}
use Rattle.checker_promises.specs.File.{
  Entry,
  whole_record,
  answer_record,
  entry_bytes,
  file_of,
  CallStands,
  AnswerStands,
  EntryStands,
  AllStand,
  outcome_on,
  IsRight,
  AllRight,
  table_after,
  judged_in,
}
use Rattle.checker_promises.specs.File.Entry.{alone, answered}
use Rattle.checker_promises.proofs.Records.{
  call_first,
  call_bytes,
  call_size,
  call_rest,
  call_no_answer,
  answer_behind,
  answer_bytes_lem,
  answer_size_lem,
  answer_rest,
}

-- ---- what is found decides

module _ (p : Progress) (l : List ℕ) where
  abbrev said_at : Found → Checked
  said_at f =
      said_or_later f
      (checked_from (turn_by p f (leaves_out p (record_of l) l)).next (drop (turn_by p f (leaves_out p (record_of l) l)).used l))

  pub goes_on_lem : {used judged : ℕ} {table : List Connection} → found_of p l ≡ passes used judged table
      → checked_from p l ≡ checked_from (progress_of table (one_call_more p.passed used judged) false) (drop used l)
  goes_on_lem e = checks_on p l ∙ ap said_at e

  pub ends_there : {c : Checked} → found_of p l ≡ ends c → checked_from p l ≡ c
  ends_there e = checks_on p l ∙ ap said_at e

-- at the end of the file
pub found_end : (p : Progress) (l : List ℕ) → record_of l ≡ stands.End → found_of p l ≡ ends (record { verdict = Agrees p.passed.judged; told = [] })
found_end p l e = ap (λ (n : Next). found_on p n l) e

-- at a bad record
pub found_bad : (p : Progress) (l : List ℕ) → record_of l ≡ stands.Bad
    → found_of p l ≡ ends (record { verdict = Bad; told = bad_told (nth p.passed) p.passed.offset l })
found_bad p l e = ap (λ (n : Next). found_on p n l) e

-- at a call
module _ (p : Progress) (l : List ℕ) (r : Record) (e : record_of l ≡ stands.Whole r) where
  abbrev behind : List ℕ
  behind = drop (size_of r) l

  pub found_alone : behind_of r behind ≡ None → found_of p l ≡ passes (size_of r) 0 (left_by p.table r l).table
  found_alone none =
      ap (λ (n : Next). found_on p n l) e ∙ ap (λ (b : Option Record). found_at_call p.passed r b behind (left_by p.table r l)) none

  pub found_answered : (a : Record) → behind_of r behind ≡ Some a
      → found_of p l ≡ held_against p.passed r a (record_bytes behind a) (left_by p.table r l)
  found_answered a there =
      ap (λ (n : Next). found_on p n l) e ∙ ap (λ (b : Option Record). found_at_call p.passed r b behind (left_by p.table r l)) there

-- an answer is held against the right one
module _ (passed : Passed) (r a : Record) (recorded : List ℕ) (left : LeftAt) where
  abbrev found_by : Bool → Found
  found_by b =
      when b answer passes (size_of r + size_of a) 1 left.table else
      ends (difference passed r recorded left)

  pub held_right : recorded ≡ answer_bytes left.answer left.out → held_against passed r a recorded left ≡ passes (size_of r + size_of a) 1 left.table
  held_right right =
      ap found_by (ap (λ (w : List ℕ). is_right w left.answer left.out) right ∙ same_itself (answer_bytes left.answer left.out))

  pub held_wrong : (recorded ≡ answer_bytes left.answer left.out → ⊥) → held_against passed r a recorded left ≡ ends (difference passed r recorded left)
  held_wrong wrong = ap found_by (by (is_right recorded left.answer left.out) refl)
    where
      by : (b : Bool) → is_right recorded left.answer left.out ≡ b → is_right recorded left.answer left.out ≡ false
      by true e = absurd (wrong (same_bytes recorded (answer_bytes left.answer left.out) e))
      by false e = e

-- ---- one entry

-- how far the check is behind an entry, and behind entries:
abbrev pub next_by : Progress → Entry → Progress
next_by p e = progress_of (outcome_on p.table e).table (one_call_more p.passed (length (entry_bytes e)) (judged_in (e ∷ []))) false

abbrev pub after : Progress → List Entry → Progress
after p [] = p
after p (e ∷ es) = after (next_by p e) es

-- what stands behind an entry is not its answer
abbrev pub Clear : Entry → List ℕ → Type 0
Clear (alone call bytes) rest = behind_of call rest ≡ None
Clear (answered call bytes recorded) rest = Unit {0}

module _ (p : Progress) (call : Record) (bytes : List ℕ) (s : CallStands call bytes) (rest : List ℕ) where
  abbrev l : List ℕ
  l = whole_record call bytes ++ rest

  abbrev left : LeftAt
  left = made_on p.table call bytes any_out

  first : record_of l ≡ stands.Whole call
  first = call_first call bytes rest s

  same_left : left_by p.table call l ≡ left
  same_left = ap (λ (b : List ℕ). made_on p.table call b any_out) (call_bytes call bytes rest s)

  behind_is : drop (size_of call) l ≡ rest
  behind_is = call_rest call bytes rest s

  passes_alone : behind_of call rest ≡ None → checked_from p l ≡ checked_from (next_by p (alone call bytes)) rest
  passes_alone none =
      goes_on_lem p l (found_alone p l call first (ap (behind_of call) behind_is ∙ none))
      ∙ ap (λ (x : LeftAt). checked_from (progress_of x.table (one_call_more p.passed (size_of call) 0) false) (drop (size_of call) l)) same_left
      ∙ ap (λ (x : List ℕ). checked_from (progress_of left.table (one_call_more p.passed (size_of call) 0) false) x) behind_is
      ∙ ap (λ (n : ℕ). checked_from (progress_of left.table (one_call_more p.passed n 0) false) rest) (sym (call_size call bytes rest s))

module _ (p : Progress) (call : Record) (bytes recorded : List ℕ) (s : CallStands call bytes) (t : AnswerStands recorded) (rest : List ℕ) where
  abbrev a : Record
  a = answer_record call recorded

  abbrev m : List ℕ
  m = whole_record a recorded ++ rest

  abbrev here : LeftAt
  here = made_on p.table call bytes any_out

  abbrev k : List ℕ
  k = whole_record call bytes ++ m

  found_held : found_of p k ≡ held_against p.passed call a recorded here
  found_held =
      let rest_is = call_rest call bytes m s in
      found_answered p k call (call_first call bytes m s) a (ap (behind_of call) rest_is ∙ answer_behind call bytes recorded rest s t)
      ∙ ap (λ (x : List ℕ). held_against p.passed call a (record_bytes x a) (left_by p.table call k)) rest_is
      ∙ ap (λ (x : List ℕ). held_against p.passed call a x (left_by p.table call k)) (answer_bytes_lem call bytes recorded rest s t)
      ∙ ap (λ (x : LeftAt). held_against p.passed call a recorded x) (same_left p call bytes s m)

  both_size : length (whole_record call bytes ++ whole_record a recorded) ≡ size_of call + size_of a
  both_size =
      omega (
        arith,
        call_size call bytes m s,
        answer_size_lem call bytes recorded rest s t,
        length-append (whole_record call bytes) (whole_record a recorded),
      )

  behind_both : drop (size_of call + size_of a) k ≡ rest
  behind_both =
      sym (drop-drop (size_of a) (size_of call) k) ∙ ap (drop (size_of a)) (call_rest call bytes m s) ∙ answer_rest call bytes recorded rest s t

  passes_answered : IsRight p.table (answered call bytes recorded)
      → checked_from p (entry_bytes (answered call bytes recorded) ++ rest) ≡ checked_from (next_by p (answered call bytes recorded)) rest
  passes_answered right =
      ap (checked_from p) (append_assoc (whole_record call bytes) (whole_record a recorded) rest)
      ∙ goes_on_lem p k (found_held ∙ held_right p.passed call a recorded here right)
      ∙ ap (λ (x : List ℕ). checked_from (progress_of here.table (one_call_more p.passed (size_of call + size_of a) 1) false) x) behind_both
      ∙ ap (λ (n : ℕ). checked_from (progress_of here.table (one_call_more p.passed n 1) false) rest) (sym both_size)

  pub stops_wrong : (IsRight p.table (answered call bytes recorded) → ⊥)
      → checked_from p (entry_bytes (answered call bytes recorded) ++ rest) ≡ difference p.passed call recorded here
  stops_wrong wrong =
      ap (checked_from p) (append_assoc (whole_record call bytes) (whole_record a recorded) rest)
      ∙ ends_there p k (found_held ∙ held_wrong p.passed call a recorded here wrong)

one_passes : (p : Progress) (e : Entry) (rest : List ℕ) → EntryStands e → IsRight p.table e → Clear e rest
    → checked_from p (entry_bytes e ++ rest) ≡ checked_from (next_by p e) rest
one_passes p (alone call bytes) rest s right clear = passes_alone p call bytes s rest clear
one_passes p (answered call bytes recorded) rest s right clear = passes_answered p call bytes recorded s.0 s.1 rest right

-- ---- all of them

-- an entry begins with a call, which is no answer
pub entry_no_answer : (before : Record) (e : Entry) (rest : List ℕ) → EntryStands e → behind_of before (entry_bytes e ++ rest) ≡ None
entry_no_answer before (alone call bytes) rest s = call_no_answer call bytes rest s before
entry_no_answer before (answered call bytes recorded) rest s =
    let a = whole_record (answer_record call recorded) recorded in
    ap (behind_of before) (append_assoc (whole_record call bytes) a rest) ∙ call_no_answer call bytes (a ++ rest) s.0 before

-- what stands behind the last is not its answer
abbrev pub ClearLast : List Entry → List ℕ → Type 0
ClearLast [] rest = Unit {0}
ClearLast (e ∷ []) rest = Clear e rest
ClearLast (e ∷ f ∷ es) rest = ClearLast (f ∷ es) rest

-- no answer stands there at all
pub clear_of : (es : List Entry) (rest : List ℕ) → ((before : Record) → behind_of before rest ≡ None) → ClearLast es rest
clear_of [] rest none = tt
clear_of (alone call bytes ∷ []) rest none = none call
clear_of (answered call bytes recorded ∷ []) rest none = tt
clear_of (e ∷ f ∷ es) rest none = clear_of (f ∷ es) rest none

-- another entry stands behind an entry
clear_next : (e f : Entry) (rest : List ℕ) → EntryStands f → Clear e (entry_bytes f ++ rest)
clear_next (alone call bytes) f rest s = entry_no_answer call f rest s
clear_next (answered call bytes recorded) f rest s = tt

pub passes_all : (es : List Entry) (rest : List ℕ) (p : Progress) → AllStand es → AllRight p.table es → ClearLast es rest
    → checked_from p (file_of es ++ rest) ≡ checked_from (after p es) rest
passes_all [] rest p s right clear = refl
passes_all (e ∷ []) rest p s right clear =
    ap (checked_from p) (append_assoc (entry_bytes e) [] rest) ∙ one_passes p e rest s.0 right.0 clear
passes_all (e ∷ f ∷ es) rest p s right clear =
    let more = file_of (f ∷ es) ++ rest in
    ap (checked_from p) (append_assoc (entry_bytes e) (file_of (f ∷ es)) rest)
    ∙ one_passes p e more s.0 right.0
    (subst (Clear e) (sym (append_assoc (entry_bytes f) (file_of es) rest)) (clear_next e f (file_of es ++ rest) s.1.0))
    ∙ passes_all (f ∷ es) rest (next_by p e) s.1 right.1 clear

-- ---- how far it is behind them

pub after_table : (p : Progress) (es : List Entry) → (after p es).table ≡ table_after p.table es
after_table p [] = refl
after_table p (e ∷ es) = after_table (next_by p e) es

pub after_calls : (p : Progress) (es : List Entry) → (after p es).passed.calls ≡ p.passed.calls + length es
after_calls p [] = omega arith
after_calls p (e ∷ es) = omega (arith, after_calls (next_by p e) es)

pub one_judged : (e : Entry) (es : List Entry) → judged_in (e ∷ es) ≡ judged_in (e ∷ []) + judged_in es
one_judged (alone call bytes) es = omega arith
one_judged (answered call bytes recorded) es = omega arith

pub after_judged : (p : Progress) (es : List Entry) → (after p es).passed.judged ≡ p.passed.judged + judged_in es
after_judged p [] = omega arith
after_judged p (e ∷ es) = omega (arith, after_judged (next_by p e) es, one_judged e es)

pub after_offset : (p : Progress) (es : List Entry) → (after p es).passed.offset ≡ p.passed.offset + length (file_of es)
after_offset p [] = omega arith
after_offset p (e ∷ es) = omega (arith, after_offset (next_by p e) es, length-append (entry_bytes e) (file_of es))
