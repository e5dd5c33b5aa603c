-- What stands directly behind a call's record: the parts of an answer, each case, and that no more than the most bytes of an answer are looked at.
-- Assumes nothing.
use Prim.Native.Nat.{ℕ, ◌+◌, ◌≤◌, ◌<◌}
use mathlib.Core.Path.{◌≡◌, refl, sym, ap, subst, ◌∙◌}
use mathlib.Core.Bool.{Bool, true, false, not, ◌&&◌}
use mathlib.Core.List.{List, ◌++◌}
use native.Mathlib.Omega.{arith}
use borrow.Author.Tests.{ltb-false, lt-ltb, le-ltb, eqb-true, not-true}
use Rattle.std.proofs.lemmas.Bool.{and_parts, or_parts}
use Rattle.std.proofs.lemmas.Bool.Decides.{nat_tests}
use lib.Dec.{eqb, ltb}
use lib.ListN.{length, length-append}
use Rattle.rules.specs.Rows.{when◌answer◌else◌}
use Rattle.connection.specs.Connection.{◌outside◌to◌}
use Rattle.trace.specs.Record.{fields_at, fields_size, size_of, wrong_mark, cut_record}
use Rattle.trace.specs.declared.Record.{Record}
use Rattle.trace.proofs.Records.{same_fields}
use Rattle.recorded_answer.specs.Answer.{answer_kind, answer_fields_size, most_answer_bytes, answers_to, behind_of}
use Rattle.std.specs.Prelude.{Some, None}

-- by its fields a record is the answer to a call
pub record Answering (call a : Record) : Type 0 where
  pub mark : wrong_mark a ≡ false
  pub kind : a.kind ≡ answer_kind
  pub slot : a.slot ≡ call.slot
  pub now : a.now.0 ≡ call.now.0
  pub least : answer_fields_size ≤ a.length
  pub most : a.length ≤ most_answer_bytes

module _ (call a : Record) where
  pub answers_parts : answers_to call a ≡ true → Answering call a
  unfolding answers_to ◌outside◌to◌
  answers_parts e =
      let size = and_parts (not (wrong_mark a) && eqb a.kind answer_kind && eqb a.slot call.slot && eqb a.now.0 call.now.0) _ e in
      let now = and_parts (not (wrong_mark a) && eqb a.kind answer_kind && eqb a.slot call.slot) _ size.0 in
      let slot = and_parts (not (wrong_mark a) && eqb a.kind answer_kind) _ now.0 in
      let kind = and_parts (not (wrong_mark a)) _ slot.0 in
      let within = or_parts (ltb a.length answer_fields_size) (ltb most_answer_bytes a.length) (not-true _ size.1) in
      record {
        mark = not-true _ kind.0;
        kind = eqb-true a.kind answer_kind kind.1;
        slot = eqb-true a.slot call.slot slot.1;
        now = eqb-true a.now.0 call.now.0 now.1;
        least = ltb-false a.length answer_fields_size within.0;
        most = ltb-false most_answer_bytes a.length within.1;
      }

  pub parts_answer : Answering call a → answers_to call a ≡ true
  unfolding answers_to ◌outside◌to◌
  parts_answer p = grind (arith, nat_tests, p.mark, p.kind, p.slot, p.now, p.least, p.most)

-- an answer stands there, whole
pub record AnsweredBy (call : Record) (s : List ℕ) (a : Record) : Type 0 where
  pub is : fields_at s ≡ a
  pub answering : Answering call a
  pub fits : size_of a ≤ length s

module _ (call : Record) (s : List ℕ) where
  by_tests : (answers cut : Bool) → answers_to call (fields_at s) ≡ answers → cut_record s (fields_at s) ≡ cut
      → behind_of call s ≡ (when answers && not cut answer Some (fields_at s) else None)
  unfolding behind_of
  by_tests answers cut e f = rw (e, f)

  pub not_answered : answers_to call (fields_at s) ≡ false → behind_of call s ≡ None
  not_answered e = by_tests false (cut_record s (fields_at s)) e refl

  pub cut_behind : length s < size_of (fields_at s) → behind_of call s ≡ None
  unfolding cut_record
  cut_behind h = by_tests (answers_to call (fields_at s)) true refl (lt-ltb (length s) (size_of (fields_at s)) h) ∙ none (answers_to call (fields_at s))
    where
      none : (b : Bool) → (when b && not true answer Some (fields_at s) else None) ≡ None
      none true = refl
      none false = refl

  pub is_behind : answers_to call (fields_at s) ≡ true → size_of (fields_at s) ≤ length s → behind_of call s ≡ Some (fields_at s)
  unfolding cut_record
  is_behind e h = by_tests true false e (le-ltb (length s) (size_of (fields_at s)) h)

  pub behind_is : (a : Record) → behind_of call s ≡ Some a → AnsweredBy call s a
  unfolding cut_record
  behind_is a e = by (answers_to call (fields_at s)) (cut_record s (fields_at s)) refl refl
    where
      by : (answers cut : Bool) → answers_to call (fields_at s) ≡ answers → cut_record s (fields_at s) ≡ cut → AnsweredBy call s a
      by true true f g = let none = sym (by_tests true true f g) ∙ e in cc
      by false cut f g = let none = sym (by_tests false cut f g) ∙ e in cc
      by true false f g =
          let there = sym (by_tests true false f g) ∙ e in
          let same : fields_at s ≡ a = cc in
          record {
            is = same;
            answering = subst (λ (r : Record). Answering call r) same (answers_parts call (fields_at s) f);
            fits = subst (λ (r : Record). size_of r ≤ length s) same (ltb-false (length s) (size_of (fields_at s)) g);
          }

-- bytes that follow are not looked at
pub behind_no_more : (call : Record) (s rest : List ℕ) → fields_size + most_answer_bytes ≤ length s → behind_of call (s ++ rest) ≡ behind_of call s
behind_no_more call s rest many = by (answers_to call (fields_at s)) refl
  where
    fields : fields_at (s ++ rest) ≡ fields_at s
    fields = same_fields s rest (omega arith)

    by : (answers : Bool) → answers_to call (fields_at s) ≡ answers → behind_of call (s ++ rest) ≡ behind_of call s
    by false e = not_answered call (s ++ rest) (ap (answers_to call) fields ∙ e) ∙ sym (not_answered call s e)
    by true e =
        let most = (answers_parts call (fields_at s) e).most in
        is_behind call (s ++ rest) (ap (answers_to call) fields ∙ e)
        (subst (λ (r : Record). size_of r ≤ length (s ++ rest)) (sym fields) (omega (arith, most, length-append s rest)))
        ∙ ap Some fields ∙ sym (is_behind call s e (omega (arith, most)))
