-- A turn, by what stands first: the call of a record is made on the table that the machine has, with the out buffer that it is lent.
-- Assumes nothing.
use Prim.Native.Nat.{ℕ, ◌+◌, ◌-◌, ◌≤◌}
use mathlib.Core.Path.{◌≡◌, refl, sym, ap, subst, ◌∙◌}
use mathlib.Core.Bool.{Bool, true, false, ◌||◌}
use mathlib.Core.List.{List, [], ◌∷◌, ◌++◌, append-nil}
use native.Mathlib.Omega.{arith}
use lib.ListN.{length, take, drop, set, length-drop}
use Rattle.std.proofs.lemmas.List.{set-set}
use lib.Seq.{set-get_or, take_all, length-take-le}
use lib.Dec.{eqb, ltb}
use borrow.Author.Tests.{le-leb}
use Rattle.std.specs.Prelude.{Option, Some, None, MatchOption}
use Rattle.std.specs.Option.{option_copied}
use Rattle.std.specs.Borrow.{Bor}
use Rattle.rules.specs.Rows.{when◌answer◌else◌}
use Rattle.clock.specs.Clock.{wrapped}
use Rattle.field.specs.Row.{row_of}
use Rattle.connection.specs.declared.Connection.{Connection}
use Rattle.connection.specs.Connection.{all_zero}
use Rattle.calls.specs.declared.Answer.{Answer}
use Rattle.calls.specs.Calls.{refusal, made}
use Rattle.table.specs.Table.{most_records, bad_slot, record_at, LeftAt, leaves_at, stored_at, made_at}
use Rattle.text.specs.Ascii.{ascii}
use Rattle.text.specs.Text.{same_word}
use Rattle.pieces.specs.Pieces.{TurnTaken}
use Rattle.trace.specs.Record.{fields_size, size_of, record_bytes, record_of}
use Rattle.trace.specs.Call.{room, call_of, made_on}
use Rattle.trace.specs.declared.Record.{Record}
use Rattle.trace.specs.declared.Next.{Next}
use Rattle.trace.specs.declared.Next.TheVariants as stands
use Rattle.recorded_answer.specs.Answer.{answer_widths, is_right, behind_of}
use Rattle.recorded_answer.proofs.Answers.{behind_is}
use Rattle.replay_lines.proofs.Lent.{whatever_out_holds}
use Rattle.recorder_file.specs.Said.{line_of, place_line, answer_words, recorded_line, difference_told, bad_told}
use Rattle.recorder_file.specs.Check.{
  Found,
  nth,
  difference,
  held_against,
  found_at_call,
  left_by,
  found_on,
  leaves_out,
  one_call_more,
  turn_by,
  turn_on,
  turn_of,
}
use Rattle.recorder_file.specs.Check.Found.{ends, passes}
use Rattle.recorder_file.specs.declared.Passed.{Passed}
use Rattle.recorder_file.specs.declared.Progress.{Progress}
use Rattle.recorder_file.specs.declared.Verdict.TheVariants.{Agrees, Differs, Bad}
use Rattle.recorder_file.specs.Written.{same_written, written_within}

-- the bytes behind a place, as a slice has them
pub rest_is : (s : List ℕ) (used : ℕ) → take (length s - used) (drop used s) ≡ drop used s
rest_is s used = take_all (length s - used) (drop used s) (omega (arith, length-drop used s))

-- the answer behind a call's bytes
pub answer_there : {a : Record} (r : Record) (s : List ℕ) → behind_of r (take (length s - size_of r) (drop (size_of r) s)) ≡ Some a
    → behind_of r (drop (size_of r) s) ≡ Some a
answer_there r s e = ap (behind_of r) (sym (rest_is s (size_of r))) ∙ e

-- the bytes of a record behind it
pub recorded_is : (s : List ℕ) (used : ℕ) (a : Record)
    → take ((fields_size + a.length) - fields_size) (drop fields_size (take (length s - used) (drop used s))) ≡ record_bytes (drop used s) a
recorded_is s used a =
    let size : (fields_size + a.length) - fields_size ≡ a.length = omega arith in
    ap (λ (l : List ℕ). take ((fields_size + a.length) - fields_size) (drop fields_size l)) (rest_is s used)
    ∙ ap (λ (n : ℕ). take n (drop fields_size (drop used s))) size

pub recorded_size : (r a : Record) (s : List ℕ) → behind_of r s ≡ Some a → length (record_bytes s a) ≡ a.length
recorded_size r a s e =
    length-take-le a.length (drop fields_size s) (omega (arith, (behind_is r s a e).fits, length-drop fields_size s))

-- how far a check is, of its parts
abbrev pub progress_of : List Connection → Passed → Bool → Progress
progress_of table passed stopped = record { table = table; passed = passed; stopped = stopped }

-- what an element that is not there says
pub none_at : {X : Type 0} (P : Type 0) (Q : Bor X → Type 0) (o : Option (Bor X)) → option_copied o ≡ None → MatchOption o P Q → P
none_at P Q None e past = past
none_at P Q (Some x) e within = cc

-- what a call on the table leaves of it, where the slot is bad or not
abbrev left_in : Bool → List Connection → Record → List ℕ → List ℕ → LeftAt
left_in bad table r bytes lent =
    when bad answer leaves_at (refusal 101) table lent else
    stored_at table r.slot (made (call_of r.kind bytes) (record_at table r.slot) r.now bytes lent)

module _ (table : List Connection) (r : Record) (bytes lent : List ℕ) {after : List Connection} (is : after ≡ (made_on table r bytes lent).table) where
  -- the record that stood there, stored again
  pub stored_again : {c : Connection} → record_at table r.slot ≡ c → set after r.slot c ≡ table
  unfolding made_at
  stored_again {c} e =
      ap (λ (t : List Connection). set t r.slot c) is
      ∙ ap (λ (k : Connection). set (made_on table r bytes lent).table r.slot k) (sym e)
      ∙ by (bad_slot (length table) r.slot)
    where
      by : (bad : Bool) → set (left_in bad table r bytes lent).table r.slot (record_at table r.slot) ≡ table
      by true = set-get_or table r.slot all_zero
      by false =
          let next = (made (call_of r.kind bytes) (record_at table r.slot) r.now bytes lent).called.next in
          set-set table r.slot next (record_at table r.slot) ∙ set-get_or table r.slot all_zero

  -- on a slot that is none nothing was stored
  pub none_stored : length table ≤ r.slot → after ≡ table
  unfolding made_at bad_slot
  none_stored h = is ∙ rw (le-leb (length table) r.slot h) (by (eqb (length table) 0) (ltb most_records (length table)))
    where
      by : (none over : Bool) → (left_in (none || over || true) table r bytes lent).table ≡ table
      by true over = refl
      by false true = refl
      by false false = refl

-- a call that may stand there
module _ (p : Progress) (r : Record) (s lent : List ℕ) (room-lent : length lent ≡ room) {b : Answer} {table : List Connection}
    {lent_after : List ℕ} (answered : leaves_at b table lent_after ≡ made_on p.table r (record_bytes s r) lent) where
  abbrev left : LeftAt
  left = left_by p.table r s

  abbrev rest : List ℕ
  rest = drop (size_of r) s

  any : ((made_on p.table r (record_bytes s r) lent).answer ≡ left.answer) × ((made_on p.table r (record_bytes s r) lent).table ≡ left.table)
  any = whatever_out_holds p.table r (record_bytes s r) lent room-lent

  same_answer : b ≡ left.answer
  same_answer = ap (λ (l : LeftAt). l.answer) answered ∙ any.0

  same_table : table ≡ left.table
  same_table = ap (λ (l : LeftAt). l.table) answered ∙ any.1

  same_out : lent_after ≡ (made_on p.table r (record_bytes s r) lent).out
  same_out = ap (λ (l : LeftAt). l.out) answered

  wrote : take b.written lent_after ≡ take left.answer.written left.out
  wrote =
      ap (λ (l : LeftAt). take l.answer.written l.out) answered ∙ same_written p.table r (record_bytes s r) lent room-lent

  pub writes_within : b.written ≤ length lent_after
  writes_within =
      subst (λ (l : LeftAt). l.answer.written ≤ length l.out) (sym answered) (written_within p.table r (record_bytes s r) lent)

  -- an answer is right by what the rules give, whatever the out buffer held
  abbrev right_by : List ℕ → Answer → List ℕ → Bool
  right_by recorded a written = same_word recorded (row_of answer_widths (a.number ∷ (when a.released answer 1 else 0) ∷ wrapped a.age.0 ∷ []) ++ written)

  same_right : (recorded : List ℕ) → is_right recorded b lent_after ≡ is_right recorded left.answer left.out
  same_right recorded = ap (right_by recorded b) wrote ∙ ap (λ (a : Answer). right_by recorded a (take left.answer.written left.out)) same_answer

  -- the turn, by what is found
  module _ {q : Progress} {out out_after : List ℕ} {used : ℕ} where
    found_as : (f : Found) → found_on p (stands.Whole r) s ≡ f
        → TurnTaken (turn_by p f (leaves_out p (stands.Whole r) s)) q lent lent_after out out_after used
        → TurnTaken (turn_on p (stands.Whole r) s) q lent lent_after out out_after used
    found_as f found taken =
        subst (λ (g : Found). TurnTaken (turn_by p g (leaves_out p (stands.Whole r) s)) q lent lent_after out out_after used) (sym found) taken

    passes_by : {judged : ℕ} → found_on p (stands.Whole r) s ≡ passes used judged left.table
        → q ≡ progress_of table (one_call_more p.passed used judged) false → out_after ≡ out
        → TurnTaken (turn_on p (stands.Whole r) s) q lent lent_after out out_after used
    passes_by {judged} found state put =
        found_as (passes used judged left.table) found
        (record {
          state = state ∙ ap (λ (t : List Connection). progress_of t (one_call_more p.passed used judged) false) same_table;
          leaves = same_out;
          put = put ∙ sym (append-nil out);
          uses = refl;
        })

  pub alone_turn : {q : Progress} {out : List ℕ} → behind_of r rest ≡ None → q ≡ progress_of table (one_call_more p.passed (size_of r) 0) false
      → TurnTaken (turn_on p (stands.Whole r) s) q lent lent_after out out (size_of r)
  alone_turn none state = passes_by (ap (λ (k : Option Record). found_at_call p.passed r k rest left) none) state refl

  module _ (a : Record) (there : behind_of r rest ≡ Some a) (recorded : List ℕ) (is : recorded ≡ record_bytes rest a) where
    held : (right : Bool) → is_right recorded b lent_after ≡ right
        → found_on p (stands.Whole r) s ≡ (when right answer passes (size_of r + size_of a) 1 left.table else ends (difference p.passed r recorded left))
    held right e =
        ap (λ (k : Option Record). found_at_call p.passed r k rest left) there
        ∙ ap (λ (l : List ℕ). held_against p.passed r a l left) (sym is)
        ∙ ap (λ (k : Bool). when k answer passes (size_of r + size_of a) 1 left.table else ends (difference p.passed r recorded left)) (sym (same_right recorded) ∙ e)

    pub right_turn : {q : Progress} {out : List ℕ} → is_right recorded b lent_after ≡ true
        → q ≡ progress_of table (one_call_more p.passed (size_of r + size_of a) 1) false
        → TurnTaken (turn_on p (stands.Whole r) s) q lent lent_after out out (size_of r + size_of a)
    right_turn right state = passes_by (held true right) state refl

    -- the rules' line, by the bytes that were written
    abbrev told_by : Answer → List ℕ → List ℕ
    told_by b written =
        line_of (Differs (p.passed.calls + 1)) ++ (place_line (nth p.passed + 1) (p.passed.offset + size_of r) ++ ascii ": not the answer that the rules give\n" ++ recorded_line recorded
        ++ (ascii "the rules:" ++ answer_words b.number (when b.released answer 1 else 0) b.age written))

    pub wrong_turn : {q : Progress} {out out_after : List ℕ} → is_right recorded b lent_after ≡ false → q ≡ progress_of p.table p.passed true
        → out_after ≡ out ++ (line_of (Differs (p.passed.calls + 1)) ++ difference_told (nth p.passed + 1) (p.passed.offset + size_of r) recorded b lent_after)
        → TurnTaken (turn_on p (stands.Whole r) s) q lent lent_after out out_after 0
    wrong_turn {out = out} wrong state put =
        found_as (ends (difference p.passed r recorded left)) (held false wrong)
        (record {
          state = state;
          leaves = same_out;
          put =
              put ∙ ap (λ (l : List ℕ). out ++ l)
              (ap (told_by b) wrote ∙ ap (λ (a : Answer). told_by a (take left.answer.written left.out)) same_answer);
          uses = refl;
        })

-- the turns that stop at what stands first
module _ (p : Progress) (s lent out : List ℕ) {out_after : List ℕ} where
  pub end_turn : record_of s ≡ stands.End → out_after ≡ out ++ line_of (Agrees p.passed.judged)
      → TurnTaken (turn_of p s) (progress_of p.table p.passed true) lent lent out out_after 0
  end_turn first put =
      subst (λ (n : Next). TurnTaken (turn_on p n s) (progress_of p.table p.passed true) lent lent out out_after 0) (sym first)
      (record { state = refl; leaves = refl; put = put ∙ ap (λ (l : List ℕ). out ++ l) (sym (append-nil (line_of (Agrees p.passed.judged)))); uses = refl })

  pub bad_turn : record_of s ≡ stands.Bad → out_after ≡ out ++ (line_of Bad ++ bad_told (nth p.passed) p.passed.offset s)
      → TurnTaken (turn_of p s) (progress_of p.table p.passed true) lent lent out out_after 0
  bad_turn first put =
      subst (λ (n : Next). TurnTaken (turn_on p n s) (progress_of p.table p.passed true) lent lent out out_after 0) (sym first)
      (record { state = refl; leaves = refl; put = put; uses = refl })
