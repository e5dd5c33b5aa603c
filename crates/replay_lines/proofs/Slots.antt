-- A whole record's turn by its slot's record: the call on it where the slot is one, and 101 where it is none.
-- Assumes nothing.
use Prim.Native.Nat.{ℕ, ◌+◌, ◌≤◌, ◌<◌}
use mathlib.Core.Path.{◌≡◌, refl, sym, ap, subst, ◌∙◌}
use mathlib.Core.Logic.{◌⊎◌, inl, inr}
use mathlib.Core.Bool.{Bool, false}
use mathlib.Core.List.{List, ◌++◌}
use borrow.Author.Tests.{le-leb, lt-leb}
use Rattle.std.proofs.lemmas.Bool.{cases_lt}
use lib.ListN.{length, set}
use Rattle.clock.specs.Clock.{no_age}
use Rattle.clock.specs.declared.Age.{Age}
use Rattle.connection.specs.declared.Connection.{Connection}
use Rattle.calls.specs.declared.Called.{Called}
use Rattle.calls.specs.declared.Answer.{Answer}
use Rattle.calls.specs.Calls.{refusal, leaves}
use Rattle.table.specs.Table.{most_records, bad_slot, record_at, LeftAt, leaves_at, stored_at, made_at}
use Rattle.pieces.specs.Pieces.{TurnTaken}
use Rattle.trace.specs.Record.{record_of, size_of, record_bytes}
use Rattle.trace.specs.Call.{room, made_by, made_on}
use Rattle.trace.specs.declared.Record.{Record}
use Rattle.trace.specs.declared.Next.{Next}
use Rattle.trace.specs.declared.Next.TheVariants.{Whole}
use Rattle.replay_lines.specs.Printed.{line_of}
use Rattle.replay_lines.specs.Replay.{any_out, turn_on, turn_of}
use Rattle.replay_lines.specs.declared.Progress.{Progress}
use Rattle.replay_lines.proofs.Lent.{whatever_out_holds}

module _ (table : List Connection) (r : Record) (bytes out : List ℕ) (size : length table ≡ most_records) where
  pub made_here : r.slot < most_records → made_on table r bytes out ≡ stored_at table r.slot (made_by (record_at table r.slot) r bytes out)
  unfolding made_at bad_slot
  made_here h = rw (size, lt-leb most_records r.slot h)

  pub made_none : most_records ≤ r.slot → made_on table r bytes out ≡ leaves_at (refusal 101) table out
  unfolding made_at bad_slot
  made_none h = rw (size, le-leb most_records r.slot h)

-- how far a replay is, of its parts
abbrev pub progress_of : List Connection → ℕ → Bool → Progress
progress_of table count stopped = record { table = table; count = count; stopped = stopped }

module _ (p : Progress) (r : Record) (size : length p.table ≡ most_records) (rest lent out : List ℕ) (room-lent : length lent ≡ room) where
  abbrev bytes : List ℕ
  bytes = record_bytes rest r

  any : ((made_on p.table r bytes lent).answer ≡ (made_on p.table r bytes any_out).answer)
      × ((made_on p.table r bytes lent).table ≡ (made_on p.table r bytes any_out).table)
  any = whatever_out_holds p.table r bytes lent room-lent

  -- a whole record with a slot
  pub call_turn_lem : r.slot < most_records → {called : Called} {lent_after out_after : List ℕ}
      → leaves called lent_after ≡ made_by (record_at p.table r.slot) r bytes lent
      → out_after ≡ out ++ line_of r.slot called.answer.number called.answer.age
      → TurnTaken (turn_on p (Whole r) rest) (progress_of (set p.table r.slot called.next) (p.count + 1) false)
      lent lent_after out out_after (size_of r)
  call_turn_lem h {called} {lent_after} {out_after} left put =
      let stored : stored_at p.table r.slot (leaves called lent_after) ≡ made_on p.table r bytes lent =
      ap (stored_at p.table r.slot) left ∙ sym (made_here p.table r bytes lent size h) in
      record {
        state = ap (λ (t : List Connection). progress_of t (p.count + 1) false) (ap (λ (l : LeftAt). l.table) stored ∙ any.1);
        leaves = ap (λ (l : LeftAt). l.out) stored;
        put = put ∙ ap (λ (a : Answer). out ++ line_of r.slot a.number a.age) (ap (λ (l : LeftAt). l.answer) stored ∙ any.0);
        uses = refl;
      }

  -- a whole record whose slot is none
  pub refused_turn : {out_after : List ℕ} {age : Age} → most_records ≤ r.slot → age ≡ no_age → out_after ≡ out ++ line_of r.slot 101 age
      → TurnTaken (turn_on p (Whole r) rest) (progress_of p.table (p.count + 1) false) lent lent out out_after (size_of r)
  refused_turn {out_after} {age} h e put =
      let none = made_none p.table r bytes lent size h in
      record {
        state = ap (λ (t : List Connection). progress_of t (p.count + 1) false) (sym (ap (λ (l : LeftAt). l.table) none) ∙ any.1);
        leaves = sym (ap (λ (l : LeftAt). l.out) none);
        put =
            put ∙ ap (λ (a : Age). out ++ line_of r.slot 101 a) e
            ∙ ap (λ (a : Answer). out ++ line_of r.slot a.number a.age) (sym (ap (λ (l : LeftAt). l.answer) none) ∙ any.0);
        uses = refl;
      }

-- a whole record: its call on the table, however many slots that has, and its line
pub whole_turn : (p : Progress) (s lent out : List ℕ) (r : Record) → record_of s ≡ Whole r → length lent ≡ room → p.stopped ≡ false
    → {a : Answer} {table : List Connection} {lent_after out_after : List ℕ} → leaves_at a table lent_after ≡ made_on p.table r (record_bytes s r) lent
    → out_after ≡ out ++ line_of r.slot a.number a.age
    → TurnTaken (turn_of p s) (progress_of table (p.count + 1) p.stopped) lent lent_after out out_after (size_of r)
whole_turn p s lent out r is size goes {a} {table} {lent_after} {out_after} left put =
    let any = whatever_out_holds p.table r (record_bytes s r) lent size in
    let text = put ∙ ap (λ (b : Answer). out ++ line_of r.slot b.number b.age) (ap (λ (l : LeftAt). l.answer) left ∙ any.0) in
    subst (λ (n : Next). TurnTaken (turn_on p n s) (progress_of table (p.count + 1) p.stopped) lent lent_after out out_after (size_of r)) (sym is)
    (record {
      state =
          ap (λ (t : List Connection). progress_of t (p.count + 1) p.stopped) (ap (λ (l : LeftAt). l.table) left ∙ any.1)
          ∙ ap (progress_of (made_on p.table r (record_bytes s r) any_out).table (p.count + 1)) goes;
      leaves = ap (λ (l : LeftAt). l.out) left;
      put = text;
      uses = refl;
    })

-- a whole record on 64 slots: its call on the table, and its line, by whether its slot is one
pub slot_turn : (p : Progress) (s lent out : List ℕ) (r : Record) → record_of s ≡ Whole r → length lent ≡ room → p.stopped ≡ false
    → length p.table ≡ most_records
    → {a : Answer} {table : List Connection} {lent_after out_after : List ℕ} → leaves_at a table lent_after ≡ made_on p.table r (record_bytes s r) lent
    → out_after ≡ out ++ line_of r.slot a.number a.age
    → TurnTaken (turn_of p s) (progress_of table (p.count + 1) p.stopped) lent lent_after out out_after (size_of r)
slot_turn p s lent out r is room-lent goes size {a} {table} {lent_after} {out_after} left put =
    subst (λ (n : Next). TurnTaken (turn_on p n s) (progress_of table (p.count + 1) p.stopped) lent lent_after out out_after (size_of r)) (sym is)
    (subst (λ (b : Bool). TurnTaken (turn_on p (Whole r) s) (progress_of table (p.count + 1) b) lent lent_after out out_after (size_of r)) (sym goes)
    (by (cases_lt r.slot most_records)))
  where
    Taken : List Connection → List ℕ → Type 0
    Taken t l = TurnTaken (turn_on p (Whole r) s) (progress_of t (p.count + 1) false) lent l out out_after (size_of r)

    answered : (l : LeftAt) → leaves_at a table lent_after ≡ l → out_after ≡ out ++ line_of r.slot l.answer.number l.answer.age
    answered l e = put ∙ ap (λ (k : LeftAt). out ++ line_of r.slot k.answer.number k.answer.age) e

    left_there : (l : LeftAt) → leaves_at a table lent_after ≡ l → Taken l.table l.out → Taken table lent_after
    left_there l e taken = subst (λ (k : LeftAt). Taken k.table k.out) (sym e) taken

    by : (r.slot < most_records) ⊎ (most_records ≤ r.slot) → Taken table lent_after
    by (inl there) =
        let made = made_by (record_at p.table r.slot) r (record_bytes s r) lent in
        let e = left ∙ made_here p.table r (record_bytes s r) lent size there in
        left_there (stored_at p.table r.slot made) e
        (call_turn_lem p r size s lent out room-lent there {called = made.called} {lent_after = made.out} refl (answered (stored_at p.table r.slot made) e))
    by (inr none) =
        let e = left ∙ made_none p.table r (record_bytes s r) lent size none in
        left_there (leaves_at (refusal 101) p.table lent) e
        (refused_turn p r size s lent out room-lent none refl (answered (leaves_at (refusal 101) p.table lent) e))
