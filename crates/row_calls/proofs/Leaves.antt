-- The ways out of a call over a row: refused, or the call on the record, stored in both rows.
-- Assumes nothing.
use Prim.Native.Nat.{ℕ, ◌<◌, ◌≤◌}
use mathlib.Core.Path.{◌≡◌, refl, sym, ap, subst, ◌∙◌}
use mathlib.Core.Bool.{Bool, true, false, not, ◌||◌}
use mathlib.Core.List.{List}
use native.Mathlib.Omega.{arith}
use borrow.Author.Tests.{eqb-true, ne_eqb, eq-eqb, lt-ltb, le-ltb, not-false}
use lib.Dec.{eqb}
use lib.ListN.{length}
use lib.Seq.{sets}
use mir.Val.{bool_byte}
use Rattle.rules.specs.Rows.{when◌answer◌else◌}
use Rattle.clock.specs.Clock.{wrapped}
use Rattle.clock.specs.declared.Count.{Count}
use Rattle.field.specs.Field.{bytes_of}
use Rattle.field.specs.Row.{fields_of}
use Rattle.connection.specs.declared.Connection.{Connection}
use Rattle.std.proofs.lemmas.Bool.{or_parts}
use Rattle.std.specs.Prelude.{Option, Some, None}
use Rattle.connection_row.specs.Row.{row_widths, row_size, connection_from, stands_for, row_bytes}
use Rattle.connection_row.specs.Stored.{row_refusal, row_read, Wrote, wrote, row_written}
use Rattle.connection_row.proofs.Accepts.{accepted_size, refused_with_109}
use Rattle.calls.specs.declared.Answer.{Answer}
use Rattle.calls.specs.declared.Call.{Call}
use Rattle.calls.specs.declared.Called.{Called}
use Rattle.calls.specs.Calls.{Leaves, leaves, made}
use Rattle.promises.specs.Promises.{callers_fault}
use Rattle.row_calls.specs.Answer.{answer_size, place_of, answer_bytes}
use Rattle.row_calls.specs.RowCalls.{refused_rows, rows_read, StoredIn, stored, stored_in, leaves_in, made_in}
use Rattle.row_calls.specs.Numbers.{field_count, fits, fields_read, fields_written}
use Rattle.row_calls.proofs.Small.{Small, answer_small}

-- ---- what was read

module _ (row : List ℕ) (n : ℕ) where
  abbrev read_by : Bool → Option Connection
  read_by b = when b answer None else Some (stands_for row)

  are_refused : (r : Option Connection) → r ≡ rows_read row n → r ≡ None → refused_rows row n ≡ true
  unfolding rows_read
  are_refused r e f = go (refused_rows row n) (sym e ∙ f)
    where
      go : (b : Bool) → read_by b ≡ None → b ≡ true
      go true q = refl
      go false q = let z : ◌≡◌ {A = ℕ} 0 1 = cc in let q : ⊥ = omega arith in absurd q

  are_read : (r : Option Connection) (c : Connection) → r ≡ rows_read row n → r ≡ Some c → (refused_rows row n ≡ false) × (stands_for row ≡ c)
  unfolding rows_read
  are_read r c e f = go (refused_rows row n) (sym e ∙ f)
    where
      go : (b : Bool) → read_by b ≡ Some c → (b ≡ false) × (stands_for row ≡ c)
      go true q = let z : ◌≡◌ {A = ℕ} 0 1 = cc in let q : ⊥ = omega arith in absurd q
      go false q = (refl, cc)

  pub accepted_row : refused_rows row n ≡ false → row_refusal row ≡ 0
  unfolding refused_rows
  accepted_row e =
      eqb-true (row_refusal row) 0 (not-false (eqb (row_refusal row) 0) (or_parts (not (eqb (row_refusal row) 0)) (not (eqb n answer_size)) e).0)

  pub accepted_answer_row : refused_rows row n ≡ false → n ≡ answer_size
  unfolding refused_rows
  accepted_answer_row e = eqb-true n answer_size (not-false (eqb n answer_size) (or_parts (not (eqb (row_refusal row) 0)) (not (eqb n answer_size)) e).1)

  pub sized : (r : Option Connection) (c : Connection) → r ≡ rows_read row n → r ≡ Some c → (length row ≡ row_size) × (n ≡ answer_size)
  sized r c e f =
      let x : refused_rows row n ≡ false = (are_read r c e f).0 in
      (accepted_size row (accepted_row x), accepted_answer_row x)

-- ---- storing

byte_of : (b : Bool) → bool_byte b ≡ (when b answer 1 else 0)
byte_of true = refl
byte_of false = refl

-- fields that are written one after the other are the answer row
pub answer_row_lem : (said : Answer) (o : List ℕ) {a b d e f : List ℕ} {place bits : ℕ}
    → a ≡ sets o 0 (bytes_of 1 (bool_byte said.released))
    → b ≡ sets a 1 (bytes_of 2 said.written)
    → d ≡ sets b 3 (bytes_of 2 place) → place ≡ place_of said.delivered
    → e ≡ sets d 5 (bytes_of 2 said.delivered)
    → f ≡ sets e 7 (bytes_of 4 bits) → bits ≡ wrapped said.age.0
    → f ≡ sets o 0 (answer_bytes said)
unfolding bytes_of answer_bytes
answer_row_lem said o w1 w2 w3 p w4 w5 z = rw (w5, z, w4, w3, p, w2, w1, byte_of said.released) refl

pub answer_row_size : (said : Answer) → length (answer_bytes said) ≡ answer_size
unfolding answer_bytes bytes_of
answer_row_size said = refl

module _ (row answer_row : List ℕ) (called : Called) where
  pub not_stored : callers_fault called.answer.number ≡ true → stored called.answer.number row answer_row ≡ stored_in row answer_row called
  unfolding stored_in
  not_stored e = rw e refl

  pub both_stored : callers_fault called.answer.number ≡ false
      → stored called.answer.number (row_bytes called.next) (answer_bytes called.answer) ≡ stored_in row answer_row called
  unfolding stored_in
  both_stored e = rw e refl

-- ---- the whole call

module _ (call : Call) (row : List ℕ) (now : Count) (lent out answer_row : List ℕ) where
  pub refused_leaves : (r : Option Connection) → r ≡ rows_read row (length answer_row) → r ≡ None
      → leaves_in (stored 109 row answer_row) out ≡ made_in call row now lent out answer_row
  unfolding made_in
  refused_leaves r e f = rw (are_refused row (length answer_row) r e f) refl

  pub stored_leaves : (r : Option Connection) (c : Connection) → r ≡ rows_read row (length answer_row) → r ≡ Some c
      → (called : Called) (after : List ℕ) → leaves called after ≡ made call c now lent out
      → (left : StoredIn) → left ≡ stored_in row answer_row called → leaves_in left after ≡ made_in call row now lent out answer_row
  unfolding made_in
  stored_leaves r c e f called after m left s =
      let x = are_read row (length answer_row) r c e f in
      let same : leaves called after ≡ made call (stands_for row) now lent out = m ∙ ap (λ (d : Connection). made call d now lent out) (sym x.1) in
      rw x.0
      (ap (λ (l : StoredIn). leaves_in l after) s ∙ ap (λ (l : Leaves). leaves_in (stored_in row answer_row l.called) l.out) same)

-- an answer that fits the answer row
pub small_answer : (call : Call) (c : Connection) (now : Count) (lent out : List ℕ) (called : Called) (after : List ℕ)
    → leaves called after ≡ made call c now lent out → Small called.answer
small_answer call c now lent out called after m = subst (λ (l : Leaves). Small l.called.answer) (sym m) (answer_small call c now lent out)

-- ---- a row's fields as numbers

module _ (row fields : List ℕ) where
  pub not_a_row : fits row_widths fields ≡ false → wrote 109 row ≡ fields_written fields row
  unfolding fields_written
  not_a_row e = rw e refl

  pub a_row : (left : Wrote) (c : Connection) → fits row_widths fields ≡ true → c ≡ connection_from fields → left ≡ row_written c row → left ≡ fields_written fields row
  unfolding fields_written
  a_row left c f m e = rw f (e ∙ ap (λ (d : Connection). row_written d row) m)
