-- The steps of writing, each from what the tests on the way say.
-- Assumes nothing.
use Prim.Native.Nat.{ℕ, ◌+◌, ◌<◌, ◌≤◌, ◌^◌}
use Rattle.std.proofs.Math.Bool.{and-false}
use mathlib.Core.Path.{◌≡◌, refl, ap, ◌∙◌, sym, subst}
use mathlib.Core.Bool.{Bool, true, false, not, ◌&&◌}
use mathlib.Core.List.{List}
use native.Mathlib.Omega.{arith}
use borrow.Author.Tests.{lt-leb, le-leb}
use lib.Dec.{T}
use lib.ListN.{length, length-append}
use lib.Seq.{sets}
use Rattle.field.specs.Field.{bytes_of}
use Rattle.message.specs.Table.{header_size, table_of, lists, total_of}
use Rattle.message.specs.Read.{later_stamp, check_over}
use Rattle.message.specs.declared.Header.{Header}
use Rattle.message.specs.declared.Tail.{Tail}
use Rattle.message.specs.declared.Listed.{Listed}
use Rattle.message.proofs.Rows.{least_small}
use Rattle.message_writing.specs.Writing.{header_bytes, after_bytes, message_bytes, lent_as_said, allowed_of, writes, message_written}
use Rattle.message_writing.proofs.Sizes.{sized}

-- a row's total fits
pub room_for : (row : Listed) (type n : ℕ) → row ≡ table_of type → n < 2 ^ 63 → row.least + n < 2 ^ 64
room_for row type n e h = let l : row.least ≡ (table_of type).least = cc in omega (arith, least_small type)

-- the parts of what is allowed
pub record AllowedParts (h : Header) (t : Tail) (n : ℕ) : Type 0 where
  pub total_listed : lists (table_of h.kind) (total_of (table_of h.kind) n) ≡ true
  pub stamps : later_stamp h ≡ false
  pub check : check_over t.check ≡ false
  pub count : lent_as_said (table_of h.kind).after t.«data» n ≡ true

module _ (h : Header) (t : Tail) (n : ℕ) where
  pub allowed_parts : allowed_of h t n ≡ true → AllowedParts h t n
  unfolding allowed_of
  allowed_parts e =
      go (lists (table_of h.kind) (total_of (table_of h.kind) n)) (later_stamp h) (check_over t.check)
      refl refl refl e
    where
      go : (l b k : Bool) → lists (table_of h.kind) (total_of (table_of h.kind) n) ≡ l → later_stamp h ≡ b → check_over t.check ≡ k
          → l && not b && not k && lent_as_said (table_of h.kind).after t.«data» n ≡ true → AllowedParts h t n
      go true false false p q r e = record { total_listed = p; stamps = q; check = r; count = e }
      go true false true p q r e = absurd (subst T (sym e) tt)
      go true true k p q r e = absurd (subst T (sym e) tt)
      go false b k p q r e = absurd (subst T (sym e) tt)

  pub parts_allowed : AllowedParts h t n → allowed_of h t n ≡ true
  unfolding allowed_of
  parts_allowed a = rw (a.total_listed, a.stamps, a.check) a.count

-- an allowed message has as many bytes as its total
pub allowed_size : (h : Header) (t : Tail) (lent : List ℕ) → allowed_of h t (length lent) ≡ true
    → header_size + length (after_bytes (table_of h.kind).after t lent) ≡ total_of (table_of h.kind) (length lent)
allowed_size h t lent a = sized h.kind t lent (allowed_parts h t (length lent) a).total_listed

-- the size written is the total of the type's row
pub size_is_total : (h : Header) (t : Tail) (lent : List ℕ) → allowed_of h t (length lent) ≡ true
    → length (message_bytes h t lent) ≡ total_of (table_of h.kind) (length lent)
unfolding bytes_of
size_is_total h t lent a = length-append (header_bytes h) (after_bytes (table_of h.kind).after t lent) ∙ allowed_size h t lent a

module _ (out : List ℕ) (h : Header) (t : Tail) (lent : List ℕ) where
  -- what `write` answers, and what it leaves
  abbrev Answer : ℕ → List ℕ → Type 0
  Answer r done = (r ≡ length (message_written (length out) h t lent)) × (done ≡ sets out 0 (message_written (length out) h t lent))

  nothing : writes (length out) h t (length lent) ≡ false → Answer 0 out
  unfolding message_written
  nothing e = (rw e, rw e)

  pub not_allowed_lem : allowed_of h t (length lent) ≡ false → Answer 0 out
  unfolding writes
  not_allowed_lem a = nothing (rw a)

  total_of_type : (row : Listed) (total : ℕ) → row ≡ table_of h.kind → total ≡ total_of row (length lent)
      → total ≡ total_of (table_of h.kind) (length lent)
  total_of_type row total e f = f ∙ ap (λ (r : Listed). total_of r (length lent)) e

  pub no_room : (row : Listed) (total : ℕ) → row ≡ table_of h.kind → total ≡ total_of row (length lent) → length out < total → Answer 0 out
  unfolding writes
  no_room row total e f l =
      nothing (rw (← (total_of_type row total e f), lt-leb total (length out) l) (and-false (allowed_of h t (length lent))))

  -- what is known where the bytes are written
  pub record Ready (row : Listed) (total : ℕ) : Type 0 where
    pub row_is : row ≡ table_of h.kind
    pub total_is : total ≡ total_of row (length lent)
    pub allowed : allowed_of h t (length lent) ≡ true
    pub room : total ≤ length out

  module _ {row : Listed} {total : ℕ} (r : Ready row total) where
    abbrev size_is : total ≡ total_of (table_of h.kind) (length lent)
    size_is = total_of_type row total r.row_is r.total_is

    pub after_fits : header_size + length (after_bytes row.after t lent) ≤ length out
    after_fits = rw r.row_is (omega (arith, allowed_size h t lent r.allowed, size_is, r.room))

    pub written : {head done : List ℕ} → head ≡ sets out 0 (header_bytes h) → done ≡ sets head header_size (after_bytes row.after t lent) → Answer total done
    unfolding writes message_written bytes_of
    written p q =
        let w : writes (length out) h t (length lent) ≡ true = rw (r.allowed, ← size_is) (le-leb total (length out) r.room) in
        (rw w (size_is ∙ sym (size_is_total h t lent r.allowed)), rw (q, p, r.row_is, w))
