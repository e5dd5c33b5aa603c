-- Rows there and back: what is written is read, what is read is written, and exactly the rows of valid connections are accepted.
-- Assumes nothing.
use Prim.Native.Nat.{ℕ, zero, suc, ◌+◌, ◌^◌, ◌≤◌}
use Rattle.std.proofs.lemmas.Bool.{and_parts, or_parts}
use mathlib.Core.Path.{◌≡◌, refl, sym, ap, ap₂, subst, ◌∙◌}
use mathlib.Core.Bool.{Bool, true, false, not, ◌&&◌, ◌||◌}
use mathlib.Core.List.{List, [], ◌∷◌, append-nil}
use mathlib.Core.Logic.{inl, inr}
use native.Mathlib.Omega.{arith}
use borrow.Author.Tests.{eqb-true, eqb-false, eq-eqb, ne_eqb, lt-ltb, le-ltb, ltb-false, not-false}
use lib.Dec.{T, ltb, leb, eqb, lit<}
use lib.ListN.{length, take, drop, get_or}
use lib.Seq.{sets, sets-eq, take_all, take_at}
use lib.IntN.{ℤ}
use Rattle.rules.specs.Modulo.{modulo}
use Rattle.rules.specs.Rows.{when◌answer◌else◌}
use Rattle.clock.specs.Clock.{wrapped, centred}
use Rattle.clock.proofs.Wrapped.{wrapped_lt, centred_range}
use Rattle.clock.proofs.RoundTrip.{bits_there, bits_back}
use Rattle.field.specs.Field.{field_of, bytes_of}
use Rattle.field.specs.Row.{fields_of, row_of, FitsRow, Bytes}
use Rattle.field.proofs.Row.{bytes_row, fields_fit, fields_of_row, row_of_fields}
use Rattle.connection.specs.declared.Connection.{Connection}
use Rattle.connection.specs.Connection.{closed, initiator_waits_for2, opened, out_of_range, unsound, ◌outside◌to◌, of_parts, all_zero}
use Rattle.std.specs.Prelude.{Some}
use Rattle.connection_row.specs.Row.{row_widths, row_size, connection_from, stands_for, numbers_of, row_bytes}
use Rattle.connection_row.specs.Stored.{zeros, row_refusal, row_read, Wrote, wrote, row_stored}
use Rattle.connection_row.proofs.Accepts.{read_accepted}
use Rattle.connection_row.proofs.Writes.{row_size_lem}
use Rattle.calls.proofs.Replies.{row_off}
use Rattle.row_calls.specs.Numbers.{field_count, fits, fields_read, fields_written}
use Rattle.row_calls.proofs.Fields.{length_fields, numbers_back}
use Rattle.row_promises.specs.Rows.{Ranges, Storable, WrittenReadsBack, ReadWritesBack, AcceptsExactly, WritesExactly, NumbersAre, NumbersBack}

-- ---- numbers and records

numbers_fit : (c : Connection) → Ranges c → FitsRow row_widths (numbers_of c)
numbers_fit c r = (
  r.phase,
  (
    r.settings.n,
    (
      r.settings.t_max,
      (
        r.settings.e,
        (
          r.settings.t_start,
          (
            r.settings.t_off,
            (
              r.settings.limit,
              (
                r.own.number,
                (
                  r.own.period,
                  (
                    r.peer.number,
                    (
                      r.peer.stamp,
                      (
                        r.peer.arrival,
                        (
                          r.wait,
                          (wrapped_lt c.offsets.min.0, (wrapped_lt c.offsets.max.0, (r.errors, (r.clock, tt)))),
                        ),
                      ),
                    ),
                  ),
                ),
              ),
            ),
          ),
        ),
      ),
    ),
  ),
)

from_numbers : (c : Connection) → Ranges c → connection_from (numbers_of c) ≡ c
from_numbers c r =
    ap₂ (λ (min max : ℤ). of_parts c.phase c.settings c.own c.peer c.wait_start (record { min = record { 0 = min }; max = record { 0 = max } }) c.errors c.clock)
    (bits_there c.offsets.min.0 r.offsets.min) (bits_there c.offsets.max.0 r.offsets.max)

-- the fields of a row of bytes are the numbers of the record that they make
pub numbers_of_fields : (row : List ℕ) → Bytes row → numbers_of (connection_from (fields_of row_widths row 0)) ≡ fields_of row_widths row 0
numbers_of_fields row b =
    let f = fields_fit row_widths row 0 b in
    cc (bits_back (field_of row 40 4) f.1.1.1.1.1.1.1.1.1.1.1.1.1.0, bits_back (field_of row 44 4) f.1.1.1.1.1.1.1.1.1.1.1.1.1.1.0)

-- ---- a record's row

pub row_is_bytes : (c : Connection) → Bytes (row_bytes c)
unfolding row_bytes
row_is_bytes c = bytes_row row_widths (numbers_of c)

-- it stands for that record
pub stands_for_lem : (c : Connection) → Ranges c → stands_for (row_bytes c) ≡ c
unfolding row_bytes stands_for
stands_for_lem c r =
    ap (λ (l : List ℕ). connection_from (fields_of row_widths l 0)) (sym (append-nil (row_of row_widths (numbers_of c))))
    ∙ ap connection_from (fields_of_row row_widths (numbers_of c) [] [] 0 refl (numbers_fit c r))
    ∙ from_numbers c r

-- a row of bytes is the row of the record that it stands for
pub row_of_its_record : (row : List ℕ) → Bytes row → length row ≡ row_size → row_bytes (stands_for row) ≡ row
unfolding row_bytes stands_for
row_of_its_record row b e =
    ap (row_of row_widths) (numbers_of_fields row b) ∙ row_of_fields row_widths row 0 b (omega (arith, e)) ∙ take_all row_size row (omega (arith, e))

pub ranges_of : (row : List ℕ) → Bytes row → Ranges (stands_for row)
unfolding stands_for
ranges_of row b =
    let f = fields_fit row_widths row 0 b in
    record {
      phase = f.0;
      settings = record { n = f.1.0; t_max = f.1.1.0; e = f.1.1.1.0; t_start = f.1.1.1.1.0; t_off = f.1.1.1.1.1.0; limit = f.1.1.1.1.1.1.0 };
      own = record { number = f.1.1.1.1.1.1.1.0; period = f.1.1.1.1.1.1.1.1.0 };
      peer = record { number = f.1.1.1.1.1.1.1.1.1.0; stamp = f.1.1.1.1.1.1.1.1.1.1.0; arrival = f.1.1.1.1.1.1.1.1.1.1.1.0 };
      wait = f.1.1.1.1.1.1.1.1.1.1.1.1.0;
      offsets = record { min = centred_range _; max = centred_range _ };
      errors = f.1.1.1.1.1.1.1.1.1.1.1.1.1.1.1.0;
      clock = f.1.1.1.1.1.1.1.1.1.1.1.1.1.1.1.1.0;
    }

-- ---- rows that are all zero

zero_byte : (s : List ℕ) (i : ℕ) → zeros s ≡ true → get_or s i 0 ≡ 0
unfolding zeros
zero_byte [] i z = refl
zero_byte (b ∷ s) zero z = eqb-true b 0 (and_parts (eqb b 0) (zeros s) z).0
zero_byte (b ∷ s) (suc i) z = zero_byte s i (and_parts (eqb b 0) (zeros s) z).1

zero_field : (s : List ℕ) (at w : ℕ) → zeros s ≡ true → field_of s at w ≡ 0
unfolding field_of
zero_field s at zero z = refl
zero_field s at (suc w) z = omega (arith, zero_field s at w z, zero_byte s (at + w) z)

zero_row : (row : List ℕ) → zeros row ≡ true → stands_for row ≡ all_zero
unfolding stands_for centred wrapped modulo
zero_row row z =
    rw (
      none 0 1,
      none 1 2,
      none 3 4,
      none 7 4,
      none 11 4,
      none 15 4,
      none 19 1,
      none 20 2,
      none 22 4,
      none 26 2,
      none 28 4,
      none 32 4,
      none 36 4,
      none 40 4,
      none 44 4,
      none 48 1,
      none 49 4,
    ) refl
  where
    none : (at w : ℕ) → field_of row at w ≡ 0
    none at w = zero_field row at w z

zero_accepted : row_refusal (row_bytes all_zero) ≡ 0
unfolding row_refusal row_bytes stands_for zeros bytes_of field_of wrapped modulo
zero_accepted = refl

pub zero_ranges : Ranges all_zero
zero_ranges = record {
  phase = lit< tt;
  settings = record { n = lit< tt; t_max = lit< tt; e = lit< tt; t_start = lit< tt; t_off = lit< tt; limit = lit< tt };
  own = record { number = lit< tt; period = lit< tt };
  peer = record { number = lit< tt; stamp = lit< tt; arrival = lit< tt };
  wait = lit< tt;
  offsets = record { min = lit< tt; max = lit< tt };
  errors = lit< tt;
  clock = lit< tt;
}

-- ---- which rows are accepted

-- a phase in range is not closed
pub not_closed : (c : Connection) → unsound c ≡ false → eqb c.phase closed ≡ false
unfolding unsound ◌outside◌to◌
not_closed c u =
    let a = or_parts (out_of_range c.settings || c.phase outside initiator_waits_for2 to opened) (leb c.settings.limit c.errors) u in
    let b = or_parts (out_of_range c.settings) (c.phase outside initiator_waits_for2 to opened) a.0 in
    let d = or_parts (ltb c.phase initiator_waits_for2) (ltb opened c.phase) b.1 in
    let l : 1 ≤ c.phase = ltb-false c.phase initiator_waits_for2 d.0 in
    ne_eqb c.phase closed (λ e. omega arith)

-- what is known of a row that is accepted
pub record Accepted (row : List ℕ) : Type 0 where
  pub size : length row ≡ row_size
  pub no_leftovers : eqb (stands_for row).phase closed ≡ true → zeros row ≡ true
  pub sound : eqb (stands_for row).phase closed ≡ false → unsound (stands_for row) ≡ false

pub accepted : (row : List ℕ) → row_refusal row ≡ 0 → Accepted row
unfolding row_refusal
accepted row e =
    let a = row_off (not (eqb (length row) row_size)) 109 _ (lit< tt) e in
    let b = row_off (eqb (stands_for row).phase closed && not (zeros row)) 109 _ (lit< tt) a.1 in
    let d = row_off (not (eqb (stands_for row).phase closed) && unsound (stands_for row)) 109 0 (lit< tt) b.1 in
    record {
      size = eqb-true (length row) row_size (not-false (eqb (length row) row_size) a.0);
      no_leftovers = λ p. all (eqb (stands_for row).phase closed) (zeros row) p b.0;
      sound = λ p. none (eqb (stands_for row).phase closed) (unsound (stands_for row)) p d.0;
    }
  where
    all : (p z : Bool) → p ≡ true → p && not z ≡ false → z ≡ true
    all true z q f = not-false z f
    all false z q f = absurd (subst T (sym q) tt)

    none : (p u : Bool) → p ≡ false → not p && u ≡ false → u ≡ false
    none true u q f = absurd (subst T q tt)
    none false u q f = f

-- a record that is accepted, all zero where it is closed
pub valid_of : (row : List ℕ) → row_refusal row ≡ 0 → Storable (stands_for row)
valid_of row e = go (eqb (stands_for row).phase closed) refl
  where
    go : (p : Bool) → eqb (stands_for row).phase closed ≡ p → Storable (stands_for row)
    go true q = inl (zero_row row ((accepted row e).no_leftovers q))
    go false q = inr ((accepted row e).sound q)

sound_accepted : (c : Connection) → Ranges c → unsound c ≡ false → row_refusal (row_bytes c) ≡ 0
unfolding row_refusal
sound_accepted c r u = rw (eq-eqb (length (row_bytes c)) row_size (row_size_lem c), stands_for_lem c r, not_closed c u, u) refl

pub valid_accepted : (c : Connection) → Ranges c → Storable c → row_refusal (row_bytes c) ≡ 0
valid_accepted c r (inl e) = rw e zero_accepted
valid_accepted c r (inr u) = sound_accepted c r u

-- ---- the promises

is_read : (row : List ℕ) → row_refusal row ≡ 0 → row_read row ≡ Some (stands_for row)
unfolding row_read
is_read row e = rw e refl

read_is : (row : List ℕ) (c : Connection) → row_read row ≡ Some c → (row_refusal row ≡ 0) × (stands_for row ≡ c)
read_is row c e = let x = read_accepted row (row_read row) c refl e in (eqb-true (row_refusal row) 0 x.0, x.1)

-- a row that was stored
module _ (row out : List ℕ) where
  abbrev stored_by : Bool → Bool → Wrote
  stored_by a b =
      when not a answer wrote (row_refusal row) out else
      when b answer wrote 108 out else
      wrote 0 (sets out 0 row)

  was_stored : (row_stored row out).number ≡ 0 → (row_refusal row ≡ 0) × (row_size ≤ length out) × ((row_stored row out).lent ≡ sets out 0 row)
  unfolding row_stored
  was_stored = go (eqb (row_refusal row) 0) (ltb (length out) row_size) refl refl
    where
      go : (a b : Bool) → eqb (row_refusal row) 0 ≡ a → ltb (length out) row_size ≡ b
          → (stored_by a b).number ≡ 0 → (row_refusal row ≡ 0) × (row_size ≤ length out) × ((stored_by a b).lent ≡ sets out 0 row)
      go true true p q e = let z : ⊥ = omega arith in absurd z
      go true false p q e = (eqb-true (row_refusal row) 0 p, ltb-false (length out) row_size q, refl)
      go false b p q e = absurd (eqb-false (row_refusal row) 0 p e)

-- the first of a buffer are what was stored there
first_of : (n : ℕ) (vs out : List ℕ) → length vs ≡ n → n ≤ length out → take n (sets out 0 vs) ≡ vs
first_of n vs out e l = ap (take n) (sets-eq vs out 0 (omega arith)) ∙ take_at vs (drop (0 + length vs) out) n e

pub written_reads_back : WrittenReadsBack
written_reads_back c out r e =
    let x = was_stored (row_bytes c) out e in
    ap (λ (l : List ℕ). row_read (take row_size l)) x.2
    ∙ ap row_read (first_of row_size (row_bytes c) out (row_size_lem c) x.1)
    ∙ is_read (row_bytes c) x.0
    ∙ ap Some (stands_for_lem c r)

pub read_writes_back : ReadWritesBack
read_writes_back row c b e =
    let x = read_is row c e in
    ap row_bytes (sym x.1) ∙ row_of_its_record row b (accepted row x.0).size

pub accepts_exactly : (row : List ℕ) → Bytes row → AcceptsExactly row
accepts_exactly row b =
    record {
      accepted_is_valid = λ e. record {
        connection = stands_for row;
        ranges = ranges_of row b;
        valid = valid_of row e;
        its_row = sym (row_of_its_record row b (accepted row e).size);
      };
      valid_is_accepted = λ v. rw v.its_row (valid_accepted v.connection v.ranges v.valid);
    }

pub writes_exactly : (c : Connection) → Ranges c → WritesExactly c
writes_exactly c r =
    record {
      written_is_valid = λ e. subst Storable (stands_for_lem c r) (valid_of (row_bytes c) e);
      valid_is_written = valid_accepted c r;
    }

pub numbers_are : NumbersAre
unfolding stands_for row_bytes
numbers_are =
    record {
      read = λ row b e. sym (numbers_of_fields row b);
      written = λ fields e.
          let row : List ℕ = row_of row_widths fields in
          let same : fields_of row_widths row 0 ≡ fields = numbers_back fields e in
          ap (row_of row_widths) (sym (ap (λ (l : List ℕ). numbers_of (connection_from l)) (sym same) ∙ numbers_of_fields row (bytes_row row_widths fields) ∙ same));
    }

-- ---- numbers that C writes and reads

module _ (fields row : List ℕ) where
  abbrev written_by : Bool → Wrote
  written_by f = when not f answer wrote 109 row else row_stored (row_bytes (connection_from fields)) row

  -- numbers that were written fit
  numbers_fitted : (fields_written fields row).number ≡ 0
      → (fits row_widths fields ≡ true) × (fields_written fields row ≡ row_stored (row_bytes (connection_from fields)) row)
  unfolding fields_written
  numbers_fitted = go (fits row_widths fields)
    where
      go : (f : Bool) → (written_by f).number ≡ 0 → (f ≡ true) × (written_by f ≡ row_stored (row_bytes (connection_from fields)) row)
      go true e = (refl, refl)
      go false e = let z : ⊥ = omega arith in absurd z

module _ (row out : List ℕ) where
  abbrev read_by : Bool → Bool → Wrote
  read_by a b =
      when not a answer wrote (row_refusal row) out else
      when b answer wrote 108 out else
      wrote 0 (sets out 0 (fields_of row_widths row 0))

  -- numbers that were read
  numbers_read : (fields_read row out).number ≡ 0
      → (row_refusal row ≡ 0) × (field_count ≤ length out) × ((fields_read row out).lent ≡ sets out 0 (fields_of row_widths row 0))
  unfolding fields_read
  numbers_read = go (eqb (row_refusal row) 0) (ltb (length out) field_count) refl refl
    where
      go : (a b : Bool) → eqb (row_refusal row) 0 ≡ a → ltb (length out) field_count ≡ b
          → (read_by a b).number ≡ 0 → (row_refusal row ≡ 0) × (field_count ≤ length out) × ((read_by a b).lent ≡ sets out 0 (fields_of row_widths row 0))
      go true true p q e = let z : ⊥ = omega arith in absurd z
      go true false p q e = (eqb-true (row_refusal row) 0 p, ltb-false (length out) field_count q, refl)
      go false b p q e = absurd (eqb-false (row_refusal row) 0 p e)

  -- and are, where the row is accepted and there is room
  reads_numbers : row_refusal row ≡ 0 → field_count ≤ length out → fields_read row out ≡ wrote 0 (sets out 0 (fields_of row_widths row 0))
  unfolding fields_read
  reads_numbers e l = rw (e, le-ltb (length out) field_count l) refl

-- fields that fit their widths, as a test
row_fits : (ws xs : List ℕ) → FitsRow ws xs → fits ws xs ≡ true
unfolding fits
row_fits [] [] f = refl
row_fits [] (x ∷ xs) f = absurd f
row_fits (w ∷ ws) [] f = absurd f
row_fits (w ∷ ws) (x ∷ xs) f = rw (lt-ltb x (256 ^ w) f.0, row_fits ws xs f.1) refl

-- numbers that fit are written as the record that they make
writes_fields : (fields row : List ℕ) → fits row_widths fields ≡ true → fields_written fields row ≡ row_stored (row_bytes (connection_from fields)) row
unfolding fields_written
writes_fields fields row e = rw e refl

pub numbers_back_and_forth : NumbersBack
unfolding stands_for
numbers_back_and_forth =
    record {
      written_read = λ fields row out e l.
          let w = numbers_fitted fields row e in
          let c : Connection = connection_from fields in
          let same : row_bytes c ≡ row_of row_widths fields = sym (numbers_are.written fields w.0) in
          let x = was_stored (row_bytes c) row (sym (ap (λ (o : Wrote). o.number) w.1) ∙ e) in
          let front : take row_size (fields_written fields row).lent ≡ row_of row_widths fields =
          ap (λ (o : Wrote). take row_size o.lent) w.1 ∙ ap (take row_size) x.2 ∙ first_of row_size (row_bytes c) row (row_size_lem c) x.1 ∙ same in
          let accepted-there : row_refusal (row_of row_widths fields) ≡ 0 = subst (λ (r : List ℕ). row_refusal r ≡ 0) same x.0 in
          ap (λ (r : List ℕ). fields_read r out) front
          ∙ reads_numbers (row_of row_widths fields) out accepted-there l
          ∙ ap (λ (xs : List ℕ). wrote 0 (sets out 0 xs)) (numbers_back fields w.0);
      read_written = λ row out other b e.
          let x = numbers_read row out e in
          let fields : List ℕ = fields_of row_widths row 0 in
          let front : take field_count (fields_read row out).lent ≡ fields =
          ap (take field_count) x.2 ∙ first_of field_count fields out (length_fields row_widths row 0) x.1 in
          ap (λ (xs : List ℕ). fields_written xs other) front
          ∙ writes_fields fields other (row_fits row_widths fields (fields_fit row_widths row 0 b))
          ∙ ap (λ (r : List ℕ). row_stored r other) (row_of_its_record row b (accepted row x.0).size);
    }
