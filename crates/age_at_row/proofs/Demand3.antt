-- Demand 3 over a row, from demand 3 of the record that the row stands for.
-- Assumes nothing.
use Prim.Native.Nat.{ℕ, ◌+◌, ◌^◌, ◌<◌, ◌≤◌}
use mathlib.Core.Path.{◌≡◌, refl, sym, ap, subst, ◌∙◌}
use mathlib.Core.Bool.{Bool, true, false, ◌&&◌}
use mathlib.Core.List.{List}
use native.Mathlib.Omega.{arith}
use borrow.Author.Tests.{leb-true, ltb-true, ne_eqb}
use lib.Dec.{T, leb, ltb, eqb, lit<}
use lib.IntN.{ℤ, pos, ◌-ℤ◌}
use lib.ListN.{length, get_or}
use lib.Signed.{mag}
use Rattle.rules.specs.Rows.{when◌answer◌else◌}
use Rattle.clock.specs.Clock.{centred, age_of}
use Rattle.clock.specs.declared.Age.{Age}
use Rattle.clock.specs.declared.Count.{Count}
use Rattle.clock.proofs.Wrapped.{centred_range}
use Rattle.clock.proofs.RoundTrip.{bits_there}
use Rattle.field.specs.Row.{fields_of}
use Rattle.message.specs.Read.{parsed_of}
use Rattle.std.proofs.Common.{Option, Some, None}
use Rattle.message.specs.declared.Message.{Message}
use Rattle.connection.specs.declared.Connection.{Connection}
use Rattle.connection.specs.declared.Settings.{Settings}
use Rattle.connection.specs.Connection.{opened}
use Rattle.peer_faults.specs.Faults.{time_check_of, reports_age}
use Rattle.what_follows.specs.declared.Outcome.{Outcome}
use Rattle.calls.specs.declared.Call.{Call}
use Rattle.calls.specs.Calls.{receive_outcome, made}
use Rattle.promises.specs.Promises.{callers_fault, delivers_to, tells_age, reported_by}
use Rattle.promises.proofs.Reported.{call_reports}
use Rattle.connection_row.specs.Row.{stands_for}
use Rattle.row_calls.specs.Answer.{answer_widths, answer_numbers, place_of}
use Rattle.row_calls.specs.RowCalls.{refused_rows, StoredIn, LeftIn, made_in}
use Rattle.row_promises.specs.Calls.{Moves, RowPromises}
use Rattle.row_promises.proofs.Calls.{row_promises, delivered_part}
use Rattle.true_age.specs.Clocks.{count_of}
use Rattle.true_age.specs.History.{Ours, Written}
use Rattle.true_age.specs.Claim.{transit, true_age, AgeClaim, HandsUp, Claim}
use Rattle.true_age.proofs.Delivered.{hands_up, delivers}
use Rattle.true_age.proofs.Demand3.{demand_3}
use Rattle.age_at_row.specs.Run.{RowHistory}
use Rattle.age_at_row.specs.Claim.{place_in, length_in, age_in, Demand3AtRow}
use Rattle.age_at_row.proofs.Run.{runs_are_histories}

-- ---- a caller's fault claims nothing

module _ (c : Connection) (k : ℕ) (f : callers_fault k ≡ true) where
  within : (100 ≤ k) × (k < 200)
  within = go (leb 100 k) (ltb k 200) refl refl f
    where
      go : (a b : Bool) → leb 100 k ≡ a → ltb k 200 ≡ b → a && b ≡ true → (100 ≤ k) × (k < 200)
      go true true p q e = (leb-true 100 k p, ltb-true k 200 q)
      go true false p q e = absurd (subst T (sym e) tt)
      go false b p q e = absurd (subst T (sym e) tt)

  not_above : (n : ℕ) → 200 ≤ n → eqb k n ≡ false
  not_above n l = ne_eqb k n (λ e. omega (arith, within.1))

  not_zero : eqb k 0 ≡ false
  not_zero = ne_eqb k 0 (λ e. omega (arith, within.0))

  tells_none : tells_age c k ≡ false
  unfolding tells_age reports_age
  tells_none = rw (not_zero, not_above 204 (omega arith), not_above 205 (omega arith), not_above 206 (omega arith)) (go (eqb c.phase opened))
    where
      go : (b : Bool) → b && false ≡ false
      go true = refl
      go false = refl

  delivers_none : delivers_to c k ≡ false
  unfolding delivers_to
  delivers_none = rw (not_zero, not_above 204 (omega arith)) (go (eqb c.phase opened))
    where
      go : (b : Bool) → b && false ≡ false
      go true = refl
      go false = refl

  no_claim : (settings : Settings) (the_true_age j d : ℕ) (age : ℤ) → AgeClaim settings the_true_age j d age c k
  no_claim settings the_true_age j d age =
      record {
        bounds = λ e. absurd (subst T (sym e ∙ tells_none) tt);
        fresh_by_age = λ e. absurd (subst T (sym e ∙ delivers_none) tt);
        late_by_age = λ e. let q : ⊥ = omega (arith, within.1) in absurd q;
        future_by_age = λ e. let q : ⊥ = omega (arith, within.1) in absurd q;
        handed_up_lem = λ e. absurd (subst T (sym e ∙ delivers_none) tt);
        late = λ e. let q : ⊥ = omega (arith, within.1) in absurd q;
        future = λ e. let q : ⊥ = omega (arith, within.1) in absurd q;
      }

-- ---- an age that is reported fits its four bytes

reported_range : (c : Connection) (now : Count) (p : Option Message) (k : ℕ) → mag (reported_by c now p k).0 < 2 ^ 31
unfolding age_of
reported_range c now None k = lit< tt
reported_range c now (Some m) k = go (tells_age c k)
  where
    go : (b : Bool) → mag (when b answer (time_check_of c now m.header).age else record { 0 = pos 0 }).0 < 2 ^ 31
    go true = centred_range _
    go false = lit< tt

-- ---- what C reads in an answer row that was written

module _ (row : List ℕ) (now : Count) (message out answer_row : List ℕ) where
  abbrev comes : Outcome
  comes = receive_outcome (stands_for row) now message (length out)

  abbrev said : StoredIn
  said = (made_in Call.Receive row now message out answer_row).said

  -- it was written, and both rows were accepted
  record Read : Type 0 where
    number : said.number ≡ comes.number
    place : place_in said.answer ≡ place_of comes.delivered
    count : length_in said.answer ≡ comes.delivered
    age : age_in said.answer ≡ comes.age.0

  there : RowPromises Call.Receive row now message out answer_row
  there = row_promises Call.Receive row now message out answer_row

  age_range : mag comes.age.0 < 2 ^ 31
  age_range =
      subst (λ (a : Age). mag a.0 < 2 ^ 31) (sym (call_reports Call.Receive (stands_for row) now message (length out)))
      (reported_range (stands_for row) now (parsed_of message) comes.number)

  read : callers_fault said.number ≡ false → Read
  read f = go (refused_rows row (length answer_row)) refl
    where
      go : (b : Bool) → refused_rows row (length answer_row) ≡ b → Read
      go true e = absurd (subst T (sym (ap (λ (l : LeftIn). callers_fault l.said.number) (there.refused e)) ∙ f) tt)
      go false e =
          let m : Moves Call.Receive row now message out answer_row = there.moves e in
          let fields : fields_of answer_widths said.answer 0 ≡ answer_numbers (made Call.Receive (stands_for row) now message out).called.answer = m.answer_row_lem f in
          record {
            number = m.same_number;
            place = ap (λ (l : List ℕ). get_or l 2 0) fields;
            count = ap (λ (l : List ℕ). get_or l 3 0) fields;
            age = ap (λ (l : List ℕ). centred (pos (get_or l 4 0) -ℤ pos 0)) fields ∙ bits_there comes.age.0 age_range;
          }

pub demand_3_at_the_row : Demand3AtRow
demand_3_at_the_row W began j role settings t row log last run o u next band message out answer_row h s w m =
    let c : Connection = stands_for row in
    let y : RowHistory W began role settings t row log last = runs_are_histories W began role settings t row log last run in
    let claim : Claim W began j role settings log last c u message (length out) h m =
    demand_3 W began j role settings log last c y.history o u (W.early_trans last t u y.last_before next) band message (length out) h s w m in
    let now : Count = count_of (W.ours u) in
    let a : StoredIn = (made_in Call.Receive row now message out answer_row).said in
    let r : Outcome = receive_outcome c now message (length out) in
    let up : HandsUp c message r.number r.delivered = hands_up c now message (length out) in
    let up-there : callers_fault a.number ≡ false → HandsUp c message a.number (length_in a.answer) =
    λ f. let x = read row now message out answer_row f in
    subst (λ (k : ℕ). HandsUp c message k (length_in a.answer)) (sym x.number) (subst (HandsUp c message r.number) (sym x.count) up) in
    let age : (first : Ours W) → Written W 0 first log → true_age W m.sent u + settings.e + j + transit W first < 2 ^ 31
    → AgeClaim settings (true_age W m.sent u) j (transit W first) (age_in a.answer) c a.number =
    λ first written small. by_fault (callers_fault a.number) refl
    (λ f. no_claim c a.number f settings (true_age W m.sent u) j (transit W first) (age_in a.answer))
    (λ f. let x = read row now message out answer_row f in
    subst (λ (z : ℤ). AgeClaim settings (true_age W m.sent u) j (transit W first) z c a.number) (sym x.age)
    (subst (AgeClaim settings (true_age W m.sent u) j (transit W first) r.age.0 c) (sym x.number) (claim.age first written small))) in
    record {
      same_settings = claim.same_settings;
      own = claim.own;
      age = age;
      hands_up = up-there;
      part = λ f. let x = read row now message out answer_row f in
          rw (x.count, x.place) (delivered_part message r.delivered);
      byte_handed_up = λ first written small f some. (age first written small).handed_up_lem (delivers c message a.number (length_in a.answer) (up-there f) some);
    }
  where
    by_fault : {P : Type 0} {x : Bool} (b : Bool) → x ≡ b → (x ≡ true → P) → (x ≡ false → P) → P
    by_fault true e f g = f e
    by_fault false e f g = g e
