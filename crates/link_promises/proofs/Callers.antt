-- The promises of the list of callers: the ids on it and nothing else of it count, and a known caller's AU1 is the first packet that is handed up.
-- Assumes nothing.
use Prim.Native.Nat.{ℕ, zero, suc, ◌+◌, ◌*◌, ◌/◌, ◌<◌}
use mathlib.Core.Path.{◌≡◌, refl, sym, ap, ap₂, ◌∙◌, subst}
use mathlib.Core.Bool.{Bool, true, false, not, ◌&&◌, ◌||◌, false≢true, and-false, or_assoc}
use Rattle.std.proofs.lemmas.Bool.Decides.{same_from_decides}
use mathlib.Core.List.Memᴰ
use mathlib.Core.List.{List, [], ◌∷◌, ◌++◌, Memᴰ}
use mathlib.Core.Logic.{⊎_elim}
use native.Mathlib.Nat.{div-eq_of_lt}
use native.Mathlib.Omega.{arith}
use borrow.Author.Tests.{eq-eqb, eqb-true, not-false}
use lib.Arith.{digits_div}
use lib.Dec.{eqb}
use lib.ListN.{length, length-append, replicate}
use Rattle.rules.specs.Rows.{when◌answer◌else◌}
use Rattle.field.specs.Row.{fields_of, row_of, width_of}
use Rattle.field.proofs.Row.{fields_of_row, length_row}
use Rattle.packet.specs.Packet.{packet_header_at, user_data_at}
use Rattle.packet.specs.declared.Header.{Header}
use Rattle.packet_types.specs.Types.{au1, caller_of, called_of, classes_of, in_class_d, opening_fault}
use Rattle.links.specs.declared.State.{State}
use Rattle.links.specs.declared.Taken.{Taken}
use Rattle.links.specs.Taken.{fresh_state, handed_up}
use Rattle.links.specs.Callers.{id_size, callers_of, is_one_of, listed, not_allowed}
use Rattle.links.specs.Table.{held, not_opening, link_rows, class_d_rows, rows_of, taken_of, user_data_of}
use Rattle.links.proofs.Bools.{both_false}
use Rattle.links.proofs.ClassRows.{row_allowed}
use Rattle.links.proofs.LinkRows.{row_class}
use Rattle.link_promises.specs.Promises.{of_link}
use Rattle.link_promises.specs.Callers.{ListHoldsItsIds, SameIds, SameStep, OnlyIdsCount, OrderMakesNoDifference, TwiceMakesNoDifference, OthersNotJudged}
use Rattle.link_promises.specs.Callers.{Lent, taken_by, data_by, state_after, NoneHandsUp, KnownCall, KnownCallFirst, EmptyLists, EmptyLetsNobodyIn, KnownCallLetIn}
use Rattle.link_promises.proofs.Accepted.{right_length, looked_at}
use Rattle.link_promises.proofs.Outcome.{Accepted, by_step}
use Rattle.link_promises.proofs.Promises.{data_of_packet}

-- ---- the ids on a list

-- an id is one of some exactly where it is in their list
one_in : (id : ℕ) (ids : List ℕ) → is_one_of id ids ≡ true → Memᴰ id ids
one_in id [] e = absurd (false≢true e)
one_in id (one ∷ others) e = by (eqb one id) refl e (one_in id others)
  where
    by : (b : Bool) → eqb one id ≡ b → (b || is_one_of id others) ≡ true → (is_one_of id others ≡ true → Memᴰ id others) → Memᴰ id (one ∷ others)
    by true is e rest = Memᴰ.head (sym (eqb-true one id is))
    by false is e rest = Memᴰ.tail (rest e)

in_one : (id : ℕ) (ids : List ℕ) → Memᴰ id ids → is_one_of id ids ≡ true
in_one id [] m = absurd (Memᴰ.not-nil m)
in_one id (one ∷ others) m =
    ⊎_elim (λ e. simp (eq-eqb one id (sym e))) (λ rest. by (eqb one id) (in_one id others rest)) (Memᴰ.cases_cons m)
  where
    by : (b : Bool) → is_one_of id others ≡ true → (b || is_one_of id others) ≡ true
    by true e = refl
    by false e = e

same_listed : (callers callers' : List ℕ) → SameIds callers callers' → (id : ℕ) → listed id callers ≡ listed id callers'
unfolding listed
same_listed callers callers' same id =
    same_from_decides {P = Memᴰ id (callers_of callers)} (is_one_of id (callers_of callers)) (is_one_of id (callers_of callers'))
    (one_in id (callers_of callers), in_one id (callers_of callers))
    (λ e. (same id).1 (one_in id (callers_of callers') e), λ m. in_one id (callers_of callers') ((same id).0 m))

one_of_both : (id : ℕ) (ids others : List ℕ) → is_one_of id (ids ++ others) ≡ (is_one_of id ids || is_one_of id others)
one_of_both id [] others = refl
one_of_both id (one ∷ ids) others =
    ap (λ (b : Bool). eqb one id || b) (one_of_both id ids others) ∙ sym (or_assoc (eqb one id) (is_one_of id ids) (is_one_of id others))

-- what is one of a list with two entries
one_of_parts : (id : ℕ) (before between behind : List ℕ) (one other : ℕ)
    → is_one_of id (before ++ (one ∷ (between ++ (other ∷ behind))))
    ≡ (is_one_of id before || (eqb one id || (is_one_of id between || (eqb other id || is_one_of id behind))))
one_of_parts id before between behind one other =
    one_of_both id before (one ∷ (between ++ (other ∷ behind)))
    ∙ ap (λ (b : Bool). is_one_of id before || (eqb one id || b)) (one_of_both id between (other ∷ behind))

pub list_holds_its_ids : ListHoldsItsIds
list_holds_its_ids ids rest fits short =
    let widths = replicate (length ids) id_size in
    let size : length (row_of widths ids ++ rest) ≡ length ids * id_size + length rest =
    length-append (row_of widths ids) rest ∙ ap (λ (n : ℕ). n + length rest) (length_row widths ids fits ∙ all_wide (length ids)) in
    ap (λ (n : ℕ). fields_of (replicate n id_size) (row_of widths ids ++ rest) 0)
    (ap (λ (n : ℕ). n / id_size) size ∙ digits_div (length ids) short)
    ∙ fields_of_row widths ids [] rest 0 refl fits
  where
    all_wide : (n : ℕ) → width_of (replicate n id_size) ≡ n * id_size
    all_wide zero = refl
    all_wide (suc n) = let rest = all_wide n in omega arith

-- ---- what a step takes of the list

-- the list and our own id are asked in one row alone
same_class : (callers : List ℕ) (ours : ℕ) (callers' : List ℕ) (ours' : ℕ) (state : State)
    → ((user_data : List ℕ) → (state.first && state.responder && not_allowed callers ours user_data) ≡ (state.first && state.responder && not_allowed callers' ours' user_data))
    → (link : Bool) (at : ℕ) (header : Header) (user_data : List ℕ)
    → class_d_rows link at header user_data callers ours state ≡ class_d_rows link at header user_data callers' ours' state
unfolding class_d_rows
same_class callers ours callers' ours' state same link at header user_data = rw (same user_data) refl

same_rows : (callers : List ℕ) (ours : ℕ) (callers' : List ℕ) (ours' : ℕ) (state : State)
    → ((user_data : List ℕ) → (state.first && state.responder && not_allowed callers ours user_data) ≡ (state.first && state.responder && not_allowed callers' ours' user_data))
    → SameStep callers ours callers' ours' state
unfolding taken_of
same_rows callers ours callers' ours' state same normal normal_at redundant redundant_at =
    ap₂ (λ (t t' : Taken). when (held state.normal_up normal normal_at) answer t else t') (rows true true normal normal_at)
    (rows (held state.redundant_up redundant redundant_at) false redundant redundant_at)
  where
    rows : (found link : Bool) (s : List ℕ) (at : ℕ) → rows_of found link s at callers ours state ≡ rows_of found link s at callers' ours' state
    rows found link s at = ap (link_rows found link s at state) (same_class callers ours callers' ours' state same link at (packet_header_at s at) (user_data_at s at))

same_lists : (callers callers' : List ℕ) (ours : ℕ) (state : State) → ((id : ℕ) → listed id callers ≡ listed id callers') → SameStep callers ours callers' ours state
unfolding not_allowed
same_lists callers callers' ours state same =
    same_rows callers ours callers' ours state
    (λ user_data. ap (λ (b : Bool). state.first && state.responder && (not b || not (eqb (called_of user_data) ours))) (same (caller_of user_data)))

pub only_ids_count : OnlyIdsCount
only_ids_count callers callers' ours state same = same_lists callers callers' ours state (same_listed callers callers' same)

pub order_makes_no_difference : OrderMakesNoDifference
unfolding listed
order_makes_no_difference callers callers' ours state before between behind one other e e' =
    same_lists callers callers' ours state (λ id.
    ap (is_one_of id) e ∙ one_of_parts id before between behind one other
    ∙ changed (is_one_of id before) (eqb one id) (is_one_of id between) (eqb other id) (is_one_of id behind)
    ∙ sym (ap (is_one_of id) e' ∙ one_of_parts id before between behind other one))
  where
    changed : (a x b y c : Bool) → (a || (x || (b || (y || c)))) ≡ (a || (y || (b || (x || c))))
    changed true x b y c = refl
    changed false true true true c = refl
    changed false true true false c = refl
    changed false true false true c = refl
    changed false true false false c = refl
    changed false false true true c = refl
    changed false false true false c = refl
    changed false false false true c = refl
    changed false false false false c = refl

pub twice_makes_no_difference : TwiceMakesNoDifference
unfolding listed
twice_makes_no_difference callers callers' ours state before between behind one e e' =
    same_lists callers callers' ours state (λ id.
    ap (is_one_of id) e ∙ one_of_parts id before between behind one one
    ∙ once (is_one_of id before) (eqb one id) (is_one_of id between) (is_one_of id behind)
    ∙ sym (ap (is_one_of id) e' ∙ one_of_both id before (one ∷ (between ++ behind))
    ∙ ap (λ (b : Bool). is_one_of id before || (eqb one id || b)) (one_of_both id between behind)))
  where
    once : (a x b c : Bool) → (a || (x || (b || (x || c)))) ≡ (a || (x || (b || c)))
    once true x b c = refl
    once false true b c = refl
    once false false b c = refl

pub others_not_judged : OthersNotJudged
others_not_judged callers callers' ours ours' state other =
    same_rows callers ours callers' ours' state
    (λ user_data.
    ⊎_elim (λ (initiator : state.responder ≡ false). simp (initiator, and-false)) (λ (later : state.first ≡ false). simp later) other)

-- ---- steps one after the other

-- an AU1 that is allowed: its caller is on the list, and it calls us
allowed_in : (callers : List ℕ) (ours : ℕ) (user_data : List ℕ) → not_allowed callers ours user_data ≡ false
    → Memᴰ (caller_of user_data) (callers_of callers) × (called_of user_data ≡ ours)
unfolding not_allowed listed
allowed_in callers ours user_data e =
    let parts = both_false (not (is_one_of (caller_of user_data) (callers_of callers))) (not (eqb (called_of user_data) ours)) e in
    (one_in (caller_of user_data) (callers_of callers) (not-false _ parts.0), eqb-true (called_of user_data) ours (not-false _ parts.1))

opens_as_au1 : (header : Header) (user_data : List ℕ) → not_opening true header user_data ≡ false → header.kind ≡ au1
unfolding not_opening
opens_as_au1 header user_data e =
    eqb-true header.kind au1 (not-false _ (both_false (not (eqb header.kind au1)) (opening_fault header.kind header.number user_data) e).0)

module _ (lent : Lent) (state : State) where
  -- a step that hands up nothing leaves the first packet awaited
  still_awaited : ((taken_by lent state).answer ≡ 0 → ⊥) → ((taken_by lent state).state.first ≡ state.first) × ((taken_by lent state).state.responder ≡ state.responder)
  still_awaited =
      by_step lent.normal lent.normal_at lent.redundant lent.redundant_at lent.callers lent.ours state
      (λ (t : Taken). (t.answer ≡ 0 → ⊥) → (t.state.first ≡ state.first) × (t.state.responder ≡ state.responder))
      (λ a m o z. (refl, refl)) (λ link a m l h z. (refl, refl)) (λ link a m g p z. (refl, refl)) (λ link c z. absurd (z refl))

  -- what is handed up to a responder who awaits the first packet
  abbrev Known : Taken → Type 0
  Known t =
      t.answer ≡ 0
      → (t.kind ≡ au1) × Memᴰ (caller_of (user_data_of lent.normal lent.redundant t)) (callers_of lent.callers)
      × (called_of (user_data_of lent.normal lent.redundant t) ≡ lent.ours)

  module _ (first : state.first ≡ true) (responder : state.responder ≡ true) where
    accepted_known : (link : Bool) → Accepted link (of_link link lent.normal lent.redundant) (of_link link lent.normal_at lent.redundant_at) lent.callers lent.ours state
        → Known (handed_up link (of_link link lent.normal_at lent.redundant_at) (packet_header_at (of_link link lent.normal lent.redundant) (of_link link lent.normal_at lent.redundant_at)) state)
    accepted_known link c z =
        let s = of_link link lent.normal lent.redundant in
        let at = of_link link lent.normal_at lent.redundant_at in
        let opening = subst (λ (r : Bool). not_opening r (packet_header_at s at) (user_data_at s at) ≡ false) responder (c.opening first) in
        let in_List = allowed_in lent.callers lent.ours (user_data_at s at) (c.allowed first responder) in
        let is = sym (data_of_packet lent.normal lent.redundant link at state c.stands) in (
          opens_as_au1 (packet_header_at s at) (user_data_at s at) opening,
          subst (λ (u : List ℕ). Memᴰ (caller_of u) (callers_of lent.callers)) is in_List.0,
          subst (λ (u : List ℕ). called_of u ≡ lent.ours) is in_List.1,
        )

    known_call : (taken_by lent state).answer ≡ 0 → KnownCall lent state
    known_call handed =
        let call = by_step lent.normal lent.normal_at lent.redundant lent.redundant_at lent.callers lent.ours state Known
        (λ a m o z. let f : ⊥ = ⊎_elim (λ b. omega arith) (λ b. omega arith) o in absurd f) (λ link a m l h z. let f : ⊥ = omega arith in absurd f)
        (λ link a m g p z. let f : ⊥ = omega arith in absurd f) accepted_known handed in
        record { handed_up_lem = handed; is_au1 = call.0; on_list = call.1; calls_us = call.2 }

-- after steps that hand up nothing
awaited_after : (state : State) (before : List Lent) → state.first ≡ true → state.responder ≡ true → NoneHandsUp state before
    → ((state_after state before).first ≡ true) × ((state_after state before).responder ≡ true)
awaited_after state [] first responder none = (first, responder)
awaited_after state (lent ∷ rest) first responder none =
    let still = still_awaited lent state none.0 in
    awaited_after (taken_by lent state).state rest (still.0 ∙ first) (still.1 ∙ responder) none.1

pub known_call_first : KnownCallFirst
known_call_first strict before lent none handed =
    let awaited = awaited_after (fresh_state true strict) before refl refl none in
    known_call lent (state_after (fresh_state true strict) before) awaited.0 awaited.1 handed

pub empty_lets_nobody_in : EmptyLetsNobodyIn
empty_lets_nobody_in strict steps = from (fresh_state true strict) steps refl refl
  where
    no_ids : (callers : List ℕ) → length callers < id_size → callers_of callers ≡ []
    no_ids callers short = ap (λ (n : ℕ). fields_of (replicate n id_size) callers 0) (div-eq_of_lt short)

    from : (state : State) (steps : List Lent) → state.first ≡ true → state.responder ≡ true → EmptyLists steps → NoneHandsUp state steps
    from state [] first responder empty = tt
    from state (lent ∷ rest) first responder empty =
        let nobody : (taken_by lent state).answer ≡ 0 → ⊥ = λ handed.
        Memᴰ.not-nil (subst (λ (ids : List ℕ). Memᴰ (caller_of (data_by lent state)) ids) (no_ids lent.callers empty.0) (known_call lent state first responder handed).on_list) in
        let still = still_awaited lent state nobody in
        (nobody, from (taken_by lent state).state rest (still.0 ∙ first) (still.1 ∙ responder) empty.1)

-- the tests of an AU1 that a known caller sends
au1_in_class_d : in_class_d au1 ≡ true
unfolding in_class_d classes_of
au1_in_class_d = refl

au1_opens : (header : Header) (user_data : List ℕ) → header.kind ≡ au1 → opening_fault au1 header.number user_data ≡ false → not_opening true header user_data ≡ false
unfolding not_opening
au1_opens header user_data k f = simp (eq-eqb header.kind au1 k, subst (λ (n : ℕ). opening_fault n header.number user_data ≡ false) (sym k) f)

in_allowed : (callers : List ℕ) (ours : ℕ) (user_data : List ℕ) → Memᴰ (caller_of user_data) (callers_of callers) → called_of user_data ≡ ours
    → not_allowed callers ours user_data ≡ false
unfolding not_allowed listed
in_allowed callers ours user_data m e = simp (in_one (caller_of user_data) (callers_of callers) m, eq-eqb (called_of user_data) ours e)

pub known_call_let_in : KnownCallLetIn
known_call_let_in lent state link looks p first responder kind fault on_list calls_us =
    let s = of_link link lent.normal lent.redundant in
    let at = of_link link lent.normal_at lent.redundant_at in
    let h = packet_header_at s at in
    let u = user_data_at s at in
    looked_at lent.normal lent.normal_at lent.redundant lent.redundant_at lent.callers lent.ours state link (handed_up link at h state) looks (λ b.
    row_allowed link at h u lent.callers lent.ours state (subst (λ (k : ℕ). in_class_d k ≡ true) (sym kind) au1_in_class_d) first
    (subst (λ (r : Bool). not_opening r h u ≡ false) (sym responder) (au1_opens h u kind fault)) responder (in_allowed lent.callers lent.ours u on_list calls_us)
    ∙ row_class link s at state (class_d_rows link at h u lent.callers lent.ours state) b (right_length link s at p) p.right p.flagged)
