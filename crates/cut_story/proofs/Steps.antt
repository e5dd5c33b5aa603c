-- One step of a cutting of two recorded links, as a step of a run: the normal link is used to its last whole packet before the redundant one is begun.
-- Assumes nothing.
use Prim.Native.Nat.{ℕ, suc, ◌+◌, ◌≤◌, ◌<◌}
use mathlib.Core.Path.{◌≡◌, refl, sym, ap, ◌∙◌, subst}
use mathlib.Core.Bool.{Bool, true, false, not, cond, false≢true}
use mathlib.Core.List.{List, [], ◌∷◌, ◌++◌, append-nil, append_assoc}
use mathlib.Core.Logic.{◌⊎◌, inl, inr, ⊎_elim}
use native.Mathlib.Omega.{arith}
use lib.Dec.{eqb}
use lib.ListN.{length, length-append}
use Rattle.rules.specs.Rows.{when◌answer◌else◌}
use Rattle.links.specs.declared.Taken.{Taken}
use Rattle.links.specs.Table.{judgeable, held, user_data_of}
use Rattle.links.proofs.Bools.{both_true}
use Rattle.link_promises.specs.Promises.{looks_at}
use Rattle.link_promises.proofs.Promises.{counts_its_user_data}
use Rattle.recording.specs.Printed.{line_of}
use Rattle.recording.specs.Progress.{counted_of}
use Rattle.one_story.specs.Sequence.{Packet, Gateway}
use Rattle.one_story.specs.Run.{Link, Moment, Lends, used_up, handed_by, after, step_of}
use Rattle.one_story.specs.OneStory.{NotFarBehind, most_lag}
use Rattle.one_story.proofs.Pieces.{next_of}
use Rattle.one_story.proofs.Links.{not_all, more, arrived_there}
use Rattle.one_story.proofs.Story.{Stand, Went}
use Rattle.cut_story.specs.Names.{Name, lines_of, named_in, names_of}
use Rattle.cut_story.specs.Windows.{Recorded}

-- ---- names

pub names_append : (a b : List Packet) → names_of (a ++ b) ≡ names_of a ++ names_of b
names_append [] b = refl
names_append (p ∷ a) b = ap (λ (l : List Name). (p.kind, p.number, length p.user_data) ∷ l) (names_append a b)

pub named_append : (a b : List Taken) → named_in (a ++ b) ≡ named_in a ++ named_in b
named_append [] b = refl
named_append (t ∷ a) b = ap (λ (l : List Name). one t ++ l) (named_append a b) ∙ sym (append_assoc (one t) (named_in a) (named_in b))
  where
    one : Taken → List Name
    one t = when (eqb t.answer 0) answer ((t.kind, t.number, t.size) ∷ []) else []

pub lines_append : (a b : List Taken) → lines_of (a ++ b) ≡ lines_of a ++ lines_of b
lines_append [] b = refl
lines_append (t ∷ a) b = ap (λ (l : List ℕ). line_of t ++ l) (lines_append a b) ∙ sym (append_assoc (line_of t) (lines_of a) (lines_of b))

-- what a step's line names is what it hands up, and it is counted
pub names_handed : (gateway : Gateway) (m : Moment) (normal : List ℕ) (normal_at : ℕ) (redundant : List ℕ) (redundant_at : ℕ)
    → let t = step_of gateway normal normal_at redundant redundant_at m in named_in (t ∷ []) ≡ names_of (handed_by normal redundant t)
unfolding handed_by
names_handed gateway m normal normal_at redundant redundant_at =
    by (eqb t.answer 0) (counts_its_user_data normal normal_at redundant redundant_at gateway.callers gateway.ours m.state)
  where
    t : Taken
    t = step_of gateway normal normal_at redundant redundant_at m

    packet : Packet
    packet = record { version = t.version; application = t.application; number = t.number; kind = t.kind; user_data = user_data_of normal redundant t }

    by : (b : Bool) → length (user_data_of normal redundant t) ≡ t.size
        → (when b answer ((t.kind, t.number, t.size) ∷ []) else []) ++ [] ≡ names_of (when b answer (packet ∷ []) else [])
    by true e = ap (λ (n : ℕ). (t.kind, t.number, n) ∷ []) (sym e)
    by false e = refl

pub counts_handed : (normal redundant : List ℕ) (t : Taken) (m : Moment) (n : ℕ) → length m.handed ≡ n → length (m.handed ++ handed_by normal redundant t) ≡ counted_of n t.answer
unfolding handed_by counted_of
counts_handed normal redundant t m n e = by (eqb t.answer 0)
  where
    packet : Packet
    packet = record { version = t.version; application = t.application; number = t.number; kind = t.kind; user_data = user_data_of normal redundant t }

    by : (b : Bool) → length (m.handed ++ (when b answer (packet ∷ []) else [])) ≡ cond b (n + 1) n
    by true = length-append m.handed (packet ∷ []) ∙ omega (arith, e)
    by false = ap length (append-nil m.handed) ∙ e

-- what a step does to a link, named or not
pub arrived_kept : (named : Bool) (link : Link) (t : Taken) → ((cond named (used_up link t) link).arrived ≡ link.arrived) × ((cond named link (used_up link t)).arrived ≡ link.arrived)
arrived_kept true link t = (refl, refl)
arrived_kept false link t = (refl, refl)

pub used_then : (named : Bool) (link : Link) (t : Taken)
    → (cond named (link.used + t.used) link.used ≡ (cond named (used_up link t) link).used) × (cond named link.used (link.used + t.used) ≡ (cond named link (used_up link t)).used)
used_then true link t = (refl, refl)
used_then false link t = (refl, refl)

-- ---- the order in which the links are used

module _ (gateway : Gateway) (sent : List Packet) (normal_file redundant_file : List ℕ) (a b : ℕ) (x : Recorded gateway sent normal_file redundant_file a b) where
  abbrev pub lag : ℕ
  lag = most_lag gateway.strict

  -- nothing of the redundant link is used, or the normal link's file has no whole packet more
  abbrev pub NormalFirst : Moment → Type 0
  NormalFirst m = (m.redundant.packets ≡ 0) ⊎ (judgeable normal_file m.normal.used ≡ false)

  some_lag : 0 < lag
  some_lag = by gateway.strict
    where
      by : (strict : Bool) → 0 < most_lag strict
      by true = omega arith
      by false = omega arith

  module _ (m : Moment) (h : Stand gateway sent m) (read : length m.normal.arrived ≤ length normal_file) (read' : length m.redundant.arrived ≤ length redundant_file) (turn : NormalFirst m)
      (normal : List ℕ) (normal_at : ℕ) (redundant : List ℕ) (redundant_at : ℕ) (ln : Lends m.normal normal normal_at) (lr : Lends m.redundant redundant redundant_at)
      (seen : judgeable normal normal_at ≡ judgeable normal_file m.normal.used) where
    -- no more packets are used of the normal link than its file has whole
    few : m.normal.packets ≤ a
    few =
        let r = (h.links true).read in
        x.normal_whole.no_more m.normal.packets r.first_part (omega (arith, r.whole, r.there))

    -- where the redundant link holds a packet, its file has one
    some : judgeable redundant redundant_at ≡ true → 0 < b
    some e =
        let r = h.links false in
        let all = not_all gateway false sent m.redundant r redundant redundant_at lr e in
        let n = next_of gateway sent x.sequence m.redundant.packets all in
        let there = arrived_there gateway false sent m.redundant r redundant redundant_at lr m.redundant.packets n e in
        let one = more gateway false sent m.redundant r redundant redundant_at lr m.redundant.packets n in
        let whole = x.redundant_whole.no_more (suc m.redundant.packets) all (omega (arith, one, there, r.read.whole)) in
        omega arith

    pub near : (link : Bool) → looks_at normal normal_at redundant redundant_at gateway.callers gateway.ours m.state link ≡ true → NotFarBehind lag m link
    near true looks =
        ⊎_elim (λ none. omega (arith, some_lag))
        (λ drained. absurd (false≢true (sym drained ∙ sym seen ∙ (both_true m.state.normal_up (judgeable normal normal_at) looks).1))) turn
    near false looks =
        let held-there = (both_true (not (held m.state.normal_up normal normal_at)) (held m.state.redundant_up redundant redundant_at) looks).1 in
        omega (arith, few, x.near (some (both_true m.state.redundant_up (judgeable redundant redundant_at) held-there).1))

    normal_kept : (t : Taken) → t.normal ≡ false → (after normal redundant t m).normal ≡ m.normal
    normal_kept t e = ap (λ (l : Bool). cond l (used_up m.normal t) m.normal) e

    redundant_kept : (t : Taken) → t.normal ≡ true → (after normal redundant t m).redundant ≡ m.redundant
    redundant_kept t e = ap (λ (l : Bool). cond l m.redundant (used_up m.redundant t)) e

    pub turn_after : (t : Taken) → Went gateway sent x.sequence m h normal normal_at redundant redundant_at ln lr t → NormalFirst (after normal redundant t m)
    turn_after t (Went.found_nothing n r e) =
        inr
        (subst (λ (y : Taken). judgeable normal_file (after normal redundant y m).normal.used ≡ false) (sym e)
        (let same : m.normal.used ≡ m.normal.used + 0 = omega arith in subst (λ (k : ℕ). judgeable normal_file k ≡ false) same (sym seen ∙ n)))
    turn_after t (Went.took true past e name one _) =
        ⊎_elim (λ none. inl (ap (λ (l : Link). l.packets) (redundant_kept t name) ∙ none)) (λ drained. absurd (false≢true (sym drained ∙ sym seen ∙ e))) turn
    turn_after t (Went.took false past e name one _) =
        inr (ap (λ (l : Link). judgeable normal_file l.used) (normal_kept t name) ∙ sym seen ∙ past refl)
