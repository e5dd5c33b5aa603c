-- Two links, one story, in either setting and for every lag that will do; and what follows from it.
-- Assumes nothing.
use Prim.Native.Nat.{ℕ, zero, suc, ◌≤◌, ◌<◌, max}
use mathlib.Core.Path.{◌≡◌, refl, sym, ap, ◌∙◌, subst}
use mathlib.Core.Bool.{Bool, true, false, not, false≢true}
use mathlib.Core.List.{List, [], ◌∷◌, ◌++◌}
use mathlib.Core.Logic.{◌⊎◌, inl, inr, ⊎_elim}
use native.Mathlib.Omega.{arith}
use borrow.Author.Tests.{ne_eqb}
use lib.ListN.{take}
use Rattle.packet.specs.Sizes.{packet_size}
use Rattle.packet.specs.Packet.{packet_header_at}
use Rattle.links.specs.declared.State.{State}
use Rattle.links.specs.declared.Taken.{Taken}
use Rattle.links.specs.Taken.{nothing_changes}
use Rattle.links.specs.Table.{judgeable, rows_of}
use Rattle.link_promises.specs.Promises.{of_link}
use Rattle.one_story.specs.Sequence.{Packet, Gateway, SentFrom, Sequence}
use Rattle.one_story.specs.Run.{Moment, link_of, Lends, Drained, packets_of, step_of, Run, Anything, Always}
use Rattle.one_story.specs.OneStory.{NotFarBehind, both_bring, RunOf, BothUp, larger, TwoLinksOneStory, LooseOneStory, most_lag, AnyLagOneStory}
use Rattle.one_story.specs.OneStory.{NeitherLags, NeverLagsOneStory, Supposed}
use Rattle.one_story.specs.OneStory.{HandedUpInOrder, NothingWithheld, DrainedAt301}
use Rattle.one_story.proofs.Pieces.{Next, next_of}
use Rattle.one_story.proofs.Standing.{Stands}
use Rattle.one_story.proofs.Judged.{state_at, Drop, Hands, Drops, rows_take, next_one, earlier_one}
use Rattle.one_story.proofs.Links.{Brought, lent_judgeable, not_all, stands_there, whole_used}
use Rattle.one_story.proofs.Runs.{ltb_by, up_at, by_look, normal_of, redundant_of, Teller, run_holds}

module _ (gateway : Gateway) (sent : List Packet) (q : Sequence gateway sent) (lag : ℕ) (enough : lag ≤ most_lag gateway.strict) where
  module _ (m : Moment) (told : m.handed ≡ take (larger m) sent) (link : Bool) (near : NotFarBehind lag m link)
      (n : Next gateway (link_of link m).packets sent (link_of link m).packets) (s : List ℕ) (at : ℕ) (r : Stands link n.packet s at) where
    abbrev own : ℕ
    own = (link_of link m).packets

    abbrev other : ℕ
    other = (link_of (not link) m).packets

    larger_is : larger m ≡ max own other
    larger_is = by link
      where
        by : (l : Bool) → larger m ≡ max (link_of l m).packets (link_of (not l) m).packets
        by true = refl
        by false = omega arith

    larger_then : max (normal_of link m.normal.packets) (redundant_of link m.redundant.packets) ≡ max (suc own) other
    larger_then = by link
      where
        by : (l : Bool) → max (normal_of l m.normal.packets) (redundant_of l m.redundant.packets) ≡ max (suc (link_of l m).packets) (link_of (not l) m).packets
        by true = refl
        by false = omega arith

    hands : other ≤ own
        → Hands gateway n.packet link s at r (larger m)
        × (max (normal_of link m.normal.packets) (redundant_of link m.redundant.packets) ≡ suc own)
        × (m.handed ++ (n.packet ∷ []) ≡ take (max (normal_of link m.normal.packets) (redundant_of link m.redundant.packets)) sent)
    hands h =
        let now : larger m ≡ own = larger_is ∙ omega arith in
        let then : max (normal_of link m.normal.packets) (redundant_of link m.redundant.packets) ≡ suc own = larger_then ∙ omega arith in (
          subst (Hands gateway n.packet link s at r) (sym now) (next_one gateway n.packet link s at r own n.sent),
          then,
          ap (λ (l : List Packet). l ++ (n.packet ∷ [])) (told ∙ ap (λ (k : ℕ). take k sent) now) ∙ sym n.so_far ∙ ap (λ (k : ℕ). take k sent) (sym then),
        )

    drops : own < other
        → Drops gateway n.packet link s at r (larger m)
        × (max (normal_of link m.normal.packets) (redundant_of link m.redundant.packets) ≡ larger m)
        × (m.handed ≡ take (max (normal_of link m.normal.packets) (redundant_of link m.redundant.packets)) sent)
    drops h =
        let now : larger m ≡ other = larger_is ∙ omega arith in
        let then : max (normal_of link m.normal.packets) (redundant_of link m.redundant.packets) ≡ larger m = larger_then ∙ omega (arith, larger_is) in (
          earlier_one gateway n.packet link s at r own (larger m) n.sent (omega (arith, now)) (omega (arith, now, near, enough)),
          then,
          told ∙ ap (λ (k : ℕ). take k sent) (sym then),
        )

  -- what the link that is ahead has used is told
  pub teller : Teller gateway (both_bring sent) (NotFarBehind lag)
  teller = record {
    place_of = λ link k. k;
    placed = λ link. next_of gateway sent q;
    done = λ a b handed. max a b;
    Told = λ a b handed. handed ≡ take (max a b) sent;
    at_start = (refl, refl);
    judges = λ m told link near l n s at r.
        ltb_by (link_of link m).packets (link_of (not link) m).packets (λ h. inr (drops m told link near n s at r h)) (λ h. inl (hands m told link near n s at r h));
  }

-- what holds at every moment: what has been handed up, the state, and the links' own facts
pub record Stand (gateway : Gateway) (sent : List Packet) (m : Moment) : Type 0 where
  pub told : m.handed ≡ take (larger m) sent
  pub state : m.state ≡ state_at gateway (larger m)
  pub links : (link : Bool) → Brought link sent (link_of link m)

pub stand_of : (gateway : Gateway) (sent : List Packet) (m : Moment) → Supposed gateway sent m → Stand gateway sent m
unfolding teller
stand_of gateway sent m x =
    let h = run_holds (teller gateway sent x.sequence x.lag x.enough) x.run in
    record { told = h.told; state = h.state; links = h.links }

pub stand_up : (gateway : Gateway) (sent : List Packet) (m : Moment) → Stand gateway sent m → BothUp m.state
stand_up gateway sent m h = up_at gateway (larger m) m.state h.state

pub any_lag_one_story : AnyLagOneStory
any_lag_one_story strict lag enough gateway e sent q m x =
    let h = stand_of gateway sent m (record { sequence = q; lag = lag; enough = subst (λ (s : Bool). lag ≤ most_lag s) (sym e) enough; run = x }) in
    record { told = h.told; used_normal = (h.links true).read; used_redundant = (h.links false).read; up = stand_up gateway sent m h }

pub two_links_one_story : TwoLinksOneStory
two_links_one_story = any_lag_one_story true 32768 (omega arith)

pub loose_one_story : LooseOneStory
loose_one_story = any_lag_one_story false 32768 (omega arith)

-- ---- in the request's words

-- a run of which more is supposed is one of which less is
unfoldable pub weaken : {gateway : Gateway} {brings : Bool → List Packet} {Near Near' : Moment → Bool → Type 0}
    → ((m : Moment) (link : Bool) → Near m link → Near' m link) → {m : Moment} → Run gateway brings Near m → Run gateway brings Near' m
weaken less Run.begun = Run.begun
weaken less (Run.arrives x link piece rest e) = Run.arrives (weaken less x) link piece rest e
weaken less (Run.steps {m} x normal normal_at redundant redundant_at n r near) =
    Run.steps (weaken less x) normal normal_at redundant redundant_at n r (λ link looks. less m link (near link looks))

-- what holds at every moment holds at the last one
now_too : {gateway : Gateway} {brings : Bool → List Packet} {Near : Moment → Bool → Type 0} (P : Moment → Type 0) {m : Moment} (run : Run gateway brings Near m)
    → Always P run → P m
now_too P Run.begun a = a
now_too P (Run.arrives x link piece rest e) a = a.1
now_too P (Run.steps x normal normal_at redundant redundant_at n r near) a = a.1

never_lags_run : (gateway : Gateway) (sent : List Packet) (lag : ℕ) {m : Moment} (run : Run gateway (both_bring sent) Anything m) → Always (NeitherLags lag) run
    → RunOf gateway sent lag m
never_lags_run gateway sent lag Run.begun a = Run.begun
never_lags_run gateway sent lag (Run.arrives x link piece rest e) a = Run.arrives (never_lags_run gateway sent lag x a.0) link piece rest e
never_lags_run gateway sent lag (Run.steps x normal normal_at redundant redundant_at n r near) a =
    Run.steps (never_lags_run gateway sent lag x a.0) normal normal_at redundant redundant_at n r (λ link looks. now_too (NeitherLags lag) x a.0 link)

pub never_lags_one_story : NeverLagsOneStory
never_lags_one_story gateway e sent q m run a = two_links_one_story gateway e sent q m (never_lags_run gateway sent 32768 run a)

-- ---- in order

-- a first part of a sequence is one
first_part : (gateway : Gateway) (place k : ℕ) (ps : List Packet) → SentFrom gateway place ps → SentFrom gateway place (take k ps)
first_part gateway place zero ps g = tt
first_part gateway place (suc k) [] g = tt
first_part gateway place (suc k) (p ∷ ps) g = (g.0, first_part gateway (suc place) k ps g.1)

pub handed_up_in_order : HandedUpInOrder
handed_up_in_order gateway sent m x =
    subst (Sequence gateway) (sym (stand_of gateway sent m x).told) (first_part gateway 0 (larger m) sent x.sequence)

-- ---- what a step does

module _ (gateway : Gateway) (sent : List Packet) (q : Sequence gateway sent) (m : Moment) (h : Stand gateway sent m)
    (normal : List ℕ) (normal_at : ℕ) (redundant : List ℕ) (redundant_at : ℕ) (ln : Lends m.normal normal normal_at) (lr : Lends m.redundant redundant redundant_at) where
  abbrev s : Bool → List ℕ
  s link = of_link link normal redundant

  abbrev at : Bool → ℕ
  at link = of_link link normal_at redundant_at

  -- it finds nothing, or it uses a packet of a link
  pub data Went (t : Taken) : Type 0 where
    found_nothing : judgeable normal normal_at ≡ false → judgeable redundant redundant_at ≡ false → t ≡ nothing_changes 301 m.state → Went t
    took : (link : Bool) → (link ≡ false → judgeable normal normal_at ≡ false) → judgeable (s link) (at link) ≡ true → t.normal ≡ link → packets_of t ≡ 1
        → (t.answer ≡ 0) ⊎ Drop t.answer → Went t

  lent : (link : Bool) → Lends (link_of link m) (s link) (at link)
  lent true = ln
  lent false = lr

  abbrev rows : Bool → State → Taken
  rows link state = rows_of true link (s link) (at link) gateway.callers gateway.ours state

  -- it names the link, uses as many bytes as the packet there has, and answers no 301
  abbrev Takes : Bool → Taken → Type 0
  Takes link t = (t.normal ≡ link) × (t.used ≡ packet_size (packet_header_at (s link) (at link)).length) × ((t.answer ≡ 0) ⊎ Drop t.answer)

  takes : (link : Bool) → judgeable (s link) (at link) ≡ true → Takes link (rows link m.state)
  takes link e =
      let n = next_of gateway sent q (link_of link m).packets (not_all gateway link sent (link_of link m) (h.links link) (s link) (at link) (lent link) e) in
      let r = stands_there gateway link sent (link_of link m) (h.links link) (s link) (at link) (lent link) (link_of link m).packets n e in
      subst (λ (x : State). Takes link (rows link x)) (sym h.state)
      (rows_take gateway n.packet link (s link) (at link) r (larger m) (Takes link) (λ answer u. (refl, refl, inr u)) (refl, refl, inl refl))

  some_used : (t : Taken) (n : ℕ) → t.used ≡ packet_size n → packets_of t ≡ 1
  some_used t n u = simp (ne_eqb t.used 0 (λ z. omega (arith, u, z)))

  pub went : Went (step_of gateway normal normal_at redundant redundant_at m)
  went =
      by_look gateway m (stand_up gateway sent m h) normal normal_at redundant redundant_at Went (λ n r. Went.found_nothing n r refl)
      (λ link past _ e. let x = takes link e in Went.took link past e x.0 (some_used (rows link m.state) (packet_header_at (s link) (at link)).length x.1) x.2)

-- ---- nothing is withheld

pub nothing_withheld : NothingWithheld
nothing_withheld gateway sent m x normal redundant =
    let h = stand_of gateway sent m x in
    let placed = next_of gateway sent x.sequence in (
      whole_used gateway true sent m.normal (h.links true) m.normal.arrived m.normal.used refl (λ k. k) placed normal,
      whole_used gateway false sent m.redundant (h.links false) m.redundant.arrived m.redundant.used refl (λ k. k) placed redundant,
      h.told,
    )

pub drained_at_301 : DrainedAt301
drained_at_301 gateway sent m x normal normal_at redundant redundant_at ln lr =
    by (step_of gateway normal normal_at redundant redundant_at m) (went gateway sent x.sequence m (stand_of gateway sent m x) normal normal_at redundant redundant_at ln lr)
  where
    none : (link : Bool) → Drained m.normal → Drained m.redundant → judgeable (of_link link normal redundant) (of_link link normal_at redundant_at) ≡ false
    none true n r = lent_judgeable m.normal normal normal_at ln ∙ n
    none false n r = lent_judgeable m.redundant redundant redundant_at lr ∙ r

    by : (t : Taken) → Went gateway sent x.sequence m (stand_of gateway sent m x) normal normal_at redundant redundant_at ln lr t
        → (t.answer ≡ 301 → Drained m.normal × Drained m.redundant) × (Drained m.normal → Drained m.redundant → t.answer ≡ 301)
    by t (Went.found_nothing n r e) = (
      λ _. (sym (lent_judgeable m.normal normal normal_at ln) ∙ n, sym (lent_judgeable m.redundant redundant redundant_at lr) ∙ r),
      λ _ _. ap (λ (y : Taken). y.answer) e,
    )
    by t (Went.took link past e _ _ answer) = (
      λ z. let no : ⊥ = ⊎_elim (λ a. omega (arith, a, z)) (λ a. omega (arith, a.0, z)) answer in absurd no,
      λ n r. absurd (false≢true (sym (none link n r) ∙ e)),
    )
