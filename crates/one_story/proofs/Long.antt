-- Runs of any length, put together packet by packet.
-- Assumes nothing.
use Prim.Native.Nat.{ℕ, zero, suc, ◌+◌, ◌-◌, ◌≤◌, ◌<◌}
use mathlib.Core.Path.{◌≡◌, refl, sym, ap, ap₂, ◌∙◌, subst}
use mathlib.Core.Bool.{Bool, true, false, not, cond, ◌&&◌, false≢true}
use mathlib.Core.List.{List, [], ◌∷◌, ◌++◌}
use mathlib.Core.Logic.{inl}
use native.Mathlib.Omega.{arith}
use borrow.Author.Tests.{not-true}
use lib.Dec.{lit<, lit≤}
use lib.ListN.{length, take, drop, take-append-drop}
use lib.Seq.{take-length}
use Rattle.field.specs.Field.{field_of}
use Rattle.packet_types.specs.Types.{least_of, opening_fault}
use Rattle.links.specs.declared.Taken.{Taken}
use Rattle.links.specs.Table.{judgeable, held}
use Rattle.links.proofs.Bools.{both_true}
use Rattle.link_promises.specs.Promises.{of_link, looks_at}
use Rattle.one_story.specs.Sequence.{Packet, Gateway, SentFrom, Sequence, packet_on, bytes_on}
use Rattle.one_story.specs.Run.{Link, Moment, link_of, nothing_yet, start, arrived_on, Drained, packets_of, used_up, after, taken_then, stepped, Run, Always}
use Rattle.one_story.specs.OneStory.{NotFarBehind, RunOf, BothUp, larger, most_lag}
use Rattle.one_story.specs.Arrivals.{InStep}
use Rattle.one_story.specs.Met.{ToldInTurn, ToldAlone, CanBeTold, initiator, data_from, long_sequence, numbers_of, LongMayBeSent, GoesPastTheWrap}
use Rattle.one_story.proofs.Pieces.{bytes_append, Next, next_of, next_bytes}
use Rattle.one_story.proofs.Links.{not_all, arrived_there, holds_next}
use Rattle.one_story.proofs.Story.{Stand, stand_of, stand_up, Went, went}

-- ---- one step over all that has arrived

-- no bytes hold nothing
nothing_to_judge : Drained nothing_yet
unfolding judgeable
nothing_to_judge = refl

-- a packet more is used of a link, and the other is as it was
pub record OneMore (link : Bool) (m n : Moment) : Type 0 where
  pub packets : (link_of link n).packets ≡ suc (link_of link m).packets
  pub arrived : (link_of link n).arrived ≡ (link_of link m).arrived
  pub other : link_of (not link) n ≡ link_of (not link) m

pub named_one : (m : Moment) (normal redundant : List ℕ) (t : Taken) (link : Bool) → t.normal ≡ link → packets_of t ≡ 1 → OneMore link m (after normal redundant t m)
named_one m normal redundant t true e one = record {
  packets = ap (λ (b : Bool). (cond b (used_up m.normal t) m.normal).packets) e ∙ omega (arith, one);
  arrived = ap (λ (b : Bool). (cond b (used_up m.normal t) m.normal).arrived) e;
  other = ap (λ (b : Bool). cond b m.redundant (used_up m.redundant t)) e;
}
named_one m normal redundant t false e one = record {
  packets = ap (λ (b : Bool). (cond b m.redundant (used_up m.redundant t)).packets) e ∙ omega (arith, one);
  arrived = ap (λ (b : Bool). (cond b m.redundant (used_up m.redundant t)).arrived) e;
  other = ap (λ (b : Bool). cond b (used_up m.normal t) m.normal) e;
}

-- the link looked at is the one that holds a packet, if the normal one holds none before it
pub looked_is : (gateway : Gateway) (m : Moment) → BothUp m.state → (link : Bool) → judgeable (link_of link m).arrived (link_of link m).used ≡ true
    → (link ≡ false → Drained m.normal) → (looked : Bool)
    → looks_at m.normal.arrived m.normal.used m.redundant.arrived m.redundant.used gateway.callers gateway.ours m.state looked ≡ true → looked ≡ link
looked_is gateway m up true e d true looks = refl
looked_is gateway m up true e d false looks =
    let held-there = ap (λ (b : Bool). b && judgeable m.normal.arrived m.normal.used) up.normal_up ∙ e in
    let b = both_true (not (held m.state.normal_up m.normal.arrived m.normal.used)) (held m.state.redundant_up m.redundant.arrived m.redundant.used) looks in
    absurd (false≢true (sym (not-true (held m.state.normal_up m.normal.arrived m.normal.used) b.0) ∙ held-there))
looked_is gateway m up false e d true looks =
    absurd (false≢true (sym (d refl) ∙ (both_true m.state.normal_up (judgeable m.normal.arrived m.normal.used) looks).1))
looked_is gateway m up false e d false looks = refl

module _ (gateway : Gateway) (sent : List Packet) (q : Sequence gateway sent) where
  -- a link that holds a packet is used, if the normal one holds none before it
  pub used_one : (m : Moment) → Stand gateway sent m → (link : Bool) → judgeable (link_of link m).arrived (link_of link m).used ≡ true
      → (link ≡ false → Drained m.normal) → OneMore link m (stepped gateway m)
  used_one m h link e d =
      by (taken_then gateway m) (went gateway sent q m h m.normal.arrived m.normal.used m.redundant.arrived m.redundant.used refl refl)
    where
      none : (l : Bool) → Drained m.normal → Drained m.redundant → judgeable (link_of l m).arrived (link_of l m).used ≡ false
      none true n r = n
      none false n r = r

      same : (looked link : Bool) → (looked ≡ false → Drained m.normal)
          → judgeable (of_link looked m.normal.arrived m.redundant.arrived) (of_link looked m.normal.used m.redundant.used) ≡ true
          → (link ≡ false → Drained m.normal) → judgeable (link_of link m).arrived (link_of link m).used ≡ true → looked ≡ link
      same true true past f d e = refl
      same false false past f d e = refl
      same true false past f d e = absurd (false≢true (sym (d refl) ∙ f))
      same false true past f d e = absurd (false≢true (sym (past refl) ∙ e))

      by : (t : Taken) → Went gateway sent q m h m.normal.arrived m.normal.used m.redundant.arrived m.redundant.used refl refl t
          → OneMore link m (after m.normal.arrived m.redundant.arrived t m)
      by t (Went.found_nothing n r _) = absurd (false≢true (sym (none link n r) ∙ e))
      by t (Went.took looked past f name one _) =
          named_one m m.normal.arrived m.redundant.arrived t link (name ∙ same looked link past f d e) one

  -- ---- packets arrive one by one

  -- a link has brought so many packets
  abbrev pub HasBrought : Bool → ℕ → Moment → Type 0
  HasBrought link k m = (link_of link m).arrived ≡ bytes_on link (take k sent)

  -- the packet at a place arrives on a link that has brought those before it
  pub record Comes (link : Bool) (k : ℕ) (m : Moment) : Type 0 where
    pub piece : List ℕ
    pub rest : List ℕ
    pub right : ((link_of link m).arrived ++ piece) ++ rest ≡ bytes_on link sent
    pub brought : (link_of link m).arrived ++ piece ≡ bytes_on link (take (suc k) sent)

  pub comes : (link : Bool) (k : ℕ) (m : Moment) → k < length sent → HasBrought link k m → Comes link k m
  comes link k m l e =
      let x = next_of gateway sent q k l in
      let b = ap (λ (y : List ℕ). y ++ packet_on link x.packet) e ∙ sym (next_bytes gateway sent link k k x) in
      record {
        piece = packet_on link x.packet;
        rest = bytes_on link (drop (suc k) sent);
        right =
            ap (λ (y : List ℕ). y ++ bytes_on link (drop (suc k) sent)) b
            ∙ sym (bytes_append link (take (suc k) sent) (drop (suc k) sent)) ∙ ap (bytes_on link) (take-append-drop (suc k) sent);
        brought = b;
      }

  -- it has, and nothing else has changed
  pub arrives_own : (link : Bool) (piece : List ℕ) (m : Moment)
      → ((link_of link (arrived_on link piece m)).arrived ≡ (link_of link m).arrived ++ piece) × ((link_of link (arrived_on link piece m)).packets ≡ (link_of link m).packets)
      × (link_of (not link) (arrived_on link piece m) ≡ link_of (not link) m)
  arrives_own true piece m = (refl, refl, refl)
  arrives_own false piece m = (refl, refl, refl)

  -- where what has arrived is what was used, nothing is left to judge
  pub drained_at : (m : Moment) → Stand gateway sent m → (link : Bool) → HasBrought link (link_of link m).packets m → Drained (link_of link m)
  drained_at m h link e = by (judgeable (link_of link m).arrived (link_of link m).used) refl
    where
      by : (b : Bool) → judgeable (link_of link m).arrived (link_of link m).used ≡ b → Drained (link_of link m)
      by false f = f
      by true f =
          let x = link_of link m in
          let n = next_of gateway sent q x.packets (not_all gateway link sent x (h.links link) x.arrived x.used refl f) in
          let there = arrived_there gateway link sent x (h.links link) x.arrived x.used refl x.packets n f in
          let z : ⊥ = omega (arith, there, (h.links link).read.whole, ap length e) in
          absurd z

  module _ (lag : ℕ) (enough : lag ≤ most_lag gateway.strict) where
    pub stand : (m : Moment) → RunOf gateway sent lag m → Stand gateway sent m
    stand m x = stand_of gateway sent m (record { sequence = q; lag = lag; enough = enough; run = x })

    -- one packet arrives on a link and is used
    pub record Used (link : Bool) (k : ℕ) (m : Moment) (x : RunOf gateway sent lag m) : Type 0 where
      pub now : Moment
      pub run : RunOf gateway sent lag now
      pub packets : (link_of link now).packets ≡ suc k
      pub brought : HasBrought link (suc k) now
      pub other : link_of (not link) now ≡ link_of (not link) m
      -- what is arrived in step before, is so after
      pub in_step : Always (InStep sent) x
          → ((n : Moment) → HasBrought link (suc k) n → (link_of (not link) n).arrived ≡ (link_of (not link) m).arrived → InStep sent n) → Always (InStep sent) run

    pub comes_and_is_used : (link : Bool) (k : ℕ) (m : Moment) (x : RunOf gateway sent lag m) → k < length sent → HasBrought link k m → (link_of link m).packets ≡ k
        → (link_of (not link) m).packets < k + lag → (link ≡ false → Drained m.normal) → Used link k m x
    comes_and_is_used link k m x l e p near d = record {
      now = stepped gateway m₁;
      run = Run.steps run₁ m₁.normal.arrived m₁.normal.used m₁.redundant.arrived m₁.redundant.used refl refl near_looked;
      packets = one.packets ∙ ap suc (own.1 ∙ p);
      brought = one.arrived ∙ own.0 ∙ c.brought;
      other = one.other ∙ own.2;
      in_step = λ always step. (
        (always, step m₁ (own.0 ∙ c.brought) (ap (λ (x : Link). x.arrived) own.2)),
        step (stepped gateway m₁) (one.arrived ∙ own.0 ∙ c.brought) (ap (λ (x : Link). x.arrived) (one.other ∙ own.2)),
      );
    }
      where
        c : Comes link k m
        c = comes link k m l e

        m₁ : Moment
        m₁ = arrived_on link c.piece m

        run₁ : RunOf gateway sent lag m₁
        run₁ = Run.arrives x link c.piece c.rest c.right

        own : ((link_of link m₁).arrived ≡ (link_of link m).arrived ++ c.piece) × ((link_of link m₁).packets ≡ (link_of link m).packets) × (link_of (not link) m₁ ≡ link_of (not link) m)
        own = arrives_own link c.piece m

        h : Stand gateway sent m₁
        h = stand m₁ run₁

        next : Next gateway (link_of link m₁).packets sent (link_of link m₁).packets
        next = next_of gateway sent q (link_of link m₁).packets (omega (arith, own.1, p, l))

        holds : judgeable (link_of link m₁).arrived (link_of link m₁).used ≡ true
        holds =
            holds_next gateway link sent (link_of link m₁) (h.links link) (link_of link m₁).arrived (link_of link m₁).used refl (link_of link m₁).packets next
            (omega (arith, ap (λ (n : ℕ). length (bytes_on link (take (suc n) sent))) (own.1 ∙ p), ap length (own.0 ∙ c.brought)))

        still : (b : Bool) → link ≡ b → (b ≡ false → Drained m₁.normal)
        still b same f = subst (λ (x : Link). Drained x) (sym (normal_same link (same ∙ f))) (d (same ∙ f))
          where
            normal_same : (l : Bool) → l ≡ false → (arrived_on l c.piece m).normal ≡ m.normal
            normal_same true f = absurd (false≢true (sym f))
            normal_same false f = refl

        one : OneMore link m₁ (stepped gateway m₁)
        one = used_one m₁ h link holds (still link refl)

        near_looked : (looked : Bool)
            → looks_at m₁.normal.arrived m₁.normal.used m₁.redundant.arrived m₁.redundant.used gateway.callers gateway.ours m₁.state looked ≡ true
            → NotFarBehind lag m₁ looked
        near_looked looked looks =
            subst (NotFarBehind lag m₁) (sym (looked_is gateway m₁ (stand_up gateway sent m₁ h) link holds (still link refl) looked looks))
            (omega (arith, near, own.1, p, ap (λ (x : Link). x.packets) own.2))

    -- ---- the links in turn

    record InTurn (k : ℕ) : Type 0 where
      m : Moment
      run : RunOf gateway sent lag m
      packets : (link : Bool) → (link_of link m).packets ≡ k
      brought : (link : Bool) → HasBrought link k m

    -- the other link is as it was
    kept : (link : Bool) (k : ℕ) (m n : Moment) → link_of link n ≡ link_of link m → (link_of link m).packets ≡ k → HasBrought link k m
        → ((link_of link n).packets ≡ k) × HasBrought link k n
    kept link k m n e p b = (ap (λ (x : Link). x.packets) e ∙ p, ap (λ (x : Link). x.arrived) e ∙ b)

    no_turn : InTurn 0
    no_turn = record { m = start gateway; run = Run.begun; packets = none; brought = nothing }
      where
        none : (link : Bool) → (link_of link (start gateway)).packets ≡ 0
        none true = refl
        none false = refl

        nothing : (link : Bool) → HasBrought link 0 (start gateway)
        nothing true = refl
        nothing false = refl

    next_turn : 1 < lag → (k : ℕ) → k < length sent → InTurn k → InTurn (suc k)
    next_turn some k l was = record { m = second.now; run = second.run; packets = packets; brought = brought }
      where
        first : Used true k was.m was.run
        first =
            comes_and_is_used true k was.m was.run (omega arith) (was.brought true) (was.packets true) (omega (arith, was.packets false)) (λ f. absurd (false≢true (sym f)))

        other : ((link_of false first.now).packets ≡ k) × HasBrought false k first.now
        other = kept false k was.m first.now first.other (was.packets false) (was.brought false)

        second : Used false k first.now first.run
        second =
            comes_and_is_used false k first.now first.run (omega arith) other.1 other.0 (omega (arith, first.packets))
            (λ f. drained_at first.now (stand first.now first.run) true (subst (λ (n : ℕ). HasBrought true n first.now) (sym first.packets) first.brought))

        both : ((link_of true second.now).packets ≡ suc k) × HasBrought true (suc k) second.now
        both = kept true (suc k) first.now second.now second.other first.packets first.brought

        packets : (link : Bool) → (link_of link second.now).packets ≡ suc k
        packets true = both.0
        packets false = second.packets

        brought : (link : Bool) → HasBrought link (suc k) second.now
        brought true = both.1
        brought false = second.brought

    in_turn : 1 < lag → (k : ℕ) → k ≤ length sent → InTurn k
    in_turn some zero l = no_turn
    in_turn some (suc k) l = next_turn some k (omega arith) (in_turn some k (omega arith))

    -- ---- one link alone

    record Alone (live : Bool) (k : ℕ) : Type 0 where
      m : Moment
      run : RunOf gateway sent lag m
      packets : (link_of live m).packets ≡ k
      brought : HasBrought live k m
      silent : link_of (not live) m ≡ nothing_yet

    none_alone : (live : Bool) → Alone live 0
    none_alone true = record { m = start gateway; run = Run.begun; packets = refl; brought = refl; silent = refl }
    none_alone false = record { m = start gateway; run = Run.begun; packets = refl; brought = refl; silent = refl }

    next_alone : 1 < lag → (live : Bool) (k : ℕ) → k < length sent → Alone live k → Alone live (suc k)
    next_alone some live k l was = record { m = next.now; run = next.run; packets = next.packets; brought = next.brought; silent = next.other ∙ was.silent }
      where
        empty : live ≡ false → Drained was.m.normal
        empty f = subst Drained (sym (normal_silent live f was.silent)) nothing_to_judge
          where
            normal_silent : (l : Bool) → l ≡ false → link_of (not l) was.m ≡ nothing_yet → was.m.normal ≡ nothing_yet
            normal_silent true f e = absurd (false≢true (sym f))
            normal_silent false f e = e

        next : Used live k was.m was.run
        next =
            comes_and_is_used live k was.m was.run (omega arith) was.brought was.packets (omega (arith, ap (λ (x : Link). x.packets) was.silent)) empty

    alone : 1 < lag → (live : Bool) (k : ℕ) → k ≤ length sent → Alone live k
    alone some live zero l = none_alone live
    alone some live (suc k) l = next_alone some live k (omega arith) (alone some live k (omega arith))

-- what has been handed up once all packets of a link are used
all_told : (gateway : Gateway) (sent : List Packet) (m : Moment) → Stand gateway sent m → larger m ≡ length sent → m.handed ≡ sent
all_told gateway sent m h e = h.told ∙ ap (λ (n : ℕ). take n sent) e ∙ take-length sent

pub can_be_told : CanBeTold
can_be_told gateway sent q = (turn, λ live. one live (alone gateway sent q 32768 lag_enough (omega arith) live (length sent) (omega arith)))
  where
    lag_enough : 32768 ≤ most_lag gateway.strict
    lag_enough = by gateway.strict
      where
        by : (strict : Bool) → 32768 ≤ most_lag strict
        by true = omega arith
        by false = omega arith

    turn : ToldInTurn gateway sent
    turn =
        let x = in_turn gateway sent q 32768 lag_enough (omega arith) (length sent) (omega arith) in
        record {
          now = x.m;
          run = x.run;
          packets = x.packets;
          told = all_told gateway sent x.m (stand gateway sent q 32768 lag_enough x.m x.run) (omega (arith, x.packets true, x.packets false));
        }

    one : (live : Bool) → Alone gateway sent q 32768 lag_enough live (length sent) → ToldAlone gateway sent live
    one live x = record {
      now = x.m;
      run = x.run;
      packets = x.packets;
      silent = x.silent;
      told = all_told gateway sent x.m (stand gateway sent q 32768 lag_enough x.m x.run) (by live x.packets x.silent);
    }
      where
        by : (l : Bool) → (link_of l x.m).packets ≡ length sent → link_of (not l) x.m ≡ nothing_yet → larger x.m ≡ length sent
        by true p e = omega (arith, p, ap (λ (y : Link). y.packets) e)
        by false p e = omega (arith, p, ap (λ (y : Link). y.packets) e)

-- ---- the long sequence

data_sent : (strict : Bool) (place n : ℕ) → SentFrom (initiator strict) (suc place) (data_from (suc place) n)
unfolding data_from
data_sent strict place zero = tt
data_sent strict place (suc n) = (
  record { version_fits = lit< tt; application_fits = lit< tt; numbered = refl; short = lit≤ tt; kinded = inl refl },
  data_sent strict (suc place) n,
)

data_length : (place n : ℕ) → length (data_from place n) ≡ n
unfolding data_from
data_length place zero = refl
data_length place (suc n) = ap suc (data_length (suc place) n)

pub long_may_be_sent : LongMayBeSent
unfolding long_sequence opening_fault least_of field_of
long_may_be_sent strict n = (
  (
    record {
      version_fits = lit< tt;
      application_fits = lit< tt;
      numbered = refl;
      short = lit≤ tt;
      kinded = record { opening = refl; acceptable = refl; allowed = λ f. absurd (false≢true f) };
    },
    data_sent strict 0 n,
  ),
  ap suc (data_length 1 n),
)

data_past : (place n k : ℕ) → drop k (data_from place n) ≡ data_from (k + place) (n - k)
unfolding data_from
data_past place n zero = let e : place ≡ 0 + place = omega arith in let f : n ≡ n - 0 = omega arith in ap₂ data_from e f
data_past place zero (suc k) = let f : 0 ≡ 0 - suc k = omega arith in ap (data_from (suc k + place)) f
data_past place (suc n) (suc k) =
    let e : k + suc place ≡ suc k + place = omega arith in
    let f : n - k ≡ suc n - suc k = omega arith in
    data_past (suc place) n k ∙ ap₂ data_from e f

-- the sequence from a data packet on
long_past : (n k : ℕ) → drop (suc k) (long_sequence n) ≡ data_from (k + 1) (n - k)
unfolding long_sequence
long_past n k = data_past 1 n k

last_three : numbers_of (data_from 65535 3) ≡ 65535 ∷ 0 ∷ 1 ∷ []
unfolding data_from
last_three = refl

pub goes_past_the_wrap : GoesPastTheWrap
goes_past_the_wrap = ap numbers_of (long_past 65537 65534) ∙ last_three
