-- One link goes silent for good: no step looks at it again, so what is supposed of lags holds by itself.
-- Assumes nothing.
use Prim.Native.Nat.{ℕ, ◌+◌, ◌≤◌, ◌<◌}
use mathlib.Core.Path.{◌≡◌, refl, sym, ap, ap₂, ◌∙◌, subst}
use mathlib.Core.Bool.{Bool, true, false, not, cond, false≢true}
use mathlib.Core.List.{List}
use mathlib.Core.Logic.{◌⊎◌, inl, inr, ⊎_elim}
use native.Mathlib.Omega.{arith}
use borrow.Author.Tests.{eq-eqb}
use Rattle.packet.specs.Packet.{PacketOn}
use Rattle.links.specs.declared.Taken.{Taken}
use Rattle.links.specs.Table.{judgeable, held}
use Rattle.links.proofs.Bools.{both_true}
use Rattle.links.proofs.Judged.{whole}
use Rattle.link_promises.specs.Promises.{of_link, looks_at}
use Rattle.link_promises.proofs.Accepted.{right_length}
use Rattle.link_promises.proofs.Outcome.{by_step}
use Rattle.one_story.specs.Sequence.{Packet, Gateway}
use Rattle.one_story.specs.Run.{Link, Moment, link_of, Lends, Drained, packets_of, used_up, after, step_of, Run}
use Rattle.one_story.specs.OneStory.{NotFarBehind, RunOf}
use Rattle.one_story.specs.Silent.{Onward, SilenceCovered}
use Rattle.one_story.proofs.Links.{lent_judgeable}

-- a packet that stands there is there to judge
packet_judgeable : (link : Bool) (s : List ℕ) (at : ℕ) → PacketOn link s at → judgeable s at ≡ true
packet_judgeable link s at p = sym (whole s at (omega (arith, p.whole, p.least)) (sym (right_length link s at p)) p.whole)

-- no bytes are used
none_used : (link : Link) (t : Taken) → t.used ≡ 0 → used_up link t ≡ link
none_used link t u =
    let a : link.used + t.used ≡ link.used = omega arith in
    let n : packets_of t ≡ 0 = simp (eq-eqb t.used 0 u) in
    let b : link.packets + packets_of t ≡ link.packets = omega arith in
    ap₂ (λ (x y : ℕ). with_counts x y) a b
  where
    with_counts : ℕ → ℕ → Link
    with_counts x y = record { arrived = link.arrived; used = x; packets = y }

cond_same : {A : Type 0} (b : Bool) (x y z : A) → x ≡ z → y ≡ z → cond b x y ≡ z
cond_same true x y z e f = e
cond_same false x y z e f = f

module _ (gateway : Gateway) (m : Moment) (normal : List ℕ) (normal_at : ℕ) (redundant : List ℕ) (redundant_at : ℕ)
    (ln : Lends m.normal normal normal_at) (lr : Lends m.redundant redundant redundant_at) where
  -- a link that holds something to judge is not the drained one
  same_or_held : (live link : Bool) → Drained (link_of (not live) m) → judgeable (of_link link normal redundant) (of_link link normal_at redundant_at) ≡ true → link ≡ live
  same_or_held true true d h = refl
  same_or_held false false d h = refl
  same_or_held true false d h = absurd (false≢true (sym (lent_judgeable m.redundant redundant redundant_at lr ∙ d) ∙ h))
  same_or_held false true d h = absurd (false≢true (sym (lent_judgeable m.normal normal normal_at ln ∙ d) ∙ h))

  -- the live link is used, or none
  spares : (live : Bool) → Drained (link_of (not live) m)
      → let t = step_of gateway normal normal_at redundant redundant_at m in (t.used ≡ 0) ⊎ (t.normal ≡ live)
  spares live d =
      by_step normal normal_at redundant redundant_at gateway.callers gateway.ours m.state (λ (t : Taken). (t.used ≡ 0) ⊎ (t.normal ≡ live))
      (λ a k o. inl refl) (λ link a k l h. inl refl)
      (λ link a k l p. inr (same_or_held live link d (packet_judgeable link (of_link link normal redundant) (of_link link normal_at redundant_at) p)))
      (λ link c. inr (same_or_held live link d (packet_judgeable link (of_link link normal redundant) (of_link link normal_at redundant_at) c.stands)))

  -- the drained link stays as it is
  stays : (live : Bool) (t : Taken) → (t.used ≡ 0) ⊎ (t.normal ≡ live) → link_of (not live) (after normal redundant t m) ≡ link_of (not live) m
  stays true t =
      ⊎_elim (λ u. cond_same t.normal m.redundant (used_up m.redundant t) m.redundant refl (none_used m.redundant t u))
      (λ e. ap (λ (b : Bool). cond b m.redundant (used_up m.redundant t)) e)
  stays false t =
      ⊎_elim (λ u. cond_same t.normal (used_up m.normal t) m.normal m.normal (none_used m.normal t u) refl)
      (λ e. ap (λ (b : Bool). cond b (used_up m.normal t) m.normal) e)

  -- and of the other no fewer packets are used
  no_less : (b : Bool) (link : Link) (t : Taken) → (link.packets ≤ (cond b (used_up link t) link).packets) × (link.packets ≤ (cond b link (used_up link t)).packets)
  no_less true link t = (omega arith, omega arith)
  no_less false link t = (omega arith, omega arith)

  grows : (live : Bool) (t : Taken) → (link_of live m).packets ≤ (link_of live (after normal redundant t m)).packets
  grows true t = (no_less t.normal m.normal t).0
  grows false t = (no_less t.normal m.redundant t).1

  -- only the live link is looked at
  looks_live : (live link : Bool) → Drained (link_of (not live) m)
      → looks_at normal normal_at redundant redundant_at gateway.callers gateway.ours m.state link ≡ true → link ≡ live
  looks_live live true d l = same_or_held live true d (both_true m.state.normal_up (judgeable normal normal_at) l).1
  looks_live live false d l =
      same_or_held live false d
      (both_true m.state.redundant_up (judgeable redundant redundant_at)
      (both_true (not (held m.state.normal_up normal normal_at)) (held m.state.redundant_up redundant redundant_at) l).1).1

-- ---- all steps

record Goes (gateway : Gateway) (sent : List Packet) (lag : ℕ) (live : Bool) (n : Moment) : Type 0 where
  run : RunOf gateway sent lag n
  drained : Drained (link_of (not live) n)
  near : NotFarBehind lag n live

goes_on_lem : (gateway : Gateway) (sent : List Packet) (lag : ℕ) (live : Bool) (m : Moment) → Goes gateway sent lag live m
    → {n : Moment} → Onward gateway sent live m n → Goes gateway sent lag live n
goes_on_lem gateway sent lag live m g Onward.here = g
goes_on_lem gateway sent lag true m g (Onward.arrives {n} x piece rest e) =
    let h = goes_on_lem gateway sent lag true m g x in
    record { run = Run.arrives h.run true piece rest e; drained = h.drained; near = h.near }
goes_on_lem gateway sent lag false m g (Onward.arrives {n} x piece rest e) =
    let h = goes_on_lem gateway sent lag false m g x in
    record { run = Run.arrives h.run false piece rest e; drained = h.drained; near = h.near }
goes_on_lem gateway sent lag live m g (Onward.steps {n} x normal normal_at redundant redundant_at ln lr) =
    let h = goes_on_lem gateway sent lag live m g x in
    let t = step_of gateway normal normal_at redundant redundant_at n in
    let e = stays gateway n normal normal_at redundant redundant_at ln lr live t (spares gateway n normal normal_at redundant redundant_at ln lr live h.drained) in
    record {
      run =
          Run.steps h.run normal normal_at redundant redundant_at ln lr
          (λ link looks. subst (NotFarBehind lag n) (sym (looks_live gateway n normal normal_at redundant redundant_at ln lr live link h.drained looks)) h.near);
      drained = subst Drained (sym e) h.drained;
      near =
          reach (link_of (not live) n).packets (link_of live n).packets (link_of (not live) (after normal redundant t n)).packets
          (link_of live (after normal redundant t n)).packets h.near (ap (λ (l : Link). l.packets) e) (grows gateway n normal normal_at redundant redundant_at ln lr live t);
    }
  where
    reach : (a b a' b' : ℕ) → a < b + lag → a' ≡ a → b ≤ b' → a' < b' + lag
    reach a b a' b' h e g = omega arith

pub silence_covered : SilenceCovered
silence_covered gateway sent lag m x live d near n o = (goes_on_lem gateway sent lag live m (record { run = x; drained = d; near = near }) o).run
