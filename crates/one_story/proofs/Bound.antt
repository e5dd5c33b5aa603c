-- The bound on the lag is sharp in both settings: a run in which a link lags one packet more, and its next packet is handed up a second time. All packets of
-- that run arrive on the two links in step.
-- Assumes nothing.
use Prim.Native.Nat.{ℕ, zero, suc, ◌+◌, ◌-◌, ◌≤◌, ◌<◌}
use mathlib.Core.Path.{◌≡◌, refl, sym, ap, ◌∙◌, subst}
use mathlib.Core.Bool.{Bool, true, false, false≢true}
use mathlib.Core.List.{List, [], ◌∷◌}
use native.Mathlib.Omega.{arith}
use lib.ListN.{length, take, length-append, length-take}
use Rattle.number.specs.Number.{numbers, behind_from}
use Rattle.links.specs.declared.State.{State}
use Rattle.links.specs.declared.Taken.{Taken}
use Rattle.links.specs.Table.{judgeable, too_far, rows_of}
use Rattle.link_promises.specs.Promises.{of_link, looks_at}
use Rattle.one_story.specs.Sequence.{Packet, Gateway, Sent, Sequence, packet_on, bytes_on}
use Rattle.one_story.specs.Run.{Link, Moment, link_of, start, arrived_on, Drained, handed_by, taken_then, stepped, Run, Anything, Always}
use Rattle.one_story.specs.OneStory.{NotFarBehind, both_bring, RunOf, Story, larger, most_lag, NoMoreThanThat, LagIsNeeded}
use Rattle.one_story.specs.Arrivals.{InStep, ArrivalsNotEnough}
use Rattle.one_story.specs.Met.{initiator, long_sequence}
use Rattle.one_story.proofs.Pieces.{bytes_grow, Next, next_of, next_bytes}
use Rattle.one_story.proofs.Standing.{Stands, packet_length}
use Rattle.one_story.proofs.Judged.{state_at, Hands, behind_taken}
use Rattle.one_story.proofs.Links.{stands_there, holds_next}
use Rattle.one_story.proofs.Runs.{ltb_by, hands_up, by_look}
use Rattle.one_story.proofs.Story.{Stand, stand_up, weaken}
use Rattle.one_story.proofs.Long.{OneMore, looked_is, used_one, HasBrought, Comes, comes, drained_at, stand, Used, comes_and_is_used, long_may_be_sent}

-- what held at every moment of a run holds where less is supposed
weaken_always : {gateway : Gateway} {brings : Bool → List Packet} {Near Near' : Moment → Bool → Type 0} (P : Moment → Type 0)
    (less : (m : Moment) (link : Bool) → Near m link → Near' m link) {m : Moment} (run : Run gateway brings Near m) → Always P run → Always P (weaken less run)
unfolding weaken
weaken_always P less Run.begun a = a
weaken_always P less (Run.arrives x link piece rest e) a = (weaken_always P less x a.0, a.1)
weaken_always P less (Run.steps x normal normal_at redundant redundant_at n r near) a = (weaken_always P less x a.0, a.1)

-- the d of that packet leaves none out, and the loose setting does not mind
not_far : (strict : Bool) → too_far strict (1 + numbers - most_lag strict) ≡ false
unfolding too_far
not_far true = refl
not_far false = refl

module _ (gateway : Gateway) (sent : List Packet) (q : Sequence gateway sent) where
  -- ---- in step

  -- fewer bytes, no more packets
  bytes_back : (link : Bool) (k a : ℕ) → k ≤ length sent → length (bytes_on link (take k sent)) ≤ length (bytes_on link (take a sent)) → k ≤ a
  bytes_back link k a l h = ltb_by a k more (λ f. f)
    where
      more : a < k → k ≤ a
      more f =
          let x = next_of gateway sent q a (omega arith) in
          let size = packet_length gateway a x.packet x.sent link in
          let e = ap length (next_bytes gateway sent link a a x) ∙ length-append (bytes_on link (take a sent)) (packet_on link x.packet) in
          let grow = bytes_grow link sent (suc a) k f in
          let z : ⊥ = omega (arith, size, e, grow, h) in
          absurd z

  in_step : (m : Moment) (a b : ℕ) → HasBrought gateway sent q true a m → HasBrought gateway sent q false b m → a ≤ suc b → b ≤ suc a → InStep sent m
  in_step m a b ea eb f g true n l h =
      let k = bytes_back true (suc n) a l (omega (arith, ap length ea)) in
      omega (arith, bytes_grow false sent n b (omega arith), ap length eb)
  in_step m a b ea eb f g false n l h =
      let k = bytes_back false (suc n) b l (omega (arith, ap length eb)) in
      omega (arith, bytes_grow true sent n a (omega arith), ap length ea)

  module _ (lag : ℕ) (enough : lag ≤ most_lag gateway.strict) (some : 1 < lag) where
    -- the normal link has brought j packets, of which none is used; the redundant one j + 1, of which one is used
    record Level (j : ℕ) : Type 0 where
      m : Moment
      run : RunOf gateway sent lag m
      always : Always (InStep sent) run
      normal_brought : HasBrought gateway sent q true j m
      normal_packets : m.normal.packets ≡ 0
      redundant_brought : HasBrought gateway sent q false (suc j) m
      redundant_packets : m.redundant.packets ≡ 1

    first_level : 0 < length sent → Level 0
    first_level l = record {
      m = x.now;
      run = x.run;
      always =
          x.in_step (in_step (start gateway) 0 0 refl refl (omega arith) (omega arith))
          (λ n own other. in_step n 0 1 other own (omega arith) (omega arith));
      normal_brought = ap (λ (y : Link). y.arrived) x.other;
      normal_packets = ap (λ (y : Link). y.packets) x.other;
      redundant_brought = x.brought;
      redundant_packets = x.packets;
    }
      where
        x : Used gateway sent q lag enough false 0 (start gateway) Run.begun
        x =
            comes_and_is_used gateway sent q lag enough false 0 (start gateway) Run.begun l refl refl (omega arith)
            (λ _. drained_at gateway sent q (start gateway) (stand gateway sent q lag enough (start gateway) Run.begun) true refl)

    next_level : (j : ℕ) → suc j < length sent → Level j → Level (suc j)
    next_level j l x = record {
      m = m₂;
      run = Run.arrives (Run.arrives x.run true c.piece c.rest c.right) false d.piece d.rest d.right;
      always = (
        (x.always, in_step m₁ (suc j) (suc j) c.brought x.redundant_brought (omega arith) (omega arith)),
        in_step m₂ (suc j) (suc (suc j)) c.brought d.brought (omega arith) (omega arith),
      );
      normal_brought = c.brought;
      normal_packets = x.normal_packets;
      redundant_brought = d.brought;
      redundant_packets = x.redundant_packets;
    }
      where
        c : Comes gateway sent q true j x.m
        c = comes gateway sent q true j x.m (omega arith) x.normal_brought

        m₁ : Moment
        m₁ = arrived_on true c.piece x.m

        d : Comes gateway sent q false (suc j) m₁
        d = comes gateway sent q false (suc j) m₁ l x.redundant_brought

        m₂ : Moment
        m₂ = arrived_on false d.piece m₁

    level : (j : ℕ) → j < length sent → Level j
    level zero l = first_level l
    level (suc j) l = next_level j l (level j (omega arith))

    -- all packets have arrived on both links; j are used from the normal one, one from the redundant one
    record Reached (j : ℕ) : Type 0 where
      m : Moment
      run : RunOf gateway sent lag m
      always : Always (InStep sent) run
      normal_brought : HasBrought gateway sent q true (length sent) m
      normal_packets : m.normal.packets ≡ j
      redundant_brought : HasBrought gateway sent q false (length sent) m
      redundant_packets : m.redundant.packets ≡ 1

    all_arrived : (j : ℕ) → suc j ≡ length sent → Reached 0
    all_arrived j l = record {
      m = m₁;
      run = Run.arrives x.run true c.piece c.rest c.right;
      always = (x.always, in_step m₁ (suc j) (suc j) c.brought x.redundant_brought (omega arith) (omega arith));
      normal_brought = c.brought ∙ ap (λ (n : ℕ). bytes_on true (take n sent)) l;
      normal_packets = x.normal_packets;
      redundant_brought = x.redundant_brought ∙ ap (λ (n : ℕ). bytes_on false (take n sent)) l;
      redundant_packets = x.redundant_packets;
    }
      where
        x : Level j
        x = level j (omega arith)

        c : Comes gateway sent q true j x.m
        c = comes gateway sent q true j x.m (omega arith) x.normal_brought

        m₁ : Moment
        m₁ = arrived_on true c.piece x.m

    -- a link of which not all is used holds a packet
    holds : (m : Moment) → Stand gateway sent m → (link : Bool) → HasBrought gateway sent q link (length sent) m → (link_of link m).packets < length sent
        → judgeable (link_of link m).arrived (link_of link m).used ≡ true
    holds m h link b l =
        let x = link_of link m in
        holds_next gateway link sent x (h.links link) x.arrived x.used refl x.packets (next_of gateway sent q x.packets l)
        (omega (arith, ap length b, bytes_grow link sent (suc x.packets) (length sent) l))

    one_further : (j : ℕ) → j < length sent → Reached j → Reached (suc j)
    one_further j l x = record {
      m = stepped gateway x.m;
      run =
          Run.steps x.run x.m.normal.arrived x.m.normal.used x.m.redundant.arrived x.m.redundant.used refl refl
          (λ looked looks. subst (NotFarBehind lag x.m) (sym (looked_is gateway x.m (stand_up gateway sent x.m h) true there (λ f. absurd (false≢true (sym f))) looked looks)) near);
      always = (x.always, in_step (stepped gateway x.m) (length sent) (length sent) normal_brought redundant_brought (omega arith) (omega arith));
      normal_brought = normal_brought;
      normal_packets = one.packets ∙ ap suc x.normal_packets;
      redundant_brought = redundant_brought;
      redundant_packets = ap (λ (y : Link). y.packets) one.other ∙ x.redundant_packets;
    }
      where
        h : Stand gateway sent x.m
        h = stand gateway sent q lag enough x.m x.run

        there : judgeable x.m.normal.arrived x.m.normal.used ≡ true
        there = holds x.m h true x.normal_brought (omega (arith, x.normal_packets))

        near : NotFarBehind lag x.m true
        near = omega (arith, x.redundant_packets)

        one : OneMore true x.m (stepped gateway x.m)
        one = used_one gateway sent q x.m h true there (λ f. absurd (false≢true (sym f)))

        normal_brought : HasBrought gateway sent q true (length sent) (stepped gateway x.m)
        normal_brought = one.arrived ∙ x.normal_brought

        redundant_brought : HasBrought gateway sent q false (length sent) (stepped gateway x.m)
        redundant_brought = ap (λ (y : Link). y.arrived) one.other ∙ x.redundant_brought

    so_many : (j : ℕ) → j ≤ length sent → Reached 0 → Reached j
    so_many zero l x = x
    so_many (suc j) l x = one_further j (omega arith) (so_many j (omega arith) x)

  -- ---- one step more: the second packet of the redundant link has a number that follows, and is handed up again
  module _ (enough : most_lag gateway.strict ≤ most_lag gateway.strict) (some : 1 < most_lag gateway.strict) (long : length sent ≡ suc (most_lag gateway.strict))
      (x : Reached (most_lag gateway.strict) enough some (length sent)) where
    abbrev lag : ℕ
    lag = most_lag gateway.strict

    -- the moment after that step, in both runs, and no story there
    record Again : Type 0 where
      now : Moment
      run : RunOf gateway sent (suc lag) now
      in_step_run : Run gateway (both_bring sent) Anything now
      always : Always (InStep sent) in_step_run
      no_story : Story sent now → ⊥

    again : Again
    again = record {
      now = stepped gateway m;
      run =
          Run.steps (weaken (λ n link near. more n link near) x.run) m.normal.arrived m.normal.used m.redundant.arrived m.redundant.used refl refl
          (λ looked looks. subst (NotFarBehind (suc lag) m) (sym (looked_is gateway m (stand_up gateway sent m h) false there (λ _. drained) looked looks)) near);
      in_step_run =
          Run.steps (weaken (λ n link near. tt) x.run) m.normal.arrived m.normal.used m.redundant.arrived m.redundant.used refl refl (λ looked looks. tt);
      always = (
        weaken_always (InStep sent) (λ n link near. tt) x.run x.always,
        in_step (stepped gateway m) (length sent) (length sent) (ap (λ (y : Link). y.arrived) one.other ∙ x.normal_brought) (one.arrived ∙ x.redundant_brought) (omega arith)
            (omega arith),
      );
      no_story = wrong;
    }
      where
        m : Moment
        m = x.m

        h : Stand gateway sent m
        h = stand gateway sent q lag enough m x.run

        more : (n : Moment) (link : Bool) → NotFarBehind lag n link → NotFarBehind (suc lag) n link
        more n link near = omega (arith, near)

        near : NotFarBehind (suc lag) m false
        near = omega (arith, x.normal_packets, x.redundant_packets, long)

        all : larger m ≡ suc lag
        all = omega (arith, x.normal_packets, x.redundant_packets, long)

        drained : Drained m.normal
        drained = drained_at gateway sent q m h true (subst (λ (n : ℕ). HasBrought gateway sent q true n m) (sym x.normal_packets) x.normal_brought)

        there : judgeable m.redundant.arrived m.redundant.used ≡ true
        there = holds lag enough some m h false x.redundant_brought (omega (arith, x.redundant_packets, long))

        one : OneMore false m (stepped gateway m)
        one = used_one gateway sent q m h false there (λ _. drained)

        n : Next gateway m.redundant.packets sent m.redundant.packets
        n = next_of gateway sent q m.redundant.packets (omega (arith, x.redundant_packets, long))

        second : Sent gateway 1 n.packet
        second = subst (λ (j : ℕ). Sent gateway j n.packet) x.redundant_packets n.sent

        reads : Stands false n.packet m.redundant.arrived m.redundant.used
        reads =
            stands_there gateway false sent m.redundant (h.links false) m.redundant.arrived m.redundant.used refl m.redundant.packets n there

        hands : Hands gateway n.packet false m.redundant.arrived m.redundant.used reads (suc lag)
        hands =
            behind_taken gateway n.packet false m.redundant.arrived m.redundant.used reads lag 0 second (omega arith) (wraps gateway.strict)
            (few gateway.strict) (not_far gateway.strict)
          where
            wraps : (strict : Bool) → most_lag strict < 1 + numbers
            wraps true = omega arith
            wraps false = omega arith

            few : (strict : Bool) → 1 + numbers - most_lag strict < behind_from
            few true = omega arith
            few false = omega arith

        handed : handed_by m.normal.arrived m.redundant.arrived (taken_then gateway m) ≡ n.packet ∷ []
        handed =
            by_look gateway m (stand_up gateway sent m h) m.normal.arrived m.normal.used m.redundant.arrived m.redundant.used
            (λ (t : Taken). handed_by m.normal.arrived m.redundant.arrived t ≡ n.packet ∷ []) (λ _ r. absurd (false≢true (sym r ∙ there))) by
          where
            by : (link : Bool) → (link ≡ false → Drained m.normal) → looks_at m.normal.arrived m.normal.used m.redundant.arrived m.redundant.used gateway.callers gateway.ours m.state link ≡ true
                → judgeable (of_link link m.normal.arrived m.redundant.arrived) (of_link link m.normal.used m.redundant.used) ≡ true
                → handed_by m.normal.arrived m.redundant.arrived
                (rows_of true link (of_link link m.normal.arrived m.redundant.arrived) (of_link link m.normal.used m.redundant.used) gateway.callers gateway.ours m.state) ≡ n.packet ∷ []
            by true past looks e = absurd (false≢true (sym drained ∙ e))
            by false past looks e =
                ap (λ (s : State). handed_by m.normal.arrived m.redundant.arrived (rows_of true false m.redundant.arrived m.redundant.used gateway.callers gateway.ours s))
                (h.state ∙ ap (state_at gateway) all)
                ∙ ap (handed_by m.normal.arrived m.redundant.arrived) hands
                ∙ hands_up m.normal.arrived m.redundant.arrived false m.redundant.used (state_at gateway (suc lag)) n.packet reads

        wrong : Story sent (stepped gateway m) → ⊥
        wrong claim =
            let size = ap length claim.told ∙ length-take (larger (stepped gateway m)) sent in
            let sum = length-append m.handed (handed_by m.normal.arrived m.redundant.arrived (taken_then gateway m)) in
            let last = ap length handed in
            omega (arith, size, sum, last, ap length h.told, length-take (larger m) sent, all, long)

-- ---- the sequence that has one packet more than the most lag

module _ (strict : Bool) where
  many : List Packet
  many = long_sequence (most_lag strict)

  many_sent : Sequence (initiator strict) many
  unfolding many
  many_sent = (long_may_be_sent strict (most_lag strict)).0

  many_length : length many ≡ suc (most_lag strict)
  unfolding many
  many_length = (long_may_be_sent strict (most_lag strict)).1

  enough : most_lag strict ≤ most_lag strict
  enough = omega arith

  some : 1 < most_lag strict
  some = by strict
    where
      by : (s : Bool) → 1 < most_lag s
      by true = omega arith
      by false = omega arith

  twice : (x : Reached (initiator strict) many many_sent (most_lag strict) enough some (length many))
      → Again (initiator strict) many many_sent enough some many_length x
  twice x = again (initiator strict) many many_sent enough some many_length x

  reached : Reached (initiator strict) many many_sent (most_lag strict) enough some (length many)
  reached =
      so_many (initiator strict) many many_sent (most_lag strict) enough some (length many) (omega arith)
      (all_arrived (initiator strict) many many_sent (most_lag strict) enough some (most_lag strict) (sym many_length))

pub no_more_than_that : NoMoreThanThat
no_more_than_that strict claim =
    let x = twice strict (reached strict) in
    x.no_story (claim (initiator strict) refl (many strict) (many_sent strict) x.now x.run)

pub lag_is_needed : LagIsNeeded
lag_is_needed claim =
    let x = twice true (reached true) in
    x.no_story (claim (initiator true) refl (many true) (many_sent true) x.now x.in_step_run)

pub arrivals_not_enough : ArrivalsNotEnough
arrivals_not_enough claim =
    let x = twice true (reached true) in
    x.no_story (claim (initiator true) refl (many true) (many_sent true) x.now x.in_step_run x.always)
