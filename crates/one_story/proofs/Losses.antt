-- Links that lose packets: the loose setting hands up in order, and only what was lost is missing; the strict one never skips.
-- Assumes nothing.
use Prim.Native.Nat.{ℕ, zero, suc, ◌+◌, ◌-◌, ◌≤◌, ◌<◌, max}
use mathlib.Core.Path.{◌≡◌, refl, sym, ap, ◌∙◌, subst}
use mathlib.Core.Bool.{Bool, true, false, not}
use mathlib.Core.List.{List, [], ◌∷◌, ◌++◌, Memᴰ}
use mathlib.Core.Logic.{◌⊎◌, inl, inr, ⊎_elim}
use native.Mathlib.Omega.{arith}
use borrow.Author.Tests.{eqb-true, eqb-false}
use lib.Dec.{eqb}
use lib.ListN.{length, get_or, take, drop, length-append}
use Rattle.link_promises.proofs.Accepted.{never_too_far}
use Rattle.link_promises.proofs.Outcome.{entry}
use Rattle.one_story.specs.Sequence.{Packet, Gateway, Sent, SentFrom, Sequence}
use Rattle.one_story.specs.Run.{Moment, link_of, Run}
use Rattle.one_story.specs.OneStory.{most_lag}
use Rattle.one_story.specs.Losses.{no_packet, packets_at, InOrder, Keeps, Loses, brought_of, passed_by, passed_on, furthest, passed_next, NotFarApart}
use Rattle.one_story.specs.Losses.{SkippingStory, OneLoses, BothLose, NotFarNorLate, LooseMissesOnlyLost, LooseMissesBothLost, NotFarFromTold, StrictNeverSkips}
use Rattle.one_story.proofs.Pieces.{Next, Placed, before}
use Rattle.one_story.proofs.Standing.{Stands}
use Rattle.one_story.proofs.Judged.{Hands, Drops, ahead, behind, beyond, next_one, earlier_one}
use Rattle.one_story.proofs.Runs.{ltb_by, normal_of, redundant_of, Teller, holds_up, run_holds}

-- ---- places in order

-- the places are from the first on and before the end
within : (from end place : ℕ) (places : List ℕ) → InOrder from end places → Memᴰ place places → (from ≤ place) × (place < end)
within from end place [] o x = elim x [ ]
within from end place (p ∷ ps) o (Memᴰ.head e) = (omega (arith, o.0, e), omega (arith, o.1, e))
within from end place (p ∷ ps) o (Memᴰ.tail i) = let r = within (suc p) end place ps o.2 i in (omega (arith, r.0, o.0), r.1)

-- the packets of a link before one reach no further than that one
passed_before : (from end k : ℕ) (kept : List ℕ) → InOrder from end kept → k < length kept → passed_by kept k ≤ get_or kept k 0
passed_before from end k [] o l = let none : ⊥ = omega arith in absurd none
passed_before from end zero (p ∷ ps) o l = omega arith
passed_before from end (suc zero) (p ∷ ps) o l = first ps o.2 (omega arith)
  where
    first : (ps : List ℕ) → InOrder (suc p) end ps → 0 < length ps → suc p ≤ get_or ps 0 0
    first [] o l = let none : ⊥ = omega arith in absurd none
    first (q ∷ qs) o l = o.0
passed_before from end (suc (suc k)) (p ∷ ps) o l = passed_before (suc p) end (suc k) ps o.2 (omega arith)

-- and a place between is none that the link brings
between : (from end k place : ℕ) (kept : List ℕ) → InOrder from end kept → k < length kept → passed_by kept k ≤ place → place < get_or kept k 0 → Memᴰ place kept → ⊥
between from end zero place [] o l h g _ = elim l [ ]
between from end (suc zero) place [] o l h g _ = elim l [ ]
between from end (suc (suc k)) place [] o l h g _ = elim l [ ]
between from end zero place (p ∷ ps) o l h g (Memᴰ.head e) = omega (arith, e)
between from end zero place (p ∷ ps) o l h g (Memᴰ.tail i) = omega (arith, (within (suc p) end place ps o.2 i).0)
between from end (suc zero) place (p ∷ ps) o l h g (Memᴰ.head e) = omega (arith, e)
between from end (suc zero) place (p ∷ ps) o l h g (Memᴰ.tail i) = between (suc p) end zero place ps o.2 (omega arith) (omega arith) g i
between from end (suc (suc k)) place (p ∷ ps) o l h g (Memᴰ.head e) =
    let r = passed_before from end (suc (suc k)) (p ∷ ps) o l in
    omega (arith, e, h, later (suc p) end k ps o.2 (omega arith))
  where
    later : (from end k : ℕ) (ps : List ℕ) → InOrder from end ps → k < length ps → from ≤ get_or ps k 0
    later from end k [] o l = let none : ⊥ = omega arith in absurd none
    later from end zero (q ∷ qs) o l = o.0
    later from end (suc k) (q ∷ qs) o l = let r = later (suc q) end k qs o.2 (omega arith) in omega (arith, o.0)
between from end (suc (suc k)) place (p ∷ ps) o l h g (Memᴰ.tail i) = between (suc p) end (suc k) place ps o.2 (omega arith) h g i

-- one more at the end
one_more_lem : (from end place : ℕ) (places : List ℕ) → InOrder from end places → from ≤ place → end ≤ place → InOrder from (suc place) (places ++ (place ∷ []))
one_more_lem from end place [] o h g = (h, omega arith, tt)
one_more_lem from end place (p ∷ ps) o h g = (o.0, omega (arith, o.1), one_more_lem (suc p) end place ps o.2 (omega (arith, o.1)) g)

longer_mem : (place last : ℕ) (places : List ℕ) → Memᴰ place places → Memᴰ place (places ++ (last ∷ []))
longer_mem place last [] x = elim x [ ]
longer_mem place last (p ∷ ps) (Memᴰ.head e) = Memᴰ.head e
longer_mem place last (p ∷ ps) (Memᴰ.tail i) = Memᴰ.tail (longer_mem place last ps i)

last_mem : (last : ℕ) (places : List ℕ) → Memᴰ last (places ++ (last ∷ []))
last_mem last [] = Memᴰ.head refl
last_mem last (p ∷ ps) = Memᴰ.tail (last_mem last ps)

packets_more : (sent : List Packet) (places : List ℕ) (place : ℕ) → packets_at sent (places ++ (place ∷ [])) ≡ packets_at sent places ++ (get_or sent place no_packet ∷ [])
packets_more sent [] place = refl
packets_more sent (p ∷ ps) place = ap (λ (l : List Packet). get_or sent p no_packet ∷ l) (packets_more sent ps place)

packets_length : (sent : List Packet) (places : List ℕ) → length (packets_at sent places) ≡ length places
packets_length sent [] = refl
packets_length sent (p ∷ ps) = ap suc (packets_length sent ps)

take_next : (k : ℕ) (ps : List Packet) → k < length ps → take (suc k) ps ≡ take k ps ++ (get_or ps k no_packet ∷ [])
take_next k [] l = let none : ⊥ = omega arith in absurd none
take_next zero (p ∷ ps) l = refl
take_next (suc k) (p ∷ ps) l = ap (λ (x : List Packet). p ∷ x) (take_next k ps (omega arith))

-- ---- the packets that a link brings have their places

module _ (gateway : Gateway) (sent : List Packet) (q : Sequence gateway sent) where
  sent_at : (i k : ℕ) (ps : List Packet) → SentFrom gateway i ps → k < length ps → Sent gateway (i + k) (get_or ps k no_packet)
  sent_at i k [] g h = let none : ⊥ = omega arith in absurd none
  sent_at i zero (p ∷ ps) g h = let e : i ≡ i + 0 = omega arith in subst (λ (n : ℕ). Sent gateway n p) e g.0
  sent_at i (suc k) (p ∷ ps) g h =
      let e : suc i + k ≡ i + suc k = omega arith in
      subst (λ (n : ℕ). Sent gateway n (get_or ps k no_packet)) e (sent_at (suc i) k ps g.1 (omega arith))

  next_kept : (from : ℕ) (kept : List ℕ) → InOrder from (length sent) kept → Placed gateway (packets_at sent kept) (λ (k : ℕ). get_or kept k 0)
  next_kept from [] o k l = let none : ⊥ = omega arith in absurd none
  next_kept from (p ∷ ps) o zero l = record {
    packet = get_or sent p no_packet;
    sent = let e : 0 + p ≡ p = omega arith in subst (λ (n : ℕ). Sent gateway n (get_or sent p no_packet)) e (sent_at 0 p sent q o.1);
    onward = refl;
    so_far = refl;
  }
  next_kept from (p ∷ ps) o (suc k) l =
      before gateway (get_or sent p no_packet) (get_or ps k 0) (packets_at sent ps) k (next_kept (suc p) ps o.2 k (omega arith))

  -- the packet is the one at its place
  next_is : (kept : List ℕ) (k : ℕ) → k < length (packets_at sent kept) → (n : Next gateway (get_or kept k 0) (packets_at sent kept) k)
      → n.packet ≡ get_or sent (get_or kept k 0) no_packet
  next_is kept k l n = head_same (sym n.onward ∙ onward kept k l)
    where
      head_same : {p p' : Packet} {ps ps' : List Packet} → p ∷ ps ≡ p' ∷ ps' → p ≡ p'
      head_same e = cc

      onward : (kept : List ℕ) (k : ℕ) → k < length (packets_at sent kept)
          → drop k (packets_at sent kept) ≡ get_or sent (get_or kept k 0) no_packet ∷ drop (suc k) (packets_at sent kept)
      onward [] k l = let none : ⊥ = omega arith in absurd none
      onward (p ∷ ps) zero l = refl
      onward (p ∷ ps) (suc k) l = onward ps k (omega arith)

-- ---- the loose setting

module _ (gateway : Gateway) (loose : gateway.strict ≡ false) (sent : List Packet) (q : Sequence gateway sent) (keeps : Bool → List ℕ)
    (keep : (link : Bool) → Keeps sent (keeps link)) (Near : Moment → Bool → Type 0) (Missing : ℕ → Type 0)
    (apart : (m : Moment) (link : Bool) → Near m link → NotFarApart keeps m link)
    (passes : (m : Moment) (link : Bool) → Near m link → (link_of link m).packets < length (keeps link) → (place : ℕ) → furthest keeps m ≤ place
    → suc place < passed_next keeps m link → Missing place) where
  abbrev done_by : ℕ → ℕ → ℕ
  done_by a b = max (passed_by (keeps true) a) (passed_by (keeps false) b)

  -- what has been told, by how far the links are used
  record Told (done : ℕ) (handed : List Packet) : Type 0 where
    places : List ℕ
    told : handed ≡ packets_at sent places
    in_order : InOrder 0 done places
    missing : (place : ℕ) → place < done → Memᴰ place places ⊎ Missing place

  module _ (m : Moment) (told : Told (furthest keeps m) m.handed) (link : Bool) (near : Near m link)
      (l : (link_of link m).packets < length (brought_of sent keeps link))
      (n : Next gateway (get_or (keeps link) (link_of link m).packets 0) (brought_of sent keeps link) (link_of link m).packets) (s : List ℕ) (at : ℕ)
      (r : Stands link n.packet s at) where
    abbrev own : ℕ
    own = passed_on keeps m link

    abbrev other : ℕ
    other = passed_on keeps m (not link)

    abbrev place : ℕ
    place = get_or (keeps link) (link_of link m).packets 0

    abbrev then : ℕ
    then = done_by (normal_of link m.normal.packets) (redundant_of link m.redundant.packets)

    in_kept : (link_of link m).packets < length (keeps link)
    in_kept = omega (arith, l, packets_length sent (keeps link))

    own_before : own ≤ place
    own_before = passed_before 0 (length sent) (link_of link m).packets (keeps link) (keep link).in_order in_kept

    furthest_is : furthest keeps m ≡ max own other
    furthest_is = by link
      where
        by : (x : Bool) → furthest keeps m ≡ max (passed_on keeps m x) (passed_on keeps m (not x))
        by true = refl
        by false = omega arith

    then_is : then ≡ max (suc place) other
    then_is = by link
      where
        by : (x : Bool)
            → done_by (normal_of x m.normal.packets) (redundant_of x m.redundant.packets)
            ≡ max (suc (get_or (keeps x) (link_of x m).packets 0)) (passed_on keeps m (not x))
        by true = refl
        by false = omega arith

    -- nothing is used: the packet is the opening one
    opens : furthest keeps m ≡ 0 → place ≡ 0
    opens e = first (link_of link m).packets (omega (arith, furthest_is))
      where
        first : (k : ℕ) → passed_by (keeps link) k ≡ 0 → get_or (keeps link) k 0 ≡ 0
        first zero e = (keep link).opening
        first (suc k) e = let none : ⊥ = omega arith in absurd none

    hands_at : (done : ℕ) → furthest keeps m ≡ done → done ≤ place → Hands gateway n.packet link s at r done
    hands_at zero e h = next_one gateway n.packet link s at r 0 (subst (λ (j : ℕ). Sent gateway j n.packet) (opens e) n.sent)
    hands_at (suc last) e h =
        let a = apart m link near in
        ahead gateway n.packet link s at r last place n.sent (omega arith) (omega (arith, a.1))
        (never_too_far gateway.strict (place - last) loose)

    drops_at : (done : ℕ) → furthest keeps m ≡ done → place < done → Drops gateway n.packet link s at r done
    drops_at zero e h = let none : ⊥ = omega arith in absurd none
    drops_at (suc last) e h =
        let a = apart m link near in
        behind gateway n.packet link s at r last place n.sent (omega arith) (omega (arith, a.0))
        (λ one few. let none : ⊥ = omega (arith, a.0) in absurd none)

    told_then : furthest keeps m ≤ place → Told (suc place) (m.handed ++ (n.packet ∷ []))
    told_then h = record {
      places = told.places ++ (place ∷ []);
      told =
          ap (λ (x : List Packet). x ++ (n.packet ∷ [])) told.told
          ∙ ap (λ (p : Packet). packets_at sent told.places ++ (p ∷ [])) (next_is gateway sent q (keeps link) (link_of link m).packets l n)
          ∙ sym (packets_more sent told.places place);
      in_order = one_more_lem 0 (furthest keeps m) place told.places told.in_order (omega arith) h;
      missing = λ j g. ltb_by j (furthest keeps m) (before_it j) (λ f. ltb_by j place (λ b. inr (passes m link near in_kept j f (omega arith))) (λ b. inl (is_it j g b)));
    }
      where
        before_it : (j : ℕ) → j < furthest keeps m → Memᴰ j (told.places ++ (place ∷ [])) ⊎ Missing j
        before_it j f = ⊎_elim (λ i. inl (longer_mem j place told.places i)) (λ x. inr x) (told.missing j f)

        is_it : (j : ℕ) → j < suc place → place ≤ j → Memᴰ j (told.places ++ (place ∷ []))
        is_it j g b = let e : place ≡ j = omega arith in subst (λ (x : ℕ). Memᴰ x (told.places ++ (place ∷ []))) e (last_mem place told.places)

    judge : (Hands gateway n.packet link s at r (furthest keeps m) × (then ≡ suc place) × Told then (m.handed ++ (n.packet ∷ [])))
        ⊎ (Drops gateway n.packet link s at r (furthest keeps m) × (then ≡ furthest keeps m) × Told then m.handed)
    judge = ltb_by place (furthest keeps m) (λ h. inr (dropped h)) (λ h. inl (handed h))
      where
        handed : furthest keeps m ≤ place → Hands gateway n.packet link s at r (furthest keeps m) × (then ≡ suc place) × Told then (m.handed ++ (n.packet ∷ []))
        handed h =
            let e : then ≡ suc place = then_is ∙ omega (arith, furthest_is) in
            (hands_at (furthest keeps m) refl h, e, subst (λ (x : ℕ). Told x (m.handed ++ (n.packet ∷ []))) (sym e) (told_then h))

        dropped : place < furthest keeps m → Drops gateway n.packet link s at r (furthest keeps m) × (then ≡ furthest keeps m) × Told then m.handed
        dropped h =
            let e : then ≡ furthest keeps m = then_is ∙ omega (arith, furthest_is, own_before) in
            (drops_at (furthest keeps m) refl h, e, subst (λ (x : ℕ). Told x m.handed) (sym e) told)

  loose_teller : Teller gateway (brought_of sent keeps) Near
  loose_teller = record {
    place_of = λ link k. get_or (keeps link) k 0;
    placed = λ link. next_kept gateway sent q 0 (keeps link) (keep link).in_order;
    done = λ a b handed. done_by a b;
    Told = λ a b handed. Told (done_by a b) handed;
    at_start = (refl, record { places = []; told = refl; in_order = tt; missing = λ place h. let none : ⊥ = omega arith in absurd none });
    judges = λ m told link near l n s at r. judge m told link near l n s at r;
  }

  skipping_story : (m : Moment) → Run gateway (brought_of sent keeps) Near m → SkippingStory sent keeps Missing m
  unfolding loose_teller
  skipping_story m x =
      let h = run_holds loose_teller x in
      record { places = h.told.places; told = h.told.told; in_order = h.told.in_order; missing = h.told.missing; up = holds_up loose_teller m h }

-- ---- what a packet may be missing for

-- the link that passes over a place has lost it
passed_lost : (sent : List Packet) (keeps : Bool → List ℕ) → ((link : Bool) → Keeps sent (keeps link)) → (m : Moment) (link : Bool)
    → (link_of link m).packets < length (keeps link) → (place : ℕ) → furthest keeps m ≤ place → suc place < passed_next keeps m link → Loses (keeps link) place
passed_lost sent keeps keep m link l place h g =
    between 0 (length sent) (link_of link m).packets place (keeps link) (keep link).in_order l (omega (arith, own_least link)) (omega arith)
  where
    own_least : (x : Bool) → passed_on keeps m x ≤ furthest keeps m
    own_least true = omega arith
    own_least false = omega arith

pub loose_misses_only_lost : LooseMissesOnlyLost
loose_misses_only_lost gateway loose sent q keeps keep m x =
    skipping_story gateway loose sent q keeps keep (NotFarApart keeps) (OneLoses keeps) (λ m link near. near)
    (λ m link near l place h g. either link place (passed_lost sent keeps keep m link l place h g)) m x
  where
    either : (link : Bool) (place : ℕ) → Loses (keeps link) place → OneLoses keeps place
    either true place lost = inl lost
    either false place lost = inr lost

pub loose_misses_both_lost : LooseMissesBothLost
loose_misses_both_lost gateway loose sent q keeps keep m x =
    skipping_story gateway loose sent q keeps keep (NotFarNorLate keeps) (BothLose keeps) (λ m link near. near.0)
    (λ m link near l place h g. both link place (passed_lost sent keeps keep m link l place h g) (λ i. not_used m link place h (near.1 (omega arith) place i g))) m x
  where
    both : (link : Bool) (place : ℕ) → Loses (keeps link) place → Loses (keeps (not link)) place → BothLose keeps place
    both true place one two = (one, two)
    both false place one two = (two, one)

    not_used : (m : Moment) (link : Bool) (place : ℕ) → furthest keeps m ≤ place → place < passed_on keeps m (not link) → ⊥
    not_used m true place h g = omega arith
    not_used m false place h g = omega arith

-- ---- the strict setting

module _ (gateway : Gateway) (strict : gateway.strict ≡ true) (sent : List Packet) (q : Sequence gateway sent) (keeps : Bool → List ℕ)
    (keep : (link : Bool) → Keeps sent (keeps link)) where
  -- a first part; and while it is empty no packet has been used
  record First (a b : ℕ) (handed : List Packet) : Type 0 where
    told : handed ≡ take (length handed) sent
    none : length handed ≡ 0 → (a ≡ 0) × (b ≡ 0)

  module _ (m : Moment) (told : First m.normal.packets m.redundant.packets m.handed) (link : Bool) (near : NotFarFromTold keeps m link)
      (l : (link_of link m).packets < length (brought_of sent keeps link))
      (n : Next gateway (get_or (keeps link) (link_of link m).packets 0) (brought_of sent keeps link) (link_of link m).packets) (s : List ℕ) (at : ℕ)
      (r : Stands link n.packet s at) where
    abbrev here : ℕ
    here = get_or (keeps link) (link_of link m).packets 0

    opens_here : length m.handed ≡ 0 → here ≡ 0
    opens_here e = ap (λ (k : ℕ). get_or (keeps link) k 0) (by link (told.none e)) ∙ (keep link).opening
      where
        by : (x : Bool) → (m.normal.packets ≡ 0) × (m.redundant.packets ≡ 0) → (link_of x m).packets ≡ 0
        by true z = z.0
        by false z = z.1

    before_end : here < length sent
    before_end =
        (within 0 (length sent) here (keeps link) (keep link).in_order
        (entry (keeps link) (link_of link m).packets (omega (arith, l, packets_length sent (keeps link))))).1

    -- one packet more of the first part
    told_one : here ≡ length m.handed → m.handed ++ (n.packet ∷ []) ≡ take (length (m.handed ++ (n.packet ∷ []))) sent
    told_one e =
        let size : length (m.handed ++ (n.packet ∷ [])) ≡ suc here = length-append m.handed (n.packet ∷ []) ∙ omega (arith, e) in
        ap (λ (x : List Packet). x ++ (n.packet ∷ [])) (told.told ∙ ap (λ (k : ℕ). take k sent) (sym e))
        ∙ ap (λ (p : Packet). take here sent ++ (p ∷ [])) (next_is gateway sent q (keeps link) (link_of link m).packets l n)
        ∙ sym (take_next here sent before_end)
        ∙ ap (λ (k : ℕ). take k sent) (sym size)

    dropped_at : (done : ℕ) → length m.handed ≡ done → (here ≡ done → ⊥) → Drops gateway n.packet link s at r done
    dropped_at zero e other = absurd (other (opens_here e))
    dropped_at (suc last) e other =
        ltb_by here (suc last)
        (λ h. earlier_one gateway n.packet link s at r here (suc last) n.sent h (subst (λ (x : Bool). suc last < here + most_lag x) (sym strict) (omega (arith, near.0))))
        (λ h.
        ltb_by (suc last) here (λ g. beyond gateway n.packet link s at r last here n.sent g (omega (arith, near.1)) strict)
        (λ g. let same : here ≡ suc last = omega arith in absurd (other same)))

    abbrev strict_then : List Packet → Type 0
    strict_then handed = First (normal_of link m.normal.packets) (redundant_of link m.redundant.packets) handed

    strict_judge : (Hands gateway n.packet link s at r (length m.handed) × (length (m.handed ++ (n.packet ∷ [])) ≡ suc here) × strict_then (m.handed ++ (n.packet ∷ [])))
        ⊎ (Drops gateway n.packet link s at r (length m.handed) × (length m.handed ≡ length m.handed) × strict_then m.handed)
    strict_judge = by (eqb here (length m.handed)) refl
      where
        by : (b : Bool) → eqb here (length m.handed) ≡ b
            → (Hands gateway n.packet link s at r (length m.handed) × (length (m.handed ++ (n.packet ∷ [])) ≡ suc here) × strict_then (m.handed ++ (n.packet ∷ [])))
            ⊎ (Drops gateway n.packet link s at r (length m.handed) × (length m.handed ≡ length m.handed) × strict_then m.handed)
        by true b =
            let e = eqb-true here (length m.handed) b in
            let size : length (m.handed ++ (n.packet ∷ [])) ≡ suc here = length-append m.handed (n.packet ∷ []) ∙ omega (arith, e) in
            inl (
              subst (Hands gateway n.packet link s at r) e (next_one gateway n.packet link s at r here n.sent),
              size,
              record { told = told_one e; none = λ z. let no : ⊥ = omega (arith, z, size) in absurd no },
            )
        by false b =
            let e = eqb-false here (length m.handed) b in
            inr (
              dropped_at (length m.handed) refl e,
              refl,
              record { told = told.told; none = λ z. absurd (e (opens_here z ∙ sym z)) },
            )

  strict_teller : Teller gateway (brought_of sent keeps) (NotFarFromTold keeps)
  strict_teller = record {
    place_of = λ link k. get_or (keeps link) k 0;
    placed = λ link. next_kept gateway sent q 0 (keeps link) (keep link).in_order;
    done = λ a b handed. length handed;
    Told = First;
    at_start = (refl, record { told = refl; none = λ z. (refl, refl) });
    judges = λ m told link near l n s at r. strict_judge m told link near l n s at r;
  }

pub strict_never_skips : StrictNeverSkips
unfolding strict_teller
strict_never_skips gateway strict sent q keeps keep m x =
    let h = run_holds (strict_teller gateway strict sent q keeps keep) x in
    (h.told.told, holds_up (strict_teller gateway strict sent q keeps keep) m h)
