-- What is kept by every piece and every step of a run, one law for all that is said of runs: the links' own facts, the state by how many places of the
-- sequence are done with, and what has been told.
-- Assumes nothing.
use Prim.Native.Nat.{ℕ, suc, ◌+◌, ◌≤◌, ◌<◌}
use mathlib.Core.Path.{◌≡◌, refl, sym, ap, ap₂, ◌∙◌, subst}
use mathlib.Core.Bool.{Bool, true, false, cond, ◌&&◌, false≢true}
use mathlib.Core.List.{List, [], ◌∷◌, ◌++◌, append-nil}
use mathlib.Core.Logic.{◌⊎◌, ⊎_elim}
use native.Mathlib.Omega.{arith}
use borrow.Author.Tests.{ne_eqb}
use Rattle.std.proofs.lemmas.Bool.{cases_lt}
use lib.ListN.{length}
use Rattle.packet.specs.Sizes.{packet_header_size, packet_size}
use Rattle.packet.specs.Packet.{packet_header_at}
use Rattle.packet.specs.declared.Header.{Header}
use Rattle.links.specs.declared.State.{State}
use Rattle.links.specs.declared.Taken.{Taken}
use Rattle.links.specs.Taken.{nothing_changes, remembered_of, dropped, handed_up}
use Rattle.links.specs.Table.{judgeable, held, rows_of}
use Rattle.links.proofs.Step.{normal_up, at_normal, at_redundant, at_301}
use Rattle.link_promises.specs.Promises.{of_link, looks_at}
use Rattle.link_promises.proofs.Promises.{data_of_packet}
use Rattle.one_story.specs.Sequence.{Packet, Gateway, bytes_on}
use Rattle.one_story.specs.Run.{Moment, link_of, start, arrived_on, Lends, packets_of, used_up, handed_by, after, step_of, Run}
use Rattle.one_story.specs.OneStory.{BothUp}
use Rattle.one_story.proofs.Pieces.{Next, Placed}
use Rattle.one_story.proofs.Standing.{Stands}
use Rattle.one_story.proofs.Judged.{state_at, both_up, remembers, Hands, Drops}
use Rattle.one_story.proofs.Links.{Brought, at_first, brings_more, one_packet, not_all, stands_there, used_there}

-- a number is less than another, or is not
pub ltb_by : {A : Type 0} (a b : ℕ) → (a < b → A) → (b ≤ a → A) → A
ltb_by a b less other = ⊎_elim less other (cases_lt a b)

-- what a step hands up of a packet that reads back is that packet, and a step that answers another number hands up nothing
pub hands_up : (normal redundant : List ℕ) (link : Bool) (at : ℕ) (state : State) (p : Packet) → Stands link p (of_link link normal redundant) at
    → handed_by normal redundant (handed_up link at (packet_header_at (of_link link normal redundant) at) state) ≡ p ∷ []
unfolding handed_by
hands_up normal redundant link at state p r =
    let u = data_of_packet normal redundant link at state r.stands ∙ r.same_data in
    rw (u, r.same_version, r.same_application, r.same_number, r.same_kind)

pub hands_nothing : (normal redundant : List ℕ) (t : Taken) → (t.answer ≡ 0 → ⊥) → handed_by normal redundant t ≡ []
unfolding handed_by
hands_nothing normal redundant t z = simp (ne_eqb t.answer 0 z)

-- ---- which link a step looks at

-- both links up, in any state that is one of these
pub up_at : (gateway : Gateway) (done : ℕ) (state : State) → state ≡ state_at gateway done → BothUp state
up_at gateway done state e = subst BothUp (sym e) (both_up gateway done)

module _ (gateway : Gateway) (m : Moment) (up : BothUp m.state) (normal : List ℕ) (normal_at : ℕ) (redundant : List ℕ) (redundant_at : ℕ) where
  abbrev s : Bool → List ℕ
  s link = of_link link normal redundant

  abbrev at : Bool → ℕ
  at link = of_link link normal_at redundant_at

  held_normal : (b : Bool) → judgeable normal normal_at ≡ b → held m.state.normal_up normal normal_at ≡ b
  held_normal b e = ap (λ (x : Bool). x && judgeable normal normal_at) up.normal_up ∙ e

  held_redundant : (b : Bool) → judgeable redundant redundant_at ≡ b → held m.state.redundant_up redundant redundant_at ≡ b
  held_redundant b e = ap (λ (x : Bool). x && judgeable redundant redundant_at) up.redundant_up ∙ e

  -- what holds of the rows of the link looked at, or of a 301, holds of the step
  pub by_look : (P : Taken → Type 0)
      → (judgeable normal normal_at ≡ false → judgeable redundant redundant_at ≡ false → P (nothing_changes 301 m.state))
      → ((link : Bool) → (link ≡ false → judgeable normal normal_at ≡ false) → looks_at normal normal_at redundant redundant_at gateway.callers gateway.ours m.state link ≡ true
      → judgeable (s link) (at link) ≡ true → P (rows_of true link (s link) (at link) gateway.callers gateway.ours m.state))
      → P (step_of gateway normal normal_at redundant redundant_at m)
  by_look P idle takes = by_normal (judgeable normal normal_at) refl
    where
      by_redundant : judgeable normal normal_at ≡ false → (b : Bool) → judgeable redundant redundant_at ≡ b → P (step_of gateway normal normal_at redundant redundant_at m)
      by_redundant f true e =
          let n = held_normal false f in
          let r = held_redundant true e in
          subst P (at_redundant normal normal_at redundant redundant_at gateway.callers gateway.ours m.state n r) (takes false (λ _. f) (simp (n, r)) e)
      by_redundant f false e =
          subst P
          (at_301 normal normal_at redundant redundant_at gateway.callers gateway.ours m.state (held_normal false f) (held_redundant false e)
          (normal_up m.state up.normal_up))
          (idle f e)

      by_normal : (b : Bool) → judgeable normal normal_at ≡ b → P (step_of gateway normal normal_at redundant redundant_at m)
      by_normal true e =
          let n = held_normal true e in
          subst P (at_normal normal normal_at redundant redundant_at gateway.callers gateway.ours m.state n)
          (takes true (λ t. absurd (false≢true (sym t))) n e)
      by_normal false e = by_redundant e (judgeable redundant redundant_at) refl

-- ---- the law

-- the counts of packets used, where a packet of a link is used
abbrev pub normal_of : Bool → ℕ → ℕ
normal_of link n = cond link (suc n) n

abbrev pub redundant_of : Bool → ℕ → ℕ
redundant_of link n = cond link n (suc n)

-- How runs are told: which place each packet of a link has, how many places are done with by the packets used from either link, and what is told then. A packet
-- that is taken is handed up, and then its place is the last one done with, or it is dropped; what is told goes on.
pub record Teller (gateway : Gateway) (brings : Bool → List Packet) (Near : Moment → Bool → Type 0) : Type 1 where
  pub place_of : Bool → ℕ → ℕ
  pub placed : (link : Bool) → Placed gateway (brings link) (place_of link)
  pub done : ℕ → ℕ → List Packet → ℕ
  pub Told : ℕ → ℕ → List Packet → Type 0
  pub at_start : (done 0 0 [] ≡ 0) × Told 0 0 []
  pub judges : (m : Moment) → Told m.normal.packets m.redundant.packets m.handed → (link : Bool) → Near m link → (link_of link m).packets < length (brings link)
      → (n : Next gateway (place_of link (link_of link m).packets) (brings link) (link_of link m).packets) (s : List ℕ) (at : ℕ) (r : Stands link n.packet s at)
      → let now = done m.normal.packets m.redundant.packets m.handed in
      let a = normal_of link m.normal.packets in
      let b = redundant_of link m.redundant.packets in
      let handed = m.handed ++ (n.packet ∷ []) in
      (Hands gateway n.packet link s at r now × (done a b handed ≡ suc (place_of link (link_of link m).packets)) × Told a b handed)
      ⊎ (Drops gateway n.packet link s at r now × (done a b m.handed ≡ now) × Told a b m.handed)

module _ {gateway : Gateway} {brings : Bool → List Packet} {Near : Moment → Bool → Type 0} (teller : Teller gateway brings Near) where
  abbrev pub done_at : Moment → ℕ
  done_at m = teller.done m.normal.packets m.redundant.packets m.handed

  -- what holds at every moment
  pub record Holds (m : Moment) : Type 0 where
    pub told : teller.Told m.normal.packets m.redundant.packets m.handed
    pub state : m.state ≡ state_at gateway (done_at m)
    pub links : (link : Bool) → Brought link (brings link) (link_of link m)

  start_holds : Holds (start gateway)
  start_holds = record { told = teller.at_start.1; state = ap (state_at gateway) (sym teller.at_start.0); links = both }
    where
      both : (link : Bool) → Brought link (brings link) (link_of link (start gateway))
      both true = at_first true (brings true)
      both false = at_first false (brings false)

  arrives_holds : (m : Moment) (link : Bool) (piece rest : List ℕ) → ((link_of link m).arrived ++ piece) ++ rest ≡ bytes_on link (brings link)
      → Holds m → Holds (arrived_on link piece m)
  arrives_holds m true piece rest e h = record { told = h.told; state = h.state; links = both }
    where
      both : (link : Bool) → Brought link (brings link) (link_of link (arrived_on true piece m))
      both true = brings_more true (brings true) m.normal piece rest e (h.links true)
      both false = h.links false
  arrives_holds m false piece rest e h = record { told = h.told; state = h.state; links = both }
    where
      both : (link : Bool) → Brought link (brings link) (link_of link (arrived_on false piece m))
      both true = h.links true
      both false = brings_more false (brings false) m.redundant piece rest e (h.links false)

  pub holds_up : (m : Moment) → Holds m → BothUp m.state
  holds_up m h = up_at gateway (done_at m) m.state h.state

  module _ (m : Moment) (h : Holds m) (normal : List ℕ) (normal_at : ℕ) (redundant : List ℕ) (redundant_at : ℕ)
      (lent-normal : Lends m.normal normal normal_at) (lent-redundant : Lends m.redundant redundant redundant_at) where
    pub lent : (link : Bool) → Lends (link_of link m) (of_link link normal redundant) (of_link link normal_at redundant_at)
    lent true = lent-normal
    lent false = lent-redundant

    -- ---- a step that uses a packet of a link
    module _ (link : Bool) (e : judgeable (of_link link normal redundant) (of_link link normal_at redundant_at) ≡ true) where
      abbrev k : ℕ
      k = (link_of link m).packets

      not_last : k < length (brings link)
      not_last = not_all gateway link (brings link) (link_of link m) (h.links link) (of_link link normal redundant) (of_link link normal_at redundant_at) (lent link) e

      pub next_there : Next gateway (teller.place_of link k) (brings link) k
      next_there = teller.placed link k not_last

      pub reads_there : Stands link next_there.packet (of_link link normal redundant) (of_link link normal_at redundant_at)
      reads_there =
          stands_there gateway link (brings link) (link_of link m) (h.links link) (of_link link normal redundant) (of_link link normal_at redundant_at) (lent link) (teller.place_of link k) next_there e

      -- a step that names the link, uses the packet there and leaves such a state and such a story
      used_then : (t : Taken) → t.normal ≡ link → t.used ≡ packet_header_size + length next_there.packet.user_data
          → t.state ≡ state_at gateway (teller.done (normal_of link m.normal.packets) (redundant_of link m.redundant.packets) (m.handed ++ handed_by normal redundant t))
          → teller.Told (normal_of link m.normal.packets) (redundant_of link m.redundant.packets) (m.handed ++ handed_by normal redundant t)
          → Holds (after normal redundant t m)
      used_then t name used state told = by link refl name state told
        where
          one : packets_of t ≡ 1
          one = one_packet t (length next_there.packet.user_data) used

          brought : Brought link (brings link) (used_up (link_of link m) t)
          brought =
              used_there gateway link (brings link) (link_of link m) (h.links link) (of_link link normal redundant) (of_link link normal_at redundant_at) (lent link)
              (teller.place_of link k) next_there e t used

          moment : Bool → Moment
          moment l = record {
            normal = cond l (used_up m.normal t) m.normal;
            redundant = cond l m.redundant (used_up m.redundant t);
            state = t.state;
            handed = m.handed ++ handed_by normal redundant t;
          }

          named : (l : Bool) → t.normal ≡ l → after normal redundant t m ≡ moment l
          named l e = ap moment e

          by : (l : Bool) → link ≡ l → t.normal ≡ l → t.state ≡ state_at gateway (teller.done (normal_of l m.normal.packets) (redundant_of l m.redundant.packets) (m.handed ++ handed_by normal redundant t))
              → teller.Told (normal_of l m.normal.packets) (redundant_of l m.redundant.packets) (m.handed ++ handed_by normal redundant t)
              → Holds (after normal redundant t m)
          by true same name state told =
              let count : suc m.normal.packets ≡ m.normal.packets + packets_of t = omega (arith, one) in
              subst (λ (x : Moment). Holds x) (sym (named true name))
              (record {
                told = subst (λ (n : ℕ). teller.Told n m.redundant.packets (m.handed ++ handed_by normal redundant t)) count told;
                state = state ∙ ap (λ (n : ℕ). state_at gateway (teller.done n m.redundant.packets (m.handed ++ handed_by normal redundant t))) count;
                links = both;
              })
            where
              both : (l : Bool) → Brought l (brings l) (link_of l (moment true))
              both true = subst (λ (l : Bool). Brought l (brings l) (used_up (link_of l m) t)) same brought
              both false = h.links false
          by false same name state told =
              let count : suc m.redundant.packets ≡ m.redundant.packets + packets_of t = omega (arith, one) in
              subst (λ (x : Moment). Holds x) (sym (named false name))
              (record {
                told = subst (λ (n : ℕ). teller.Told m.normal.packets n (m.handed ++ handed_by normal redundant t)) count told;
                state = state ∙ ap (λ (n : ℕ). state_at gateway (teller.done m.normal.packets n (m.handed ++ handed_by normal redundant t))) count;
                links = both;
              })
            where
              both : (l : Bool) → Brought l (brings l) (link_of l (moment false))
              both true = h.links true
              both false = subst (λ (l : Bool). Brought l (brings l) (used_up (link_of l m) t)) same brought

      taking : Near m link → Holds (after normal redundant (rows_of true link (of_link link normal redundant) (of_link link normal_at redundant_at) gateway.callers gateway.ours m.state) m)
      taking near =
          subst (λ (x : State). Holds (after normal redundant (rows_of true link s at gateway.callers gateway.ours x) m)) (sym h.state)
          (⊎_elim
          (λ hands.
          let up = sym (ap (λ (l : List Packet). m.handed ++ l) (hands_up normal redundant link at (state_at gateway (done_at m)) next_there.packet reads_there)) in
          subst (λ (t : Taken). Holds (after normal redundant t m)) (sym hands.0)
          (used_then (handed_up link at header (state_at gateway (done_at m))) refl size
          (ap (λ (n : ℕ). remembered_of n (state_at gateway (done_at m))) (reads_there.same_number ∙ next_there.sent.numbered)
          ∙ remembers gateway (teller.place_of link k) (done_at m) ∙ ap (state_at gateway) (sym hands.1 ∙ ap (teller.done a b) up))
          (subst (teller.Told a b) up hands.2)))
          (λ drops.
          let t = dropped drops.0.answer link header (state_at gateway (done_at m)) in
          let none = sym (ap (λ (l : List Packet). m.handed ++ l) (hands_nothing normal redundant t (λ z. omega (arith, drops.0.used))) ∙ append-nil m.handed) in
          subst (λ (t : Taken). Holds (after normal redundant t m)) (sym drops.0.is)
          (used_then t refl size (ap (state_at gateway) (sym drops.1 ∙ ap (teller.done a b) none)) (subst (teller.Told a b) none drops.2)))
          (teller.judges m h.told link near not_last next_there s at reads_there))
        where
          s : List ℕ
          s = of_link link normal redundant

          at : ℕ
          at = of_link link normal_at redundant_at

          a : ℕ
          a = normal_of link m.normal.packets

          b : ℕ
          b = redundant_of link m.redundant.packets

          header : Header
          header = packet_header_at s at

          size : packet_size header.length ≡ packet_header_size + length next_there.packet.user_data
          size = omega (arith, reads_there.length_of_data)

    -- ---- a step that finds nothing
    idle : Holds (after normal redundant (nothing_changes 301 m.state) m)
    idle =
        let u : m.normal.used + 0 ≡ m.normal.used = omega arith in
        let p : m.normal.packets + 0 ≡ m.normal.packets = omega arith in
        let l = ap (λ (l : List Packet). m.handed ++ l) (hands_nothing normal redundant (nothing_changes 301 m.state) (λ z. omega arith)) ∙ append-nil m.handed in
        subst (λ (x : Moment). Holds x) (sym (ap₂ (λ (a b : ℕ). moment a b (m.handed ++ handed_by normal redundant (nothing_changes 301 m.state))) u p ∙ ap (moment m.normal.used m.normal.packets) l)) h
      where
        moment : ℕ → ℕ → List Packet → Moment
        moment used packets handed = record {
          normal = record { arrived = m.normal.arrived; used = used; packets = packets };
          redundant = m.redundant;
          state = m.state;
          handed = handed;
        }

    pub step_holds : ((link : Bool) → looks_at normal normal_at redundant redundant_at gateway.callers gateway.ours m.state link ≡ true → Near m link)
        → Holds (after normal redundant (step_of gateway normal normal_at redundant redundant_at m) m)
    step_holds near =
        by_look gateway m (holds_up m h) normal normal_at redundant redundant_at (λ (t : Taken). Holds (after normal redundant t m)) (λ _ _. idle)
        (λ link _ looks e. taking link e (near link looks))

  pub run_holds : {m : Moment} → Run gateway brings Near m → Holds m
  run_holds Run.begun = start_holds
  run_holds (Run.arrives {m} x link piece rest e) = arrives_holds m link piece rest e (run_holds x)
  run_holds (Run.steps {m} x normal normal_at redundant redundant_at l r near) = step_holds m (run_holds x) normal normal_at redundant redundant_at l r near
