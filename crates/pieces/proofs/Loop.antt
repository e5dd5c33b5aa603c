-- The loop over the turns of a piece: what it keeps, and that one turn more keeps it and leaves fewer turns.
-- Assumes nothing.
use Rattle.std.proofs.Common.{ℕ, suc, ◌+◌, ◌-◌, ◌*◌, ◌^◌, ◌≤◌, ◌<◌, ◌≡◌, refl, sym, ap, subst, ◌∙◌, Bool, true, false, List, ◌++◌, arith, length}
use Rattle.std.proofs.Math.Nat.{mul-add, mul-le-mul_left}
use Rattle.window.specs.Window.{Within, left_of, unread, used_of}
use Rattle.window.specs.declared.Window.{Window}
use Rattle.pieces.specs.Machine.{Turn, Machine, Lawful}
use Rattle.pieces.specs.Pieces.{waits, reach_of, TurnTaken, AdvancedTo}
use Rattle.pieces.proofs.Turns.{turns_left, at_most_left, not_stopped, has_room}
use Rattle.pieces.proofs.Reaches.{Reaches, reaches_on, reaches_first, advanced_to}

module _ {State : Type 0} (m : Machine State) (laws : Lawful m) (counted : State → ℕ) (for_each : ℕ)
    (counts_on : (p : State) (s : List ℕ) → counted (m.turn p s).next ≤ counted p + for_each * (m.turn p s).used)
    (size : ℕ) (buffer : List ℕ) (p₀ : State) (w₀ : Window) (lent₀ out₀ : List ℕ) where
  -- what the loop keeps
  pub record Keeps (lent out : List ℕ) (w : Window) (p : State) : Type 0 where
    pub lent_stays : length lent ≡ length lent₀
    pub lies : Within w (length buffer)
    pub counts : counted p + for_each * left_of w ≤ counted p₀ + for_each * left_of w₀
    pub reached : Reaches m laws size buffer (reach_of m p₀ w₀ lent₀) out₀ lent out p w

  pub keeps_first : Within w₀ (length buffer) → Keeps lent₀ out₀ w₀ p₀
  keeps_first lies = record {
    lent_stays = refl;
    lies = lies;
    counts = omega arith;
    reached = reaches_first m laws size buffer p₀ w₀ lent₀ out₀;
  }

  pub keeps_last : {lent out : List ℕ} {w : Window} {p : State} → Keeps lent out w p → (left : ℕ) → left ≡ size - length out
      → {waiting : Bool} → waiting ≡ waits m (m.stopped p) w left → waiting ≡ true → AdvancedTo m size buffer p₀ w₀ lent₀ out₀ lent out p w
  keeps_last {lent} {out} {w} {p} kept left room is waits_now =
      advanced_to m laws size buffer p₀ w₀ lent₀ out₀ kept.reached (ap (waits m (m.stopped p) w) (sym room) ∙ sym is ∙ waits_now)

  -- a turn on the bytes at hand, with so much room left
  module _ {lent out : List ℕ} {w : Window} {p : State} (kept : Keeps lent out w p) (left : ℕ) (room : left ≡ size - length out)
      {waiting : Bool} (is : waiting ≡ waits m (m.stopped p) w left) (not : waiting ≡ false) (s : List ℕ) (hand : s ≡ unread buffer w) where
    goes : waits m (m.stopped p) w (size - length out) ≡ false
    goes = ap (waits m (m.stopped p) w) (sym room) ∙ sym is ∙ not

    few : length s ≤ left_of w
    few = subst (λ (l : List ℕ). length l ≤ left_of w) (sym hand) (at_most_left buffer w)

    -- what it asks for
    pub asks : (lent_size : ℕ) → length lent₀ ≡ lent_size → counted p₀ + for_each * left_of w₀ < 2 ^ 64
        → (m.stopped p ≡ false) × (counted p + for_each * length s < 2 ^ 64) × (length lent ≡ lent_size) × (m.most_text ≤ left)
    asks lent_size same bound = (
      not_stopped m (m.stopped p) w (size - length out) goes,
      omega (arith, mul-le-mul_left for_each few, kept.counts, bound),
      kept.lent_stays ∙ same,
      omega (arith, has_room m (m.stopped p) w (size - length out) goes, room),
    )

    -- and what it leaves
    module _ {lent_after out_after : List ℕ} {q : State} {used : ℕ} (taken : TurnTaken (m.turn p s) q lent lent_after out out_after used) where
      pub used_fits : used ≤ left_of w
      used_fits = omega (arith, taken.uses, laws.uses_no_more p s, few)

      pub keeps_on : {v : Window} → length lent_after ≡ length lent → v ≡ used_of used w → Keeps lent_after out_after v q
      keeps_on {v} stays window =
          let fewer : left_of v ≡ left_of w - used = ap left_of window ∙ omega arith in
          let most : for_each * left_of w ≡ for_each * left_of v + for_each * used =
          ap (λ (n : ℕ). for_each * n) (omega (arith, fewer, used_fits)) ∙ mul-add for_each (left_of v) used in
          let count : counted q ≤ counted p + for_each * used =
          subst (λ (n : ℕ). counted q ≤ counted p + for_each * n) (sym taken.uses)
          (subst (λ (r : State). counted r ≤ counted p + for_each * (m.turn p s).used) (sym taken.state) (counts_on p s)) in
          record {
            lent_stays = stays ∙ kept.lent_stays;
            lies =
                subst (λ (u : Window). Within u (length buffer)) (sym window)
                (omega (arith, used_fits, kept.lies.0), kept.lies.1);
            counts = omega (arith, most, count, kept.counts);
            reached =
                reaches_on m laws size buffer (reach_of m p₀ w₀ lent₀) out₀ kept.reached goes (m.turn p s) (ap (m.turn p) (sym hand))
                taken.state (window ∙ ap (λ (n : ℕ). used_of n w) taken.uses) taken.leaves taken.put;
          }

      pub fewer_left : {v : Window} → v ≡ used_of used w → turns_left (m.stopped q) (left_of v) < turns_left (m.stopped p) (left_of w)
      fewer_left {v} window =
          let going : turns_left (m.stopped p) (left_of w) ≡ suc (left_of w) =
          ap (λ (b : Bool). turns_left b (left_of w)) (not_stopped m (m.stopped p) w (size - length out) goes) in
          let fewer = by (m.stopped q) refl in
          omega (arith, going, fewer)
        where
          by : (stopped : Bool) → m.stopped q ≡ stopped → turns_left stopped (left_of v) < suc (left_of w)
          by true e = omega arith
          by false e =
              let some = laws.uses_or_stops p s (ap m.stopped (sym taken.state) ∙ e) in
              omega (arith, some, taken.uses, used_fits, ap left_of window)
