-- How far a program's loop over the turns of a piece is: what was put so far, and that the turns that are left lead where all of them lead.
-- Assumes nothing.
use Prim.Native.Nat.{ℕ, zero, suc, ◌-◌, ◌≤◌}
use mathlib.Core.Path.{◌≡◌, refl, sym, ap, subst, ◌∙◌}
use mathlib.Core.Bool.{Bool, true, false}
use mathlib.Core.List.{List, [], ◌++◌, append-nil}
use native.Mathlib.Omega.{arith}
use lib.ListN.{length, length-append}
use Rattle.rules.specs.Rows.{when◌answer◌else◌}
use Rattle.text.proofs.Puts.{and_then}
use Rattle.window.specs.Window.{Within, left_of, unread, used_of}
use Rattle.window.specs.declared.Window.{Window}
use Rattle.window.proofs.Unread.{length_unread}
use Rattle.pieces.specs.Machine.{Turn, Machine, Lawful}
use Rattle.pieces.specs.Pieces.{Reach, waits, waits_at, reached_by, turned, advance_in, advance_of, reach_of, AdvancedTo}
use Rattle.pieces.proofs.Turns.{has_room, one_more_lem, no_more}

abbrev reach_with : {State : Type 0} (m : Machine State) → State → Window → List ℕ → List ℕ → Reach State
reach_with m p w text lent = record { state = p; window = w; text = text; lent = lent }

module _ {State : Type 0} (m : Machine State) (laws : Lawful m) (size : ℕ) (buffer : List ℕ) (first : Reach State) (before : List ℕ) where
  pub record Reaches (lent out : List ℕ) (p : State) (w : Window) : Type 0 where
    pub text : List ℕ
    pub put : out ≡ before ++ text
    pub same : advance_of m (size - length before) buffer first ≡ advance_of m (size - length before) buffer (reach_with m p w text lent)

  -- the room that is left
  room_left : (text : List ℕ) {out : List ℕ} → out ≡ before ++ text → size - length out ≡ size - length before - length text
  room_left text put = omega (arith, ap length put, length-append before text)

  -- one turn more, of the machine's own
  pub reaches_on : {lent lent_after out after : List ℕ} {p q : State} {w left : Window}
      → Reaches lent out p w → waits m (m.stopped p) w (size - length out) ≡ false
      → (t : Turn State) → m.turn p (unread buffer w) ≡ t → q ≡ t.next → left ≡ used_of t.used w → lent_after ≡ t.lent lent
      → after ≡ out ++ t.text → Reaches lent_after after q left
  reaches_on {lent} {lent_after} {out} {after} {p} {q} {w} {left} reached goes t is state window written put =
      let room = size - length before in
      let text = reached.text ++ t.text in
      let x = reach_with m p w reached.text lent in
      let goes' : waits_at m room x ≡ false =
      subst (λ (n : ℕ). waits m (m.stopped p) w n ≡ false) (room_left reached.text reached.put) goes in
      record {
        text = text;
        put = and_then before reached.text t.text reached.put put;
        same =
            reached.same ∙ one_more_lem m laws room buffer x goes' ∙ ap (λ (u : Turn State). advance_of m room buffer (reached_by m x u)) is
            ∙ ap (λ (p : State). advance_of m room buffer (reach_with m p (used_of t.used w) text (t.lent lent))) (sym state)
            ∙ ap (λ (v : Window). advance_of m room buffer (reach_with m q v text (t.lent lent))) (sym window)
            ∙ ap (λ (l : List ℕ). advance_of m room buffer (reach_with m q left text l)) (sym written);
      }

  pub stands : {lent out : List ℕ} {p : State} {w : Window} (reached : Reaches lent out p w)
      → waits m (m.stopped p) w (size - length out) ≡ true → advance_of m (size - length before) buffer first ≡ reach_with m p w reached.text lent
  stands {lent} {out} {p} {w} reached waiting =
      reached.same ∙ no_more m laws (size - length before) buffer (reach_with m p w reached.text lent)
      (subst (λ (n : ℕ). waits m (m.stopped p) w n ≡ true) (room_left reached.text reached.put) waiting)

module _ {State : Type 0} (m : Machine State) (laws : Lawful m) where
  pub reaches_first : (size : ℕ) (buffer : List ℕ) (p : State) (w : Window) (lent before : List ℕ)
      → Reaches m laws size buffer (reach_of m p w lent) before lent before p w
  reaches_first size buffer p w lent before = record { text = []; put = sym (append-nil before); same = refl }

  pub advanced_to : (size : ℕ) (buffer : List ℕ) (p₀ : State) (w₀ : Window) (lent₀ before : List ℕ) {lent out : List ℕ} {p : State} {w : Window}
      → Reaches m laws size buffer (reach_of m p₀ w₀ lent₀) before lent out p w → waits m (m.stopped p) w (size - length out) ≡ true
      → AdvancedTo m size buffer p₀ w₀ lent₀ before lent out p w
  advanced_to size buffer p₀ w₀ lent₀ before {lent} {out} reached waiting =
      let there = stands m laws size buffer (reach_of m p₀ w₀ lent₀) before reached waiting in
      record {
        state = sym (ap (λ (x : Reach State). x.state) there);
        window = sym (ap (λ (x : Reach State). x.window) there);
        put = subst (λ (x : Reach State). out ≡ before ++ x.text) (sym there) reached.put;
        leaves = sym (ap (λ (x : Reach State). x.lent) there);
      }

  -- ---- what turns keep: the window in its buffer, the text in its room, and whether the file has ended
  record Kept (room : ℕ) (buffer : List ℕ) (ended : Bool) (x : Reach State) : Type 0 where
    pub lies : Within x.window (length buffer)
    pub fits : length x.text ≤ room
    pub stays : x.window.ended ≡ ended

  kept_turned : (room : ℕ) (buffer : List ℕ) (ended : Bool) (x : Reach State) → waits_at m room x ≡ false
      → Kept room buffer ended x → Kept room buffer ended (turned m buffer x)
  kept_turned room buffer ended x goes kept =
      let s = unread buffer x.window in
      let t = m.turn x.state s in
      let size = length_unread buffer x.window kept.lies in
      record {
        lies = (omega (arith, laws.uses_no_more x.state s, size, kept.lies.0), kept.lies.1);
        fits =
            omega (
              arith,
              length-append x.text t.text,
              laws.prints_no_more x.state s,
              kept.fits,
              has_room m (m.stopped x.state) x.window (room - length x.text) goes,
            );
        stays = kept.stays;
      }

  kept_advanced : (n room : ℕ) (buffer : List ℕ) (ended : Bool) (x : Reach State) → Kept room buffer ended x
      → Kept room buffer ended (advance_in m n room buffer x)
  unfolding advance_in
  kept_advanced zero room buffer ended x kept = kept
  kept_advanced (suc n) room buffer ended x kept =
      both (waits_at m room x) x (advance_in m n room buffer (turned m buffer x)) (λ _. kept)
      (λ goes. kept_advanced n room buffer ended (turned m buffer x) (kept_turned room buffer ended x goes kept))
    where
      both : (b : Bool) (y z : Reach State) → (b ≡ true → Kept room buffer ended y) → (b ≡ false → Kept room buffer ended z)
          → Kept room buffer ended (when b answer y else z)
      both true y z f g = f refl
      both false y z f g = g refl

  module _ {size : ℕ} {buffer : List ℕ} {p : State} {w : Window} {lent before lent_after after : List ℕ} {q : State} {v : Window}
      (advanced : AdvancedTo m size buffer p w lent before lent_after after q v) (lies : Within w (length buffer)) where
    kept : Kept (size - length before) buffer w.ended (advance_of m (size - length before) buffer (reach_of m p w lent))
    kept =
        kept_advanced (suc (left_of w)) (size - length before) buffer w.ended (reach_of m p w lent)
        (record { lies = lies; fits = omega arith; stays = refl })

    -- the window lies in its buffer
    pub advanced_lies : Within v (length buffer)
    advanced_lies = subst (λ (u : Window). Within u (length buffer)) (sym advanced.window) kept.lies

    -- turns change nothing of a window but where it starts
    pub ended_stays : v.ended ≡ w.ended
    ended_stays = ap (λ (u : Window). u.ended) advanced.window ∙ kept.stays
