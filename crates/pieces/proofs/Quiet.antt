-- A machine that prints nothing before it stops: each piece carries its run on in silence, and the last one prints all.
-- Assumes nothing.
use Prim.Native.Nat.{ℕ, zero, suc, ◌-◌, ◌≤◌}
use mathlib.Core.Path.{◌≡◌, refl, sym, ap, subst, ◌∙◌}
use mathlib.Core.Bool.{Bool, true, false, false≢true}
use mathlib.Core.List.{List, [], ◌++◌, append_assoc, append-nil}
use native.Mathlib.Omega.{arith}
use lib.ListN.{length}
use Rattle.rules.specs.Rows.{when◌answer◌else◌}
use Rattle.window.specs.Window.{Within, empty_window, unread, low_of, was_read, ToppedUp}
use Rattle.window.specs.declared.Window.{Window}
use Rattle.window.specs.declared.Refilled.{Refilled}
use Rattle.window.proofs.Unread.{low_not_ended}
use Rattle.pieces.specs.Machine.{Machine, Lawful, prints_for}
use Rattle.pieces.specs.Pieces.{Reach, waits, waits_at, turned, advance_in, reach_of, piece_from, Runs}
use Rattle.pieces.specs.Pieces.Runs.{starts, refills, advances}
use Rattle.pieces.specs.Quiet.{Quiet, QuietPiece, RunningQuietly, PrintedAtOnce}
use Rattle.pieces.proofs.Reaches.{advanced_lies, ended_stays}
use Rattle.pieces.proofs.Whole.{topped_lies, pieces_as_whole}

-- a machine that has stopped takes no turn
stopped_stays : {State : Type 0} (m : Machine State) (n room : ℕ) (buffer : List ℕ) (x : Reach State) → m.stopped x.state ≡ true → advance_in m n room buffer x ≡ x
unfolding advance_in waits
stopped_stays m zero room buffer x e = refl
stopped_stays m (suc n) room buffer x e = rw e

module _ {State : Type 0} (m : Machine State) (laws : Lawful m) (quiet : Quiet m) where
  -- turns behind which it goes on print nothing
  prints_nothing : (n room : ℕ) (buffer : List ℕ) (x : Reach State) → x.text ≡ [] → m.stopped (advance_in m n room buffer x).state ≡ false
      → (advance_in m n room buffer x).text ≡ []
  unfolding advance_in
  prints_nothing zero room buffer x none goes = none
  prints_nothing (suc n) room buffer x none goes =
      by (waits_at m room x) (m.stopped (turned m buffer x).state) refl (prints_nothing n room buffer (turned m buffer x)) goes
    where
      by : (waiting stopped : Bool) → m.stopped (turned m buffer x).state ≡ stopped
          → ((turned m buffer x).text ≡ [] → m.stopped (advance_in m n room buffer (turned m buffer x)).state ≡ false → (advance_in m n room buffer (turned m buffer x)).text ≡ [])
          → m.stopped (when waiting answer x else advance_in m n room buffer (turned m buffer x)).state ≡ false
          → (when waiting answer x else advance_in m n room buffer (turned m buffer x)).text ≡ []
      by true stopped e later goes = none
      by false true e later goes =
          absurd
          (false≢true (sym goes ∙ ap (λ (y : Reach State). m.stopped y.state) (stopped_stays m n room buffer (turned m buffer x) e) ∙ e))
      by false false e later goes =
          let t = m.turn x.state (unread buffer x.window) in
          later (ap (λ (l : List ℕ). l ++ t.text) none ∙ quiet.1 x.state (unread buffer x.window) e) goes

  pub quiet_first : (buffer : List ℕ) {w : Window} {p : State} → w ≡ empty_window → p ≡ m.first → RunningQuietly m buffer w p
  quiet_first buffer {w} {p} empty start = record {
    read = [];
    runs = λ rest _.
        subst (λ (l : List ℕ). Runs m rest buffer w rest p l) quiet.0
        (subst (λ (v : Window). Runs m rest buffer v rest p m.heading) (sym empty)
        (subst (λ (q : State). Runs m rest buffer empty_window rest q m.heading) (sym start) (starts buffer)));
  }

  topped_quietly : (before : List ℕ) (w : Window) (p : State) (after : List ℕ) (r : Refilled) → length after ≡ length before
      → ToppedUp m.most_seen before w after r → RunningQuietly m before w p → RunningQuietly m after r.window p
  topped_quietly before w p after r size up was = by (low_of m.most_seen w) refl
    where
      by : (low : Bool) → low_of m.most_seen w ≡ low → RunningQuietly m after r.window p
      by false e =
          let same = up.not_low e in
          let window = ap (λ (q : Refilled). q.window) same.0 in
          subst (λ (v : Window). RunningQuietly m after v p) (sym window) (subst (λ (l : List ℕ). RunningQuietly m l w p) (sym same.1) was)
      by true e = record {
        read = was.read ++ was_read w after r;
        runs = λ rest all.
            subst (λ (l : List ℕ). Runs m l after r.window rest p []) (sym (append_assoc was.read (was_read w after r) rest))
            (refills (was.runs (was_read w after r ++ rest) (λ ended. absurd (false≢true (sym (low_not_ended m.most_seen w e) ∙ ended)))) after r (up.low e) size rest refl all);
      }

  module _ (size : ℕ) (before : List ℕ) (w : Window) (p : State) (lent after lent_after out_after : List ℕ) (q : State) (v : Window)
      (same : length after ≡ length before) (piece : QuietPiece m size before w p lent after lent_after out_after q v)
      (lies : Within w (length before)) where
    topped : Within piece.topped.window (length after)
    topped = topped_lies m.most_seen before w after piece.topped same piece.up lies

    abbrev reached : Reach State
    reached = piece_from m (size - 0) after p piece.topped.window lent

    -- the run behind a piece
    behind : (was : RunningQuietly m before w p) (rest : List ℕ) → (v.ended ≡ true → rest ≡ [])
        → Runs m ((topped_quietly before w p after piece.topped same piece.up was).read ++ rest) after v rest q reached.text
    behind was rest all =
        let now = topped_quietly before w p after piece.topped same piece.up was in
        let run = advances (now.runs rest (λ ended. all (ended_stays m laws piece.advanced topped ∙ ended))) (size - 0) lent in
        subst (λ (u : Window). Runs m (now.read ++ rest) after u rest q reached.text) (sym piece.advanced.window)
        (subst (λ (u : State). Runs m (now.read ++ rest) after reached.window rest u reached.text) (sym piece.advanced.state) run)

    -- a piece behind which it goes on prints nothing
    silent : m.stopped q ≡ false → reached.text ≡ []
    silent goes =
        prints_nothing _ (size - 0) after (reach_of m p piece.topped.window lent) refl (ap (λ (s : State). m.stopped s) (sym piece.advanced.state) ∙ goes)

    -- and carries the run on
    pub quiet_on : RunningQuietly m before w p → m.stopped q ≡ false → RunningQuietly m after v q
    quiet_on was goes = record {
      read = (topped_quietly before w p after piece.topped same piece.up was).read;
      runs = λ rest all.
          subst (λ (l : List ℕ). Runs m ((topped_quietly before w p after piece.topped same piece.up was).read ++ rest) after v rest q l)
          (silent goes) (behind was rest all);
    }

    -- no text is held then
    pub quiet_holds : m.stopped q ≡ false → out_after ≡ []
    quiet_holds goes = piece.advanced.put ∙ silent goes

    -- it leaves the window in its buffer
    pub quiet_lies : Within v (length before)
    quiet_lies = subst (λ (n : ℕ). Within v n) same (advanced_lies m laws piece.advanced topped)

    -- where it has stopped, all is printed
    pub printed_at_once : RunningQuietly m before w p → m.stopped q ≡ true → PrintedAtOnce m out_after
    printed_at_once was stopped =
        let now = topped_quietly before w p after piece.topped same piece.up was in
        record {
          read = now.read;
          whole =
              piece.advanced.put ∙ pieces_as_whole m laws (now.read ++ []) after v [] q reached.text (behind was [] (λ _. refl)) stopped
              ∙ ap (prints_for m) (append-nil now.read);
        }
