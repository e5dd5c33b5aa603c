-- However a file is cut into pieces, what is printed for them, put together, is what is printed for the whole file.
-- Assumes nothing.
use Prim.Native.Nat.{ℕ, zero, suc, ◌-◌, ◌≤◌}
use mathlib.Core.Path.{◌≡◌, refl, sym, ap, subst, ◌∙◌}
use mathlib.Core.Bool.{Bool, true, false, false≢true}
use mathlib.Core.List.{List, [], ◌++◌, append_assoc, append-nil}
use mathlib.Core.Logic.{◌⊎◌, inl, inr, ⊎_elim}
use native.Mathlib.Omega.{arith}
use lib.Dec.{ltb}
use lib.ListN.{length, take, drop}
use lib.Seq.{drop-append-le}
use Rattle.rules.specs.Rows.{when◌answer◌else◌}
use Rattle.text.specs.Text.{held_of}
use Rattle.text.proofs.Places.{Placed, placed, put_behind}
use Rattle.window.specs.Window.{Within, empty_window, left_of, unread, low_of, used_of, was_read, ToppedUp}
use Rattle.window.specs.declared.Window.{Window}
use Rattle.window.specs.declared.Refilled.{Refilled}
use Rattle.window.proofs.Unread.{length_unread, unread_used, enough_or_ended, low_not_ended, unread_refilled}
use Rattle.pieces.specs.Machine.{Turn, Machine, Lawful, prints_from, prints_for}
use Rattle.pieces.specs.Pieces.{
  Reach,
  waits,
  waits_at,
  turned,
  advance_in,
  reach_of,
  piece_from,
  AdvancedTo,
  Runs,
  PiecesAsWhole,
  PieceOf,
  Running,
  PrintedWhole,
}
use Rattle.pieces.specs.Pieces.Runs.{starts, refills, advances}
use Rattle.pieces.proofs.Turns.{goes_on_lem, not_stopped, not_low}
use Rattle.pieces.proofs.Reaches.{advanced_lies, ended_stays}

-- a window that is topped up lies in its buffer
pub topped_lies : (most : ℕ) (before : List ℕ) (w : Window) (after : List ℕ) (r : Refilled) → length after ≡ length before
    → ToppedUp most before w after r → Within w (length before) → Within r.window (length after)
topped_lies most before w after r size up lies = by (low_of most w) refl
  where
    by : (low : Bool) → low_of most w ≡ low → Within r.window (length after)
    by true e = (omega (arith, (up.low e).front), omega (arith, (up.low e).within, size))
    by false e =
        let window = ap (λ (q : Refilled). q.window) (up.not_low e).0 in
        subst (λ (v : Window). Within v (length after)) (sym window) (lies.0, omega (arith, lies.1, size))

module _ {State : Type 0} (m : Machine State) (laws : Lawful m) where
  -- a turn on bytes that hold the most bytes that it looks at, or all that is left, is the turn on all that is left
  same_turn : (p : State) (s rest : List ℕ) → (m.most_seen ≤ length s) ⊎ (rest ≡ []) → m.turn p (s ++ rest) ≡ m.turn p s
  same_turn p s rest (inr e) = ap (m.turn p) (ap (λ (l : List ℕ). s ++ l) e ∙ append-nil s)
  same_turn p s rest (inl many) = laws.sees_no_more p s rest many

  -- what is printed before a stop
  going : (p : State) (rest : List ℕ) → m.stopped p ≡ false
      → prints_from m p rest ≡ (m.turn p rest).text ++ prints_from m (m.turn p rest).next (drop (m.turn p rest).used rest)
  going p rest e =
      let t = m.turn p rest in
      goes_on_lem m laws p rest ∙ ap (λ (b : Bool). when b answer [] else (t.text ++ prints_from m t.next (drop t.used rest))) e

  -- A reach from which the rest of a text is printed: what it printed, and what is printed from there on for the bytes at hand and those
  -- still to be read.
  record Prints (buffer to_read text : List ℕ) (x : Reach State) : Type 0 where
    lies : Within x.window (length buffer)
    all : x.window.ended ≡ true → to_read ≡ []
    whole : x.text ++ prints_from m x.state (unread buffer x.window ++ to_read) ≡ text

  module _ (buffer to_read text : List ℕ) where
    -- it holds after one turn more
    prints_turned : (room : ℕ) (x : Reach State) → waits m (m.stopped x.state) x.window room ≡ false → Prints buffer to_read text x
        → Prints buffer to_read text (turned m buffer x)
    prints_turned room x goes holds =
        let p = x.state in
        let w = x.window in
        let s = unread buffer w in
        let t = m.turn p s in
        let size = length_unread buffer w holds.lies in
        let fits = laws.uses_no_more p s in
        let seen : (m.most_seen ≤ length s) ⊎ (to_read ≡ []) =
        ⊎_elim (λ many. inl (subst (λ (n : ℕ). m.most_seen ≤ n) (sym size) many)) (λ ended. inr (holds.all ended))
        (enough_or_ended m.most_seen w (not_low m (m.stopped p) w room goes)) in
        let left : drop t.used (s ++ to_read) ≡ unread buffer (used_of t.used w) ++ to_read =
        drop-append-le t.used s to_read fits ∙ ap (λ (l : List ℕ). l ++ to_read) (unread_used buffer w t.used) in
        record {
          lies = (omega (arith, fits, size, holds.lies.0), holds.lies.1);
          all = holds.all;
          whole =
              append_assoc x.text t.text (prints_from m t.next (unread buffer (used_of t.used w) ++ to_read))
              ∙ ap (λ (l : List ℕ). x.text ++ l)
              (sym (going p (s ++ to_read) (not_stopped m (m.stopped p) w room goes)
              ∙ ap (λ (u : Turn State). u.text ++ prints_from m u.next (drop u.used (s ++ to_read))) (same_turn p s to_read seen)
              ∙ ap (λ (l : List ℕ). t.text ++ prints_from m t.next l) left))
              ∙ holds.whole;
        }

    -- and after as many as there are
    prints_advanced : (n room : ℕ) (x : Reach State) → Prints buffer to_read text x → Prints buffer to_read text (advance_in m n room buffer x)
    unfolding advance_in
    prints_advanced zero room x holds = holds
    prints_advanced (suc n) room x holds =
        both (waits_at m room x) x (advance_in m n room buffer (turned m buffer x)) (λ _. holds)
        (λ goes. prints_advanced n room (turned m buffer x) (prints_turned (room - length x.text) x goes holds))
      where
        both : (b : Bool) (y z : Reach State) → (b ≡ true → Prints buffer to_read text y) → (b ≡ false → Prints buffer to_read text z)
            → Prints buffer to_read text (when b answer y else z)
        both true y z f g = f refl
        both false y z f g = g refl

  -- a run through a window prints what is left to print
  prints : (file : List ℕ) {buffer : List ℕ} {w : Window} {to_read : List ℕ} {p : State} {printed : List ℕ} → Runs m file buffer w to_read p printed
      → Prints buffer to_read (prints_for m file) (record { state = p; window = w; text = printed; lent = [] })
  prints file (starts buffer) = record { lies = (omega arith, omega arith); all = λ e. absurd (false≢true e); whole = refl }
  prints file (refills {buffer} {w} {to_read} {p} {printed} run after r refilled size rest next all) =
      let holds = prints file run in
      record {
        lies = (omega (arith, refilled.front), omega (arith, refilled.within, size));
        all = all;
        whole =
            ap (λ (l : List ℕ). printed ++ prints_from m p l)
            (ap (λ (l : List ℕ). l ++ rest) (unread_refilled buffer w after r refilled) ∙ append_assoc (unread buffer w) (was_read w after r) rest
            ∙ ap (λ (l : List ℕ). unread buffer w ++ l) (sym next))
            ∙ holds.whole;
      }
  prints file (advances {buffer} {w} {to_read} {p} {printed} run room lent) =
      let holds = prints file run in
      let y = piece_from m room buffer p w lent in
      let after =
      prints_advanced buffer to_read (prints_from m p (unread buffer w ++ to_read)) (suc (left_of w)) room (reach_of m p w lent)
      (record { lies = holds.lies; all = holds.all; whole = refl }) in
      record {
        lies = after.lies;
        all = after.all;
        whole =
            append_assoc printed y.text (prints_from m y.state (unread buffer y.window ++ to_read))
            ∙ ap (λ (l : List ℕ). printed ++ l) after.whole ∙ holds.whole;
      }

  pub pieces_as_whole : PiecesAsWhole m
  pieces_as_whole file buffer w to_read p printed run stopped =
      let rest = unread buffer w ++ to_read in
      let t = m.turn p rest in
      let none : prints_from m p rest ≡ [] =
      goes_on_lem m laws p rest ∙ ap (λ (b : Bool). when b answer [] else (t.text ++ prints_from m t.next (drop t.used rest))) stopped in
      sym (append-nil printed) ∙ ap (λ (l : List ℕ). printed ++ l) (sym none) ∙ (prints file run).whole

  -- ---- the pieces of a program

  -- before the first piece: the heading is put
  pub running_first : (buffer : List ℕ) {w : Window} {p : State} {out : List ℕ} → w ≡ empty_window → p ≡ m.first → out ≡ m.heading
      → Running m buffer w p out
  running_first buffer {w} {p} {out} empty start put = record {
    read = [];
    written = [];
    runs = λ rest _.
        subst (λ (l : List ℕ). Runs m rest buffer w rest p l) (sym put)
        (subst (λ (v : Window). Runs m rest buffer v rest p m.heading) (sym empty)
        (subst (λ (q : State). Runs m rest buffer empty_window rest q m.heading) (sym start) (starts buffer)));
  }

  -- where a window is topped up, the bytes that were read are those of the refill
  topped_runs : (before : List ℕ) (w : Window) (p : State) (out after : List ℕ) (r : Refilled) → length after ≡ length before
      → ToppedUp m.most_seen before w after r → Running m before w p out → Running m after r.window p out
  topped_runs before w p out after r size up was = by (low_of m.most_seen w) refl
    where
      by : (low : Bool) → low_of m.most_seen w ≡ low → Running m after r.window p out
      by false e =
          let same = up.not_low e in
          let window = ap (λ (q : Refilled). q.window) same.0 in
          subst (λ (v : Window). Running m after v p out) (sym window) (subst (λ (l : List ℕ). Running m l w p out) (sym same.1) was)
      by true e = record {
        read = was.read ++ was_read w after r;
        written = was.written;
        runs = λ rest all.
            subst (λ (l : List ℕ). Runs m l after r.window rest p (was.written ++ out)) (sym (append_assoc was.read (was_read w after r) rest))
            (refills (was.runs (was_read w after r ++ rest) (λ ended. absurd (false≢true (sym (low_not_ended m.most_seen w e) ∙ ended)))) after r (up.low e) size rest refl all);
      }

  -- the run after the turns of a piece
  advanced_runs : (size : ℕ) (buffer : List ℕ) (p : State) (w : Window) (lent held lent_after out_after : List ℕ) (q : State) (v : Window)
      → AdvancedTo m size buffer p w lent held lent_after out_after q v → Within w (length buffer)
      → (out : List ℕ) (was : Running m buffer w p out) → Placed was.written out held → Running m buffer v q out_after
  advanced_runs size buffer p w lent held lent_after out_after q v advanced lies out was placing =
      let room = size - length held in
      let reached = piece_from m room buffer p w lent in
      record {
        read = was.read;
        written = placing.before;
        runs = λ rest all.
            let run = advances (was.runs rest (λ ended. all (ended_stays m laws advanced lies ∙ ended))) room lent in
            subst (λ (u : Window). Runs m (was.read ++ rest) buffer u rest q (placing.before ++ out_after)) (sym advanced.window)
            (subst (λ (u : State). Runs m (was.read ++ rest) buffer reached.window rest u (placing.before ++ out_after)) (sym advanced.state)
            (subst (λ (l : List ℕ). Runs m (was.read ++ rest) buffer reached.window rest reached.state l)
            (sym (put_behind was.written out held reached.text placing advanced.put)) run));
      }

  module _ (size : ℕ) (before : List ℕ) (w : Window) (p : State) (lent out after lent_after out_after : List ℕ) (q : State) (v : Window)
      (same : length after ≡ length before) (piece : PieceOf m size before w p lent out after lent_after out_after q v)
      (lies : Within w (length before)) where
    topped : Within piece.topped.window (length after)
    topped = topped_lies m.most_seen before w after piece.topped same piece.up lies

    -- a piece carries the run on
    pub piece_runs : Running m before w p out → Running m after v q out_after
    piece_runs was =
        let now = topped_runs before w p out after piece.topped same piece.up was in
        advanced_runs size after p piece.topped.window lent (held_of m.most_text size out) lent_after out_after q v piece.advanced topped out now
        (placed m.most_text size now.written out)

    -- it leaves the window in its buffer
    pub piece_lies : Within v (length before)
    piece_lies = subst (λ (n : ℕ). Within v n) same (advanced_lies m laws piece.advanced topped)

  -- where it has stopped, all is printed
  pub printed_whole : (buffer : List ℕ) (w : Window) (p : State) (out : List ℕ) → Running m buffer w p out → m.stopped p ≡ true
      → PrintedWhole m out
  printed_whole buffer w p out was stopped = record {
    read = was.read;
    written = was.written;
    whole =
        pieces_as_whole (was.read ++ []) buffer w [] p (was.written ++ out) (was.runs [] (λ _. refl)) stopped
        ∙ ap (prints_for m) (append-nil was.read);
  }
