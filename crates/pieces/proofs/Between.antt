-- The pieces of a file, one after the other: what holds between them, and what is printed where the machine has stopped.
-- Assumes nothing.
use Rattle.std.proofs.Common.{ℕ, ◌+◌, ◌-◌, ◌*◌, ◌^◌, ◌≤◌, ◌<◌, ◌≡◌, refl, sym, ap, subst, ◌∙◌, true, false, List, [], arith, length, Result, Ok, Err, Some, IfOk, IfSome}
use Rattle.std.proofs.Math.Nat.{mul-add, mul-le-mul_left}
use Rattle.std.specs.Result.{result_ok}
use Rattle.text.proofs.Places.{held_here}
use Rattle.window.specs.Window.{Within, empty_window}
use Rattle.window.specs.declared.Window.{Window}
use Rattle.window.proofs.Empty.{none_within}
use Rattle.pieces.specs.Machine.{Machine, Lawful}
use Rattle.pieces.specs.Pieces.{AdvancedTo, PieceOf, Running, PrintedWhole}
use Rattle.pieces.specs.Quiet.{Quiet, QuietPiece, RunningQuietly, PrintedAtOnce}
use Rattle.pieces.proofs.Whole.{running_first, piece_runs, piece_lies, printed_whole}
use Rattle.pieces.proofs.Quiet.{quiet_first, quiet_on, quiet_holds, printed_at_once}

-- what holds of a value that is there holds of the one that is taken out
if_some : {T E : Type 0} (r : Result T E) (P : T → Type 0) → IfOk r P → IfSome (result_ok r) P
if_some (Ok x) P h = h
if_some (Err why) P h = tt

pub of_ok : {T E : Type 0} (r : Result T E) (P : T → Type 0) {v : T} → IfOk r P → result_ok r ≡ Some v → P v
of_ok r P h e = subst (λ o. IfSome o P) e (if_some r P h)

module _ {State : Type 0} (m : Machine State) (laws : Lawful m) (counted : State → ℕ) (for_each size room start : ℕ) where
  -- Between the pieces, after so many of them.
  pub record Carries (buffer out : List ℕ) (w : Window) (p : State) (done : ℕ) : Type 0 where
    pub stays : length buffer ≡ room
    pub lies : Within w room
    pub counts : counted p ≤ start + for_each * (room * done)
    pub running : Running m buffer w p out
    pub silent : Quiet m → RunningQuietly m buffer w p × (out ≡ [])

  pub carries_first : (buffer : List ℕ) {out : List ℕ} {w : Window} {p : State} → length buffer ≡ room → w ≡ empty_window → p ≡ m.first
      → out ≡ m.heading → counted p ≡ start → Carries buffer out w p 0
  carries_first buffer stays empty first heading count = record {
    stays = stays;
    lies = none_within _ room empty;
    counts = omega (arith, count);
    running = running_first m laws buffer empty first heading;
    silent = λ quiet. (quiet_first m laws quiet buffer empty first, heading ∙ quiet.0);
  }

  -- the numbers have room for one piece more
  pub counts_fit : {buffer out : List ℕ} {w : Window} {p : State} {done : ℕ} (most : ℕ) → Carries buffer out w p done → done < most
      → start + for_each * (room * most) < 2 ^ 64 → counted p + for_each * room < 2 ^ 64
  counts_fit {buffer} {out} {w} {p} {done} most was more bound =
      let next : done + 1 ≤ most = omega (arith, more) in
      let few = mul-le-mul_left for_each (mul-le-mul_left room next) in
      omega (arith, was.counts, one_more done, few, bound)
    where
      one_more : (done : ℕ) → for_each * (room * (done + 1)) ≡ for_each * (room * done) + for_each * room
      one_more done =
          ap (λ (n : ℕ). for_each * n) (mul-add room done 1 ∙ ap (λ (n : ℕ). room * done + n) (omega arith)) ∙ mul-add for_each (room * done) room

  -- one piece more
  module _ (before : List ℕ) (w : Window) (p : State) (lent out after lent_after out_after : List ℕ) (q : State) (v : Window) {done : ℕ}
      (was : Carries before out w p done) (same : length after ≡ length before)
      (piece : PieceOf m size before w p lent out after lent_after out_after q v) where
    lies : Within w (length before)
    lies = (was.lies.0, omega (arith, was.lies.1, was.stays))

    quietly : m.most_text ≤ size → out ≡ [] → QuietPiece m size before w p lent after lent_after out_after q v
    quietly fits none = record {
      topped = piece.topped;
      up = piece.up;
      advanced =
          subst (λ (l : List ℕ). AdvancedTo m size after p piece.topped.window lent l lent_after out_after q v)
          (held_here m.most_text size out (omega (arith, fits, ap length none)) ∙ none) piece.advanced;
    }

    pub carries_on : m.most_text ≤ size → counted q ≤ counted p + for_each * room → m.stopped q ≡ false
        → Carries after out_after v q (done + 1)
    carries_on fits count goes =
        let stays = piece_lies m laws size before w p lent out after lent_after out_after q v same piece lies in
        let one_more =
        ap (λ (n : ℕ). for_each * n) (mul-add room done 1 ∙ ap (λ (n : ℕ). room * done + n) (omega arith)) ∙ mul-add for_each (room * done) room in
        record {
          stays = same ∙ was.stays;
          lies = (stays.0, omega (arith, stays.1, was.stays));
          counts = omega (arith, count, was.counts, one_more);
          running = piece_runs m laws size before w p lent out after lent_after out_after q v same piece lies was.running;
          silent = λ quiet.
              let silent = was.silent quiet in
              let shown = quietly fits silent.1 in (
                quiet_on m laws quiet size before w p lent after lent_after out_after q v same shown lies silent.0 goes,
                quiet_holds m laws quiet size before w p lent after lent_after out_after q v same shown lies goes,
              );
        }

    -- or it has stopped
    pub all_printed : m.stopped q ≡ true → PrintedWhole m out_after
    all_printed stopped =
        printed_whole m laws after v q out_after
        (piece_runs m laws size before w p lent out after lent_after out_after q v same piece lies was.running) stopped

    pub printed_then : m.most_text ≤ size → m.stopped q ≡ true → Quiet m → PrintedAtOnce m out_after
    printed_then fits stopped quiet =
        let silent = was.silent quiet in
        printed_at_once m laws quiet size before w p lent after lent_after out_after q v same (quietly fits silent.1) lies silent.0 stopped
