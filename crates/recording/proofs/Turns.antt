-- The turns of a program: each carries the cutting of two files on, and after the last all is printed.
-- Assumes nothing.
use Prim.Native.Nat.{ℕ}
use mathlib.Core.Path.{◌≡◌, refl, sym, ap, subst, ◌∙◌}
use mathlib.Core.Bool.{Bool, true, false, false≢true}
use mathlib.Core.List.{List, [], ◌++◌, append_assoc, append-nil}
use native.Mathlib.Omega.{arith}
use lib.ListN.{length}
use Rattle.text.specs.Text.{held_of}
use Rattle.text.proofs.Places.{placed, put_behind}
use Rattle.window.specs.Window.{low_of, was_read, ToppedUp}
use Rattle.window.specs.declared.Window.{Window}
use Rattle.window.specs.declared.Refilled.{Refilled}
use Rattle.window.specs.MovedOnce.{MovedNoMoreThanRead}
use Rattle.window.proofs.Unread.{low_not_ended}
use Rattle.window.proofs.MovedOnce.{none_moved, moved_topped_up, moved_used}
use Rattle.packet.specs.Sizes.{most_packet}
use Rattle.links.specs.declared.State.{State}
use Rattle.links.specs.declared.Taken.{Taken}
use Rattle.text.specs.Line.{end_of}
use Rattle.recording.specs.Printed.{heading, line_of, most_line}
use Rattle.recording.specs.Progress.{start_of, windowed, taken_at, stepped_of, UsesNoMore, Lies}
use Rattle.recording.specs.Cut.{cut_of}
use Rattle.recording.specs.Whole.{Reads, Cuts, TurnOf, Cutting, PrintedToTheEnd, PrintedWhole, BothHaveRoom, BothMovedNoMore}
use Rattle.recording.specs.Whole.Reads.{stays, refills}
use Rattle.recording.specs.Whole.Cuts.{starts, reads, steps}
use Rattle.recording.specs.declared.Progress.{Progress}
use Rattle.recording.proofs.Windows.{uses, step_keeps}
use Rattle.recording.proofs.Whole.{pieces_as_whole}

-- What topping a window up has read, so that with any bytes that follow it is one of the ways in which a file is read.
record ReadsOn (before : List ℕ) (w : Window) (after : List ℕ) (v : Window) : Type 0 where
  read : List ℕ
  on : (rest : List ℕ) → (v.ended ≡ true → rest ≡ []) → Reads before w (read ++ rest) after v rest
  none : (rest : List ℕ) → (v.ended ≡ true → rest ≡ []) → w.ended ≡ true → read ++ rest ≡ []

topped_reads : (before : List ℕ) (w : Window) (after : List ℕ) (r : Refilled) → length after ≡ length before → ToppedUp most_packet before w after r
    → ReadsOn before w after r.window
topped_reads before w after r size up = by (low_of most_packet w) refl
  where
    by : (low : Bool) → low_of most_packet w ≡ low → ReadsOn before w after r.window
    by false e =
        let same = up.not_low e in
        let window = ap (λ (q : Refilled). q.window) same.0 in
        record {
          read = [];
          on = λ rest all.
              subst (λ (u : Window). Reads before w rest after u rest) (sym window) (subst (λ (l : List ℕ). Reads before w rest l w rest) (sym same.1) stays);
          none = λ rest all ended. all (ap (λ (u : Window). u.ended) window ∙ ended);
        }
    by true e = record {
      read = was_read w after r;
      on = λ rest all. refills after r (up.low e) size rest refl all;
      none = λ rest all ended. absurd (false≢true (sym (low_not_ended most_packet w e) ∙ ended));
    }

-- before the first turn: the out buffer holds the heading
pub cutting_first : (callers : List ℕ) (ours : ℕ) (state : State) (normal redundant : List ℕ) {p : Progress} {out : List ℕ} → p ≡ start_of state → out ≡ heading
    → Cutting callers ours state normal redundant p out
cutting_first callers ours state normal redundant {p} {out} start headed = record {
  normal_read = [];
  redundant_read = [];
  written = [];
  cuts = λ normal_rest redundant_rest _ _.
      subst (λ (l : List ℕ). Cuts callers ours state normal_rest redundant_rest normal redundant p normal_rest redundant_rest l) (sym headed)
      (subst (λ (q : Progress). Cuts callers ours state normal_rest redundant_rest normal redundant q normal_rest redundant_rest heading) (sym start) (starts normal redundant));
}

-- CUT-6: before the first turn no byte was moved
pub moved_first : (state : State) (normal redundant : ℕ) {p : Progress} → p ≡ start_of state → BothMovedNoMore p normal redundant
moved_first state normal redundant e =
    (none_moved most_packet normal (ap (λ (p : Progress). p.normal) e), none_moved most_packet redundant (ap (λ (p : Progress). p.redundant) e))

-- a step changes nothing of a window but where it starts
ended_stays : (taken : Taken) (p : Progress) → ((stepped_of taken p).normal.ended ≡ p.normal.ended) × ((stepped_of taken p).redundant.ended ≡ p.redundant.ended)
ended_stays taken p =
    step_keeps (λ (w : Window). w.ended ≡ p.normal.ended) (λ (w : Window). w.ended ≡ p.redundant.ended) taken p (λ _ was. was) (λ _ was. was) refl refl

-- a step uses bytes of one window
step_moves : (p : Progress) (taken : Taken) (normal redundant : ℕ) → UsesNoMore taken p → BothMovedNoMore p normal redundant → BothMovedNoMore (stepped_of taken p) normal redundant
step_moves p taken normal redundant used was =
    step_keeps (MovedNoMoreThanRead most_packet normal) (MovedNoMoreThanRead most_packet redundant) taken p (λ named. moved_used most_packet normal taken.used p.normal (used.0 named))
    (λ named. moved_used most_packet redundant taken.used p.redundant (used.1 named)) was.0 was.1

-- a turn carries the cutting on
module _ (callers : List ℕ) (ours : ℕ) (state : State) (normal redundant : List ℕ) (p : Progress) (room : ℕ) (out : List ℕ) (normal_after redundant_after out_after : List ℕ) (after : Progress)
    (turn : TurnOf normal redundant callers ours p room out normal_after redundant_after out_after after) where
  -- the progress with its windows topped up, and the step over them
  abbrev lent : Progress
  lent = windowed turn.first.window turn.second.window p

  abbrev taken : Taken
  taken = taken_at normal_after redundant_after callers ours lent

  pub turn_cuts : length normal_after ≡ length normal → length redundant_after ≡ length redundant → p.last ≡ false
      → Cutting callers ours state normal redundant p out → Cutting callers ours state normal_after redundant_after after out_after
  turn_cuts normal_size redundant_size goes was =
      let n = topped_reads normal p.normal normal_after turn.first normal_size turn.up.up_normal in
      let r = topped_reads redundant p.redundant redundant_after turn.second redundant_size turn.up.up_redundant in
      let place = placed most_line room was.written out in
      let stay = ended_stays taken lent in
      record {
        normal_read = was.normal_read ++ n.read;
        redundant_read = was.redundant_read ++ r.read;
        written = place.before;
        cuts = λ normal_rest redundant_rest normal_all redundant_all.
            let all_normal : turn.first.window.ended ≡ true → normal_rest ≡ [] = λ ended. normal_all (ap (λ (q : Progress). q.normal.ended) turn.advanced.progress ∙ stay.0 ∙ ended) in
            let all_redundant : turn.second.window.ended ≡ true → redundant_rest ≡ [] = λ ended. redundant_all (ap (λ (q : Progress). q.redundant.ended) turn.advanced.progress ∙ stay.1 ∙ ended) in
            let run =
            steps (reads (was.cuts (n.read ++ normal_rest) (r.read ++ redundant_rest) (n.none normal_rest all_normal) (r.none redundant_rest all_redundant)) (n.on normal_rest all_normal) (r.on redundant_rest all_redundant))
            goes turn.up.high_normal turn.up.high_redundant in
            subst (λ (l : List ℕ). Cuts callers ours state l (was.redundant_read ++ r.read ++ redundant_rest) normal_after redundant_after after normal_rest redundant_rest (place.before ++ out_after))
            (sym (append_assoc was.normal_read n.read normal_rest))
            (subst (λ (l : List ℕ). Cuts callers ours state (was.normal_read ++ (n.read ++ normal_rest)) l normal_after redundant_after after normal_rest redundant_rest (place.before ++ out_after))
            (sym (append_assoc was.redundant_read r.read redundant_rest))
            (subst (λ (q : Progress). Cuts callers ours state (was.normal_read ++ (n.read ++ normal_rest)) (was.redundant_read ++ (r.read ++ redundant_rest)) normal_after redundant_after q normal_rest redundant_rest (place.before ++ out_after))
            (sym turn.advanced.progress)
            (subst (λ (l : List ℕ). Cuts callers ours state (was.normal_read ++ (n.read ++ normal_rest)) (was.redundant_read ++ (r.read ++ redundant_rest)) normal_after redundant_after (stepped_of taken lent) normal_rest redundant_rest l)
            (sym (put_behind was.written out (held_of most_line room out) (line_of taken) place turn.advanced.put)) run)));
      }

-- CUT-6: the refills of a turn move no more bytes than they read
pub turn_moves : (callers : List ℕ) (ours : ℕ) (normal redundant : List ℕ) (p : Progress) (room : ℕ) (out : List ℕ) (normal_after redundant_after out_after : List ℕ) (after : Progress)
    → TurnOf normal redundant callers ours p room out normal_after redundant_after out_after after → length normal_after ≡ length normal → length redundant_after ≡ length redundant
    → BothHaveRoom (length normal) (length redundant) → Lies p (length normal) (length redundant) → BothMovedNoMore p (length normal) (length redundant)
    → BothMovedNoMore after (length normal) (length redundant)
turn_moves callers ours normal redundant p room out normal_after redundant_after out_after after turn normal_size redundant_size enough lies was =
    let n = moved_topped_up most_packet normal p.normal normal_after turn.first enough.0 turn.up.up_normal turn.up.read_normal lies.0 was.0 in
    let r = moved_topped_up most_packet redundant p.redundant redundant_after turn.second enough.1 turn.up.up_redundant turn.up.read_redundant lies.1 was.1 in
    let lent = windowed turn.first.window turn.second.window p in
    let lies_lent : Lies lent (length normal_after) (length redundant_after) = ((n.1.0, omega (arith, n.1.1, normal_size)), (r.1.0, omega (arith, r.1.1, redundant_size))) in
    let taken = taken_at normal_after redundant_after callers ours lent in
    let used = uses normal_after redundant_after callers ours lent {taken = taken} lies_lent refl in
    subst (λ (q : Progress). BothMovedNoMore q (length normal) (length redundant)) (sym turn.advanced.progress) (step_moves lent taken _ _ used (n.0, r.0))

-- after the last step only the last line is left to print
pub printed_to_the_end : (callers : List ℕ) (ours : ℕ) (state : State) (normal redundant : List ℕ) (p : Progress) (out : List ℕ) → Cutting callers ours state normal redundant p out → p.last ≡ true
    → PrintedToTheEnd callers ours state out p.handed_up
printed_to_the_end callers ours state normal redundant p out was last = record {
  normal_read = was.normal_read;
  redundant_read = was.redundant_read;
  written = was.written;
  whole =
      pieces_as_whole callers ours state (was.normal_read ++ []) (was.redundant_read ++ []) normal redundant p [] [] (was.written ++ out) (was.cuts [] [] (λ _. refl) (λ _. refl)) last
      ∙ ap (λ (l : List ℕ). cut_of callers ours state l (was.redundant_read ++ [])) (append-nil was.normal_read) ∙ ap (cut_of callers ours state was.normal_read) (append-nil was.redundant_read);
}

-- once the last line is put, all is printed
pub printed_whole : (callers : List ℕ) (ours : ℕ) (state : State) (room : ℕ) (out : List ℕ) (count : ℕ) (after : List ℕ) → PrintedToTheEnd callers ours state out count
    → after ≡ held_of most_line room out ++ end_of count → PrintedWhole callers ours state after
printed_whole callers ours state room out count after was put =
    let place = placed most_line room was.written out in
    record {
      normal_read = was.normal_read;
      redundant_read = was.redundant_read;
      written = place.before;
      whole = put_behind was.written out (held_of most_line room out) (end_of count) place put ∙ was.whole;
    }
