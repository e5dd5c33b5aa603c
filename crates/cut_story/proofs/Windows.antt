-- From a program's refilled buffers to a run.
-- Assumes nothing.
use Prim.Native.Nat.{ℕ, ◌≤◌}
use mathlib.Core.Path.{◌≡◌, refl, sym, ap, ap₂, ◌∙◌, subst}
use mathlib.Core.Bool.{Bool, true, false, cond, false≢true}
use mathlib.Core.List.{List, [], ◌∷◌, ◌++◌, append-nil, append_assoc}
use mathlib.Core.Logic.{inl}
use native.Mathlib.Omega.{arith}
use lib.ListN.{length, take, drop, length-append}
use lib.Seq.{take_at, drop-append-le}
use Rattle.window.specs.Window.{unread, low_of, used_of, was_read}
use Rattle.window.specs.declared.Window.{Window}
use Rattle.window.proofs.Unread.{part}
use Rattle.links.specs.declared.State.{State}
use Rattle.links.specs.declared.Taken.{Taken}
use Rattle.packet.specs.Sizes.{most_packet}
use Rattle.links.specs.Table.{judgeable, taken_of}
use Rattle.link_promises.proofs.Seen.{same_judgeable}
use Rattle.recording.specs.Printed.{heading, line_of}
use Rattle.recording.specs.Progress.{windowed, taken_at, stepped_of, UsesNoMore, Lies}
use Rattle.recording.specs.Whole.{Follows, Reads, Cuts}
use Rattle.recording.specs.Whole.Reads.{stays, refills}
use Rattle.recording.specs.Whole.Cuts.{starts, reads, steps}
use Rattle.recording.specs.declared.Progress.{Progress}
use Rattle.recording.proofs.Windows.{uses, lies_after}
use Rattle.recording.proofs.Whole.{seen_as_file, named_follows, other_follows, reads_follow, reads_within}
use Rattle.one_story.specs.Sequence.{Packet, Gateway, fresh_of, bytes_on}
use Rattle.one_story.specs.Run.{Moment, start, arrived_on, Lends, handed_by, after, step_of, Run}
use Rattle.one_story.specs.OneStory.{RunOf}
use Rattle.one_story.proofs.Story.{Stand, stand_of, went}
use Rattle.cut_story.specs.Names.{Name, lines_of, named_in, names_of}
use Rattle.cut_story.specs.Windows.{ReadOf, WindowLends, Piece, ReadsArrive, FirstPart, Recorded, CuttingIsARun}
use Rattle.cut_story.proofs.Steps.{names_append, named_append, lines_append, names_handed, counts_handed, arrived_kept, used_then, lag, NormalFirst, near, turn_after}

-- two lists with the same rest behind them
same_front : (a b rest : List ℕ) → a ++ rest ≡ b ++ rest → a ≡ b
same_front a b rest e =
    let size : length a ≡ length b = omega (arith, ap length e, length-append a rest, length-append b rest) in
    sym (take_at a rest (length b) size) ∙ ap (take (length b)) e ∙ take_at b rest (length b) refl

pub window_lends : WindowLends
window_lends file buffer to_read w link within follows read used =
    part w.from w.to buffer
    ∙ same_front (unread buffer w) (drop link.used link.arrived) to_read
    (sym follows.next ∙ ap (drop link.used) (sym read) ∙ drop-append-le link.used link.arrived to_read used)

pub reads_arrive : ReadsArrive
reads_arrive buffer w to_read _ _ _ stays = record { piece = []; next = refl }
reads_arrive buffer w to_read _ _ _ (refills after r refilled size rest more ended) = record { piece = was_read w after r; next = more }

module _ (gateway : Gateway) (sent : List Packet) (normal_file redundant_file : List ℕ) (a b : ℕ) (x : Recorded gateway sent normal_file redundant_file a b) where
  -- the moment at which a cutting stands, with what the windows follow
  record AtMoment (normal redundant : List ℕ) (p : Progress) (normal_to_read redundant_to_read printed : List ℕ) : Type 0 where
    now : Moment
    run : RunOf gateway sent (lag gateway sent normal_file redundant_file a b x) now
    state : now.state ≡ p.state
    handed : length now.handed ≡ p.handed_up
    normal_read : ReadOf normal_file now.normal normal_to_read
    redundant_read : ReadOf redundant_file now.redundant redundant_to_read
    lines : List Taken
    text : printed ≡ heading ++ lines_of lines
    named : named_in lines ≡ names_of now.handed
    lies : Lies p (length normal) (length redundant)
    normal_follows : Follows normal_file now.normal.used normal p.normal normal_to_read
    redundant_follows : Follows redundant_file now.redundant.used redundant p.redundant redundant_to_read
    turn : NormalFirst gateway sent normal_file redundant_file a b x now

  -- a piece of a file arrives
  joins : (link : Bool) (file arrived to_read rest : List ℕ) (f : FirstPart link sent file) (p : Piece to_read rest) → arrived ++ to_read ≡ file
      → ((arrived ++ p.piece) ++ rest ≡ file) × ((arrived ++ p.piece) ++ (rest ++ f.rest) ≡ bytes_on link sent)
  joins link file arrived to_read rest f p e =
      let read : (arrived ++ p.piece) ++ rest ≡ file = append_assoc arrived p.piece rest ∙ ap (λ (l : List ℕ). arrived ++ l) (sym p.next) ∙ e in
      (read, sym (append_assoc (arrived ++ p.piece) rest f.rest) ∙ ap (λ (l : List ℕ). l ++ f.rest) read ∙ f.part)

  module _ (normal redundant : List ℕ) (p : Progress) (normal_to_read redundant_to_read printed : List ℕ) (was : AtMoment normal redundant p normal_to_read redundant_to_read printed) where
    -- windows are refilled, or not
    stands_read : (normal_after redundant_after : List ℕ) (n r : Window) (normal_rest redundant_rest : List ℕ)
        → Reads normal p.normal normal_to_read normal_after n normal_rest → Reads redundant p.redundant redundant_to_read redundant_after r redundant_rest
        → AtMoment normal_after redundant_after (windowed n r p) normal_rest redundant_rest printed
    stands_read normal_after redundant_after n r normal_rest redundant_rest on_normal on_redundant =
        let one = reads_arrive normal p.normal normal_to_read normal_after n normal_rest on_normal in
        let two = reads_arrive redundant p.redundant redundant_to_read redundant_after r redundant_rest on_redundant in
        let m = was.now in
        let joined = joins true normal_file m.normal.arrived normal_to_read normal_rest x.normal_part one was.normal_read in
        let joined' = joins false redundant_file m.redundant.arrived redundant_to_read redundant_rest x.redundant_part two was.redundant_read in
        record {
          now = arrived_on false two.piece (arrived_on true one.piece m);
          run =
              Run.arrives (Run.arrives was.run true one.piece (normal_rest ++ x.normal_part.rest) joined.1) false two.piece (redundant_rest ++ x.redundant_part.rest)
              joined'.1;
          state = was.state;
          handed = was.handed;
          normal_read = joined.0;
          redundant_read = joined'.0;
          lines = was.lines;
          text = was.text;
          named = was.named;
          lies = (
            reads_within normal p.normal normal_to_read normal_after n normal_rest was.lies.0 on_normal,
            reads_within redundant p.redundant redundant_to_read redundant_after r redundant_rest was.lies.1 on_redundant,
          );
          normal_follows = reads_follow normal_file m.normal.used normal p.normal normal_to_read normal_after n normal_rest was.normal_follows on_normal;
          redundant_follows = reads_follow redundant_file m.redundant.used redundant p.redundant redundant_to_read redundant_after r redundant_rest was.redundant_follows on_redundant;
          turn = was.turn;
        }

    -- a step over windows that are not low
    module _ (high_normal : low_of most_packet p.normal ≡ false) (high_redundant : low_of most_packet p.redundant ≡ false) where
      abbrev m : Moment
      m = was.now

      abbrev s : List ℕ
      s = take p.normal.to normal

      abbrev r : List ℕ
      r = take p.redundant.to redundant

      abbrev t : Taken
      t = step_of gateway s p.normal.from r p.redundant.from m

      same : t ≡ taken_at normal redundant gateway.callers gateway.ours p
      same = ap (λ (state : State). taken_of s p.normal.from r p.redundant.from gateway.callers gateway.ours state) was.state

      h : Stand gateway sent m
      h = stand_of gateway sent m (record { sequence = x.sequence; lag = lag gateway sent normal_file redundant_file a b x; enough = omega arith; run = was.run })

      ln : Lends m.normal s p.normal.from
      ln = window_lends normal_file normal normal_to_read p.normal m.normal was.lies.0 was.normal_follows was.normal_read (h.links true).read.there

      lr : Lends m.redundant r p.redundant.from
      lr = window_lends redundant_file redundant redundant_to_read p.redundant m.redundant was.lies.1 was.redundant_follows was.redundant_read (h.links false).read.there

      seen : judgeable s p.normal.from ≡ judgeable normal_file m.normal.used
      seen =
          same_judgeable s p.normal.from normal_file m.normal.used
          (seen_as_file normal_file m.normal.used normal p.normal normal_to_read was.lies.0 was.normal_follows high_normal)

      read : length m.normal.arrived ≤ length normal_file
      read = omega (arith, ap length was.normal_read, length-append m.normal.arrived normal_to_read)

      read' : length m.redundant.arrived ≤ length redundant_file
      read' = omega (arith, ap length was.redundant_read, length-append m.redundant.arrived redundant_to_read)

      used : UsesNoMore t p
      used = uses normal redundant gateway.callers gateway.ours p was.lies same

      stands_then : AtMoment normal redundant (stepped_of t p) normal_to_read redundant_to_read (printed ++ line_of t)
      unfolding stepped_of
      stands_then = record {
        now = after s r t m;
        run =
            Run.steps was.run s p.normal.from r p.redundant.from ln lr
            (near gateway sent normal_file redundant_file a b x m h read read' was.turn s p.normal.from r p.redundant.from ln lr seen);
        state = refl;
        handed = counts_handed s r t m p.handed_up was.handed;
        normal_read = ap (λ (l : List ℕ). l ++ normal_to_read) (arrived_kept t.normal m.normal t).0 ∙ was.normal_read;
        redundant_read = ap (λ (l : List ℕ). l ++ redundant_to_read) (arrived_kept t.normal m.redundant t).1 ∙ was.redundant_read;
        lines = was.lines ++ (t ∷ []);
        text =
            ap (λ (l : List ℕ). l ++ line_of t) was.text
            ∙ append_assoc heading (lines_of was.lines) (line_of t)
            ∙ ap (λ (l : List ℕ). heading ++ (lines_of was.lines ++ l)) (sym (append-nil (line_of t)))
            ∙ ap (λ (l : List ℕ). heading ++ l) (sym (lines_append was.lines (t ∷ [])));
        named =
            named_append was.lines (t ∷ [])
            ∙ ap₂ (λ (l k : List Name). l ++ k) was.named (names_handed gateway m s p.normal.from r p.redundant.from)
            ∙ sym (names_append m.handed (handed_by s r t));
        lies = (lies_after (length normal) (length redundant) p (stepped_of t p) t used was.lies refl).0;
        normal_follows =
            subst (λ (place : ℕ). Follows normal_file place normal (cond t.normal (used_of t.used p.normal) p.normal) normal_to_read) (used_then t.normal m.normal t).0
            (named_follows t.normal normal_file m.normal.used normal p.normal normal_to_read t.used was.lies.0 was.normal_follows used.0);
        redundant_follows =
            subst (λ (place : ℕ). Follows redundant_file place redundant (cond t.normal p.redundant (used_of t.used p.redundant)) redundant_to_read)
            (used_then t.normal m.redundant t).1
            (other_follows t.normal redundant_file m.redundant.used redundant p.redundant redundant_to_read t.used was.lies.1 was.redundant_follows used.1);
        turn =
            turn_after gateway sent normal_file redundant_file a b x m h read read' was.turn s p.normal.from r p.redundant.from ln lr seen t
            (went gateway sent x.sequence m h s p.normal.from r p.redundant.from ln lr);
      }

      stands_stepped : AtMoment normal redundant (stepped_of (taken_at normal redundant gateway.callers gateway.ours p) p) normal_to_read redundant_to_read
          (printed ++ line_of (taken_at normal redundant gateway.callers gateway.ours p))
      stands_stepped = subst (λ (y : Taken). AtMoment normal redundant (stepped_of y p) normal_to_read redundant_to_read (printed ++ line_of y)) same stands_then

  stands : {normal redundant : List ℕ} {p : Progress} {normal_to_read redundant_to_read printed : List ℕ}
      → Cuts gateway.callers gateway.ours (fresh_of gateway) normal_file redundant_file normal redundant p normal_to_read redundant_to_read printed
      → AtMoment normal redundant p normal_to_read redundant_to_read printed
  stands (starts normal redundant) = record {
    now = start gateway;
    run = Run.begun;
    state = refl;
    handed = refl;
    normal_read = refl;
    redundant_read = refl;
    lines = [];
    text = sym (append-nil heading);
    named = refl;
    lies = ((omega arith, omega arith), (omega arith, omega arith));
    normal_follows = record { next = refl; all = λ e. absurd (false≢true e) };
    redundant_follows = record { next = refl; all = λ e. absurd (false≢true e) };
    turn = inl refl;
  }
  stands (reads {normal} {redundant} {p} {normal_to_read} {redundant_to_read} {printed} run {normal_after} {redundant_after} {n} {r} {normal_rest} {redundant_rest} on_normal on_redundant) =
      stands_read normal redundant p normal_to_read redundant_to_read printed (stands run) normal_after redundant_after n r normal_rest redundant_rest on_normal on_redundant
  stands (steps {normal} {redundant} {p} {normal_to_read} {redundant_to_read} {printed} run goes high_normal high_redundant) =
      stands_stepped normal redundant p normal_to_read redundant_to_read printed (stands run) high_normal high_redundant

pub cutting_is_a_run : CuttingIsARun
cutting_is_a_run gateway sent normal_file redundant_file a b x normal redundant p normal_to_read redundant_to_read printed run =
    let at = stands gateway sent normal_file redundant_file a b x run in
    record {
      now = at.now;
      run = at.run;
      state = at.state;
      handed = at.handed;
      normal_read = at.normal_read;
      redundant_read = at.redundant_read;
      steps = at.lines;
      text = at.text;
      named = at.named;
    }
