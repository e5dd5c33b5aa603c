-- What `cut` prints for two recorded links of a sequence.
-- Assumes nothing.
use Prim.Native.Nat.{ℕ, zero, suc, ◌+◌, ◌-◌, ◌≤◌, ◌<◌, max}
use mathlib.Core.Path.{◌≡◌, refl, sym, ap, ap₂, ◌∙◌, subst}
use mathlib.Core.Bool.{Bool, true, false, cond}
use mathlib.Core.List.{List, [], ◌∷◌, ◌++◌, append-nil, append_assoc}
use mathlib.Core.Logic.{◌⊎◌, inl, ⊎_elim}
use native.Mathlib.Omega.{arith}
use borrow.Author.Tests.{ne_eqb}
use lib.ListN.{length, take, drop}
use lib.Seq.{length-take-le}
use Rattle.rules.specs.Rows.{when◌answer◌else◌}
use Rattle.text.specs.Line.{end_of}
use Rattle.links.specs.declared.Taken.{Taken}
use Rattle.links.specs.Taken.{nothing_changes}
use Rattle.links.specs.Table.{judgeable}
use Rattle.recording.specs.Printed.{heading, line_of}
use Rattle.recording.specs.Progress.{last_answer, counted_of}
use Rattle.recording.specs.Cut.{Reach, reached_by, cut_from}
use Rattle.recording.proofs.Steps.{goes_on_lem}
use Rattle.one_story.specs.Sequence.{Packet, Gateway}
use Rattle.one_story.specs.Run.{Link, Moment, start, arrived_on, Lends, Drained, used_up, handed_by, after, step_of, Run}
use Rattle.one_story.specs.OneStory.{RunOf, Whole, Supposed}
use Rattle.one_story.proofs.Judged.{Drop}
use Rattle.one_story.proofs.Links.{same_whole}
use Rattle.one_story.proofs.Story.{Stand, stand_of, Went, went, nothing_withheld}
use Rattle.one_story.proofs.Long.{OneMore, named_one}
use Rattle.cut_story.specs.Names.{Name, lines_of, named_in, names_of}
use Rattle.cut_story.specs.Windows.{Recorded}
use Rattle.cut_story.specs.Told.{CutTellsOneStory}
use Rattle.cut_story.proofs.Steps.{names_append, named_append, names_handed, counts_handed, arrived_kept, used_then, lag, NormalFirst, near, turn_after}

-- answers that are the last, and that are not
last_301 : last_answer 301 ≡ true
unfolding last_answer
last_301 = refl

not_counted : (n : ℕ) → counted_of n 301 ≡ n
unfolding counted_of
not_counted n = refl

goes_further : (n : ℕ) → (n ≡ 0) ⊎ Drop n → last_answer n ≡ false
unfolding last_answer
goes_further n o =
    simp (ne_eqb n 301 (λ z. ⊎_elim (λ e. omega (arith, e, z)) (λ d. omega (arith, d.0, z)) o), ne_eqb n 308 (λ z. ⊎_elim (λ e. omega (arith, e, z)) (λ d. d.1 z) o))

module _ (gateway : Gateway) (sent : List Packet) (normal_file redundant_file : List ℕ) (a b : ℕ) (x : Recorded gateway sent normal_file redundant_file a b) where
  abbrev printed : Reach → List ℕ
  printed y = cut_from normal_file redundant_file gateway.callers gateway.ours y

  -- how far the files are cut at a moment
  abbrev reach_at : Moment → Reach
  reach_at m = record { normal = m.normal.used; redundant = m.redundant.used; state = m.state; handed_up = length m.handed }

  reach_after : (m : Moment) (t : Taken) → reached_by t (reach_at m) ≡ reach_at (after normal_file redundant_file t m)
  reach_after m t =
      ap₂ (λ (i j : ℕ). reach i j (counted_of (length m.handed) t.answer)) (used_then t.normal m.normal t).0 (used_then t.normal m.redundant t).1
      ∙ ap (reach (cond t.normal (used_up m.normal t) m.normal).used (cond t.normal m.redundant (used_up m.redundant t)).used)
      (sym (counts_handed normal_file redundant_file t m (length m.handed) refl))
    where
      reach : ℕ → ℕ → ℕ → Reach
      reach i j n = record { normal = i; redundant = j; state = t.state; handed_up = n }

  -- a moment at which both files have arrived whole
  record Whole-read (m : Moment) : Type 0 where
    run : RunOf gateway sent (lag gateway sent normal_file redundant_file a b x) m
    normal_arrived : m.normal.arrived ≡ normal_file
    redundant_arrived : m.redundant.arrived ≡ redundant_file
    turn : NormalFirst gateway sent normal_file redundant_file a b x m

  supposed : (m : Moment) → Whole-read m → Supposed gateway sent m
  supposed m w = record { sequence = x.sequence; lag = lag gateway sent normal_file redundant_file a b x; enough = omega arith; run = w.run }

  -- what is printed from there on
  record Rest (m : Moment) : Type 0 where
    lines : List Taken
    text : printed (reach_at m) ≡ lines_of lines ++ end_of (max a b)
    named : names_of m.handed ++ named_in lines ≡ names_of (take (max a b) sent)

  -- no more packets are used than the files have whole
  within : (m : Moment) → Whole-read m → (m.normal.packets ≤ a) × (m.redundant.packets ≤ b)
  within m w =
      let h = stand_of gateway sent m (supposed m w) in
      let n = (h.links true).read in
      let r = (h.links false).read in (
        x.normal_whole.no_more m.normal.packets n.first_part (omega (arith, n.whole, n.there, ap length w.normal_arrived)),
        x.redundant_whole.no_more m.redundant.packets r.first_part (omega (arith, r.whole, r.there, ap length w.redundant_arrived)),
      )

  left : Moment → ℕ
  left m = (a - m.normal.packets) + (b - m.redundant.packets)

  module _ (m : Moment) (w : Whole-read m) where
    abbrev t : Taken
    t = step_of gateway normal_file m.normal.used redundant_file m.redundant.used m

    abbrev then : Moment
    then = after normal_file redundant_file t m

    h : Stand gateway sent m
    h = stand_of gateway sent m (supposed m w)

    ln : Lends m.normal normal_file m.normal.used
    ln = ap (drop m.normal.used) (sym w.normal_arrived)

    lr : Lends m.redundant redundant_file m.redundant.used
    lr = ap (drop m.redundant.used) (sym w.redundant_arrived)

    read : length m.normal.arrived ≤ length normal_file
    read = omega (arith, ap length w.normal_arrived)

    read' : length m.redundant.arrived ≤ length redundant_file
    read' = omega (arith, ap length w.redundant_arrived)

    goes : Went gateway sent x.sequence m h normal_file m.normal.used redundant_file m.redundant.used ln lr t
    goes = went gateway sent x.sequence m h normal_file m.normal.used redundant_file m.redundant.used ln lr

    whole_then : Whole-read then
    whole_then = record {
      run =
          Run.steps w.run normal_file m.normal.used redundant_file m.redundant.used ln lr
          (near gateway sent normal_file redundant_file a b x m h read read' w.turn normal_file m.normal.used redundant_file m.redundant.used ln lr refl);
      normal_arrived = (arrived_kept t.normal m.normal t).0 ∙ w.normal_arrived;
      redundant_arrived = (arrived_kept t.normal m.redundant t).1 ∙ w.redundant_arrived;
      turn =
          turn_after gateway sent normal_file redundant_file a b x m h read read' w.turn normal_file m.normal.used redundant_file m.redundant.used ln lr refl t goes;
    }

    -- the last step: all that the files have whole has been handed up
    at_the_end : judgeable normal_file m.normal.used ≡ false → judgeable redundant_file m.redundant.used ≡ false → t ≡ nothing_changes 301 m.state → Rest m
    at_the_end n r e = record {
      lines = t ∷ [];
      text =
          goes_on_lem normal_file redundant_file gateway.callers gateway.ours (reach_at m)
          ∙ ap (λ (y : Taken). line_of y ++ (when last_answer y.answer answer end_of (reached_by y (reach_at m)).handed_up else printed (reached_by y (reach_at m)))) e
          ∙ ap (λ (z : Bool). line_of none ++ (when z answer end_of (reached_by none (reach_at m)).handed_up else printed (reached_by none (reach_at m)))) last_301
          ∙ ap (λ (k : ℕ). line_of none ++ end_of k) (not_counted (length m.handed) ∙ size)
          ∙ ap (λ (y : Taken). line_of y ++ end_of (max a b)) (sym e)
          ∙ ap (λ (l : List ℕ). l ++ end_of (max a b)) (sym (append-nil (line_of t)));
      named =
          ap (λ (y : Taken). names_of m.handed ++ named_in (y ∷ [])) e ∙ append-nil (names_of m.handed) ∙ ap names_of told;
    }
      where
        none : Taken
        none = nothing_changes 301 m.state

        drained_normal : Drained m.normal
        drained_normal = ap (λ (l : List ℕ). judgeable l m.normal.used) w.normal_arrived ∙ n

        drained_redundant : Drained m.redundant
        drained_redundant = ap (λ (l : List ℕ). judgeable l m.redundant.used) w.redundant_arrived ∙ r

        told : m.handed ≡ take (max a b) sent
        told =
            let all = nothing_withheld gateway sent m (supposed m w) drained_normal drained_redundant in
            all.2
            ∙ ap₂ (λ (i j : ℕ). take (max i j) sent)
            (same_whole true sent normal_file m.normal.packets a (subst (λ (l : List ℕ). Whole true sent l m.normal.packets) w.normal_arrived all.0) x.normal_whole)
            (same_whole false sent redundant_file m.redundant.packets b
            (subst (λ (l : List ℕ). Whole false sent l m.redundant.packets) w.redundant_arrived all.1) x.redundant_whole)

        size : length m.handed ≡ max a b
        size = ap length told ∙ length-take-le (max a b) sent (omega (arith, x.normal_whole.within, x.redundant_whole.within))

    -- a step before it
    goes_before : last_answer t.answer ≡ false → Rest then → Rest m
    goes_before e rest = record {
      lines = t ∷ rest.lines;
      text =
          goes_on_lem normal_file redundant_file gateway.callers gateway.ours (reach_at m)
          ∙ ap (λ (z : Bool). line_of t ++ (when z answer end_of (reached_by t (reach_at m)).handed_up else printed (reached_by t (reach_at m)))) e
          ∙ ap (λ (y : Reach). line_of t ++ printed y) (reach_after m t)
          ∙ ap (λ (l : List ℕ). line_of t ++ l) rest.text
          ∙ sym (append_assoc (line_of t) (lines_of rest.lines) (end_of (max a b)));
      named =
          ap (λ (l : List Name). names_of m.handed ++ l)
          (named_append (t ∷ []) rest.lines ∙ ap (λ (l : List Name). l ++ named_in rest.lines) (names_handed gateway m normal_file m.normal.used redundant_file m.redundant.used))
          ∙ sym (append_assoc (names_of m.handed) (names_of (handed_by normal_file redundant_file t)) (named_in rest.lines))
          ∙ ap (λ (l : List Name). l ++ named_in rest.lines) (sym (names_append m.handed (handed_by normal_file redundant_file t)))
          ∙ rest.named;
    }

    fewer : (link : Bool) → OneMore link m then → left then < left m
    unfolding left
    fewer true one = let i = within then whole_then in omega (arith, one.packets, ap (λ (l : Link). l.packets) one.other, i.0, i.1)
    fewer false one = let i = within then whole_then in omega (arith, one.packets, ap (λ (l : Link). l.packets) one.other, i.0, i.1)

    rest_by : Went gateway sent x.sequence m h normal_file m.normal.used redundant_file m.redundant.used ln lr t → (left then < left m → Rest then) → Rest m
    rest_by (Went.found_nothing n r e) go = at_the_end n r e
    rest_by (Went.took link past e name one o) go =
        goes_before (goes_further t.answer o) (go (fewer link (named_one m normal_file redundant_file t link name one)))

  rest_of : (most : ℕ) (m : Moment) → Whole-read m → left m < most → Rest m
  rest_of zero m w l = let none : ⊥ = omega arith in absurd none
  rest_of (suc most) m w l = rest_by m w (goes m w) (λ f. rest_of most (then m w) (whole_then m w) (omega arith))

  begins : Moment
  begins = arrived_on false redundant_file (arrived_on true normal_file (start gateway))

  whole_first : Whole-read begins
  unfolding begins
  whole_first = record {
    run = Run.arrives (Run.arrives Run.begun true normal_file x.normal_part.rest x.normal_part.part) false redundant_file x.redundant_part.rest x.redundant_part.part;
    normal_arrived = refl;
    redundant_arrived = refl;
    turn = inl refl;
  }

pub cut_tells_one_story : CutTellsOneStory
unfolding begins
cut_tells_one_story gateway sent normal_file redundant_file a b x =
    let m = begins gateway sent normal_file redundant_file a b x in
    let rest = rest_of gateway sent normal_file redundant_file a b x (suc (left gateway sent normal_file redundant_file a b x m)) m (whole_first gateway sent normal_file redundant_file a b x) (omega arith) in
    record { steps = rest.lines; text = ap (λ (l : List ℕ). heading ++ l) rest.text; named = rest.named }
