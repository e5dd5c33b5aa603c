-- However two files are read into their windows, what is printed is what `cut` prints for the whole files.
-- Assumes nothing.
use Prim.Native.Nat.{ℕ, ◌+◌, ◌≤◌}
use mathlib.Core.Path.{◌≡◌, refl, sym, ap, ap₂, subst, ◌∙◌}
use mathlib.Core.Bool.{Bool, true, false, cond, false≢true}
use mathlib.Core.List.{List, ◌++◌, append_assoc}
use mathlib.Core.Logic.{inl, inr, ⊎_elim}
use native.Mathlib.Omega.{arith}
use lib.ListN.{length, take, drop, length-drop}
use lib.Seq.{length-take-le, drop-drop, drop-append-le}
use Rattle.rules.specs.Rows.{when◌answer◌else◌}
use Rattle.window.specs.Window.{Within, left_of, unread, low_of, used_of, was_read}
use Rattle.window.specs.declared.Window.{Window}
use Rattle.window.proofs.Unread.{part, length_unread, unread_used, enough_or_ended, unread_refilled}
use Rattle.link_promises.specs.Promises.{seen_from}
use Rattle.packet.specs.Sizes.{most_packet}
use Rattle.links.specs.declared.State.{State}
use Rattle.links.specs.declared.Taken.{Taken}
use Rattle.link_promises.proofs.Alike.{sees_no_more_than_a_packet, buffer_seen_as_file}
use Rattle.text.specs.Line.{end_of}
use Rattle.recording.specs.Printed.{line_of}
use Rattle.recording.specs.Progress.{taken_at, last_answer, counted_of, stepped_of, Lies}
use Rattle.recording.specs.Cut.{Reach, reached_by, taken_from, cut_from, cut_of}
use Rattle.recording.specs.Whole.{Follows, reach_of, reached, StepsAsWhole, Reads, ReadsFollow, Cuts, PiecesAsWhole}
use Rattle.recording.specs.Whole.Reads.{stays, refills}
use Rattle.recording.specs.Whole.Cuts.{starts, reads, steps}
use Rattle.recording.specs.declared.Progress.{Progress}
use Rattle.recording.proofs.Windows.{uses, lies_after}
use Rattle.recording.proofs.Steps.{goes_on_lem}

-- what is lent of a window that follows a file is seen as the file is
pub seen_as_file : (file : List ℕ) (place : ℕ) (buffer : List ℕ) (w : Window) (to_read : List ℕ) → Within w (length buffer) → Follows file place buffer w to_read
    → low_of most_packet w ≡ false → seen_from (take w.to buffer) w.from ≡ seen_from file place
seen_as_file file place buffer w to_read h f low =
    let lent = part w.from w.to buffer in
    let size : length (drop w.from (take w.to buffer)) ≡ left_of w =
    ap length lent ∙ length-take-le (left_of w) (drop w.from buffer) (omega (arith, length-drop w.from buffer)) in
    buffer_seen_as_file (take w.to buffer) w.from file place to_read (f.next ∙ ap (λ (l : List ℕ). l ++ to_read) (sym lent))
    (⊎_elim (λ many. inl (subst (λ (n : ℕ). most_packet ≤ n) (sym size) many)) (λ ended. inr (f.all ended)) (enough_or_ended most_packet w low))

-- a window that follows a file follows it after bytes of it are used
follows_used : (file : List ℕ) (place : ℕ) (buffer : List ℕ) (w : Window) (to_read : List ℕ) (used : ℕ) → Within w (length buffer)
    → Follows file place buffer w to_read → w.from + used ≤ w.to → Follows file (place + used) buffer (used_of used w) to_read
follows_used file place buffer w to_read used h f u =
    let left = length_unread buffer w h in
    record {
      next =
          sym (drop-drop used place file) ∙ ap (drop used) f.next ∙ drop-append-le used (unread buffer w) to_read (omega arith)
          ∙ ap (λ (l : List ℕ). l ++ to_read) (unread_used buffer w used);
      all = f.all;
    }

-- the same where the link is the one that is named, or is not
pub named_follows : (named : Bool) (file : List ℕ) (place : ℕ) (buffer : List ℕ) (w : Window) (to_read : List ℕ) (used : ℕ) → Within w (length buffer)
    → Follows file place buffer w to_read → (named ≡ true → w.from + used ≤ w.to)
    → Follows file (cond named (place + used) place) buffer (cond named (used_of used w) w) to_read
named_follows true file place buffer w to_read used h f u = follows_used file place buffer w to_read used h f (u refl)
named_follows false file place buffer w to_read used h f u = f

pub other_follows : (named : Bool) (file : List ℕ) (place : ℕ) (buffer : List ℕ) (w : Window) (to_read : List ℕ) (used : ℕ) → Within w (length buffer)
    → Follows file place buffer w to_read → (named ≡ false → w.from + used ≤ w.to)
    → Follows file (cond named place (place + used)) buffer (cond named w (used_of used w)) to_read
other_follows true file place buffer w to_read used h f u = f
other_follows false file place buffer w to_read used h f u = follows_used file place buffer w to_read used h f (u refl)

module _ (normal_file : List ℕ) (normal_place : ℕ) (redundant_file : List ℕ) (redundant_place : ℕ) (normal redundant : List ℕ) (callers : List ℕ) (ours : ℕ) (p : Progress) where
  pub steps_as_whole : StepsAsWhole normal_file normal_place redundant_file redundant_place normal redundant callers ours p
  unfolding stepped_of
  steps_as_whole normal_to_read redundant_to_read lies n r nl rl =
      let t = taken_at normal redundant callers ours p in
      let u = uses normal redundant callers ours p lies refl in
      let there = reached normal_file normal_place redundant_file redundant_place normal redundant callers ours p in
      let alike =
      (sees_no_more_than_a_packet (take p.normal.to normal) p.normal.from (take p.redundant.to redundant) p.redundant.from
      normal_file normal_place redundant_file redundant_place callers ours p.state
      (seen_as_file normal_file normal_place normal p.normal normal_to_read lies.0 n nl)
      (seen_as_file redundant_file redundant_place redundant p.redundant redundant_to_read lies.1 r rl)).same_taken in (
        ap line_of alike,
        ap (λ (x : Taken). last_answer x.answer) alike,
        ap (λ (x : Taken). record { normal = there.normal; redundant = there.redundant; state = x.state; handed_up = counted_of p.handed_up x.answer }) alike,
        subst (λ (x : Taken). Follows normal_file (cond x.normal (normal_place + x.used) normal_place) normal (cond t.normal (used_of t.used p.normal) p.normal) normal_to_read)
            alike (named_follows t.normal normal_file normal_place normal p.normal normal_to_read t.used lies.0 n u.0),
        subst (λ (x : Taken). Follows redundant_file (cond x.normal redundant_place (redundant_place + x.used)) redundant (cond t.normal p.redundant (used_of t.used p.redundant)) redundant_to_read)
            alike (other_follows t.normal redundant_file redundant_place redundant p.redundant redundant_to_read t.used lies.1 r u.1),
      )

pub reads_follow : ReadsFollow
reads_follow file place buffer w to_read _ _ _ f stays = f
reads_follow file place buffer w to_read _ _ _ f (refills after r refilled size rest more ended) =
    record {
      next =
          f.next ∙ ap (λ (l : List ℕ). unread buffer w ++ l) more ∙ sym (append_assoc (unread buffer w) (was_read w after r) rest)
          ∙ ap (λ (l : List ℕ). l ++ rest) (sym (unread_refilled buffer w after r refilled));
      all = ended;
    }

-- and lies within its buffer
pub reads_within : (buffer : List ℕ) (w : Window) (to_read after : List ℕ) (v : Window) (rest : List ℕ) → Within w (length buffer) → Reads buffer w to_read after v rest
    → Within v (length after)
reads_within buffer w to_read _ _ _ lies stays = lies
reads_within buffer w to_read _ _ _ lies (refills after r refilled size rest more ended) = (omega (arith, refilled.front), omega (arith, refilled.within, size))

-- A progress from which the rest of a text is printed: its windows follow the files from two places, and what is printed from there on, or after the last step
-- the last line, is all that is left of the text.
record Prints (normal_file redundant_file callers : List ℕ) (ours : ℕ) (normal redundant : List ℕ) (p : Progress) (normal_to_read redundant_to_read printed text : List ℕ) : Type 0 where
  normal_place : ℕ
  redundant_place : ℕ
  lies : Lies p (length normal) (length redundant)
  follows_normal : Follows normal_file normal_place normal p.normal normal_to_read
  follows_redundant : Follows redundant_file redundant_place redundant p.redundant redundant_to_read
  rest : printed ++ (when p.last answer end_of p.handed_up else cut_from normal_file redundant_file callers ours (reach_of normal_place redundant_place p)) ≡ text

module _ (callers : List ℕ) (ours : ℕ) (state : State) (normal_file redundant_file : List ℕ) where
  prints : {normal redundant : List ℕ} {p : Progress} {normal_to_read redundant_to_read printed : List ℕ}
      → Cuts callers ours state normal_file redundant_file normal redundant p normal_to_read redundant_to_read printed
      → Prints normal_file redundant_file callers ours normal redundant p normal_to_read redundant_to_read printed (cut_of callers ours state normal_file redundant_file)
  unfolding stepped_of
  prints (starts normal redundant) = record {
    normal_place = 0;
    redundant_place = 0;
    lies = ((omega arith, omega arith), (omega arith, omega arith));
    follows_normal = record { next = refl; all = λ e. absurd (false≢true e) };
    follows_redundant = record { next = refl; all = λ e. absurd (false≢true e) };
    rest = refl;
  }
  prints (reads {normal} {redundant} {p} {normal_to_read} {redundant_to_read} {printed} run {normal_after} {redundant_after} {n} {r} {normal_rest} {redundant_rest} on_normal on_redundant) =
      let was = prints run in
      record {
        normal_place = was.normal_place;
        redundant_place = was.redundant_place;
        lies = (
          reads_within normal p.normal normal_to_read normal_after n normal_rest was.lies.0 on_normal,
          reads_within redundant p.redundant redundant_to_read redundant_after r redundant_rest was.lies.1 on_redundant,
        );
        follows_normal = reads_follow normal_file was.normal_place normal p.normal normal_to_read normal_after n normal_rest was.follows_normal on_normal;
        follows_redundant = reads_follow redundant_file was.redundant_place redundant p.redundant redundant_to_read redundant_after r redundant_rest was.follows_redundant on_redundant;
        rest = was.rest;
      }
  prints (steps {normal} {redundant} {p} {normal_to_read} {redundant_to_read} {printed} run goes high_normal high_redundant) =
      let was = prints run in
      let x = reach_of was.normal_place was.redundant_place p in
      let t = taken_from normal_file redundant_file callers ours x in
      let after = stepped_of (taken_at normal redundant callers ours p) p in
      let whole = steps_as_whole normal_file was.normal_place redundant_file was.redundant_place normal redundant callers ours p normal_to_read redundant_to_read was.lies was.follows_normal was.follows_redundant high_normal high_redundant in
      let used = uses normal redundant callers ours p was.lies refl in
      record {
        normal_place = (reached_by t x).normal;
        redundant_place = (reached_by t x).redundant;
        lies = (lies_after (length normal) (length redundant) p after (taken_at normal redundant callers ours p) used was.lies refl).0;
        follows_normal = whole.3;
        follows_redundant = whole.4;
        rest =
            append_assoc printed (line_of (taken_at normal redundant callers ours p)) (when after.last answer end_of after.handed_up else cut_from normal_file redundant_file callers ours (reach_of (reached_by t x).normal (reached_by t x).redundant after))
            ∙ ap (λ (l : List ℕ). printed ++ l)
            (ap₂ (λ (l : List ℕ) (y : Reach). l ++ (when after.last answer end_of y.handed_up else cut_from normal_file redundant_file callers ours y)) whole.0 whole.2
            ∙ ap (λ (b : Bool). line_of t ++ (when b answer end_of (reached_by t x).handed_up else cut_from normal_file redundant_file callers ours (reached_by t x))) whole.1
            ∙ sym (goes_on_lem normal_file redundant_file callers ours x))
            ∙ ap (λ (b : Bool). printed ++ (when b answer end_of p.handed_up else cut_from normal_file redundant_file callers ours x)) (sym goes) ∙ was.rest;
      }

pub pieces_as_whole : PiecesAsWhole
pieces_as_whole callers ours state normal_file redundant_file normal redundant p normal_to_read redundant_to_read printed run last =
    let was = prints callers ours state normal_file redundant_file run in
    ap (λ (b : Bool). printed ++ (when b answer end_of p.handed_up else cut_from normal_file redundant_file callers ours (reach_of was.normal_place was.redundant_place p))) (sym last)
    ∙ was.rest
