-- `recording::advance` meets its contract: a step, its line, and the progress after it. Assumes nothing.
use mathlib.Core.Path.{◌∙◌, sym, ap, subst}
use lib.ListN.{length, take}
use Rattle.links.specs.declared.Taken.{Taken}
use Rattle.recording.specs.Printed.{line_of}
use Rattle.link_promises.proofs.Promises.{counts_its_user_data}
use Rattle.recording.specs.Progress.{stepped_of, taken_at, CountsItsData}
use Rattle.text.specs.Text.{Held, put}
use Rattle.text.proofs.Puts.{text_put}
use Rattle.recording.proofs.Windows.{uses, lies_after}
use Rattle.recording.proofs.advance.Goals as goal

pub count_data-size-requires : goal.count_data-size-requires
count_data-size-requires g c =
    let a = c.args in
    let counted = counts_its_user_data (take a.p.normal.to a.normal.now) a.p.normal.from (take a.p.redundant.to a.redundant.now) a.p.redundant.from a.callers.now a.ours a.p.state in record {
      lies = c.requires.lies;
      counts_its_data = subst (λ (t : Taken). CountsItsData a.normal.now a.redundant.now a.p t) (sym c.taken_at-taken.ensures) counted;
    }

pub stepped_of-requires : goal.stepped_of-requires
stepped_of-requires g c =
    let taken = c.taken_at-taken in
    let a = c.args in record {
      uses_no_more = uses a.normal.now a.redundant.now a.callers.now a.ours a.p c.requires.lies taken.ensures;
      handed_up_bound = c.requires.handed_up_bound;
    }

pub returns : goal.returns
returns g c =
    let taken = c.taken_at-taken in
    let line = c.put_counted in
    let a = c.args in
    let ns = length a.normal.now in
    let rs = length a.redundant.now in
    let used = uses a.normal.now a.redundant.now a.callers.now a.ours a.p c.requires.lies taken.ensures in
    let held = g.O.Holds.held a.out.now in
    let step = taken_at a.normal.now a.redundant.now a.callers.now a.ours a.p in
    let put = line.ensures.put ∙ ap (λ (t : Taken). put (line_of t) held) taken.ensures in
    let lies = lies_after ns rs a.p c.stepped_of.result taken.result used c.requires.lies c.stepped_of.ensures in record {
      advanced_to = record {
        progress = c.stepped_of.ensures ∙ ap (λ (t : Taken). stepped_of t a.p) taken.ensures;
        put = ap (λ (h : Held). h.text) put ∙ text_put (line_of step) held;
      };
      put = put;
      same = line.ensures.same;
      lies_2 = (lies.0, lies.1, line.ensures.upper_bound);
      line_len = line.ensures.text_bound;
    }
