-- `cut::Recorded::topped_up` meets its contract where the window is not low: it is as it was, and no read was made. Assumes nothing.
use Rattle.std.proofs.Common.{◌≡◌, false, refl, sym, ◌∙◌, rules}
use mathlib.Core.Bool.{false≢true}
use Rattle.window.specs.Window.{low_of, as_it_was}
use Rattle.recording.specs.Whole.{WindowToppedUp}
use Rattle.cut.proofs.Recorded.topped_up.Goals as goal

pub returns-then-not-low : goal.returns-then-not-low
returns-then-not-low g c =
    let a = c.args in
    let high : low_of a.most a.window ≡ false = sym c.low.ensures ∙ c.if-not-low.true in
    let up : WindowToppedUp a.most a.buffer.now a.window a.buffer.now a.window = record {
      refilled = as_it_was a.window;
      given = refl;
      up = record { low = λ low. absurd (false≢true (sym high ∙ low)); not_low = λ _. (refl, refl) };
      high = high;
      read = refl;
    } in
    (up, search rules)
