-- `cut::both_topped_up` meets its contract: each window is topped up as its file's. Assumes nothing.
use Rattle.std.proofs.Common.{◌≡◌, false, length, sym, subst, ◌∙◌}
use mathlib.Core.Path.{ap₂}
use Rattle.window.specs.Window.{low_of}
use Rattle.window.specs.declared.Window.{Window}
use Rattle.packet.specs.Sizes.{most_packet}
use Rattle.recording.specs.Progress.{windowed, Lies}
use Rattle.recording.specs.Whole.{BothToppedUp, WindowsToppedUp}
use Rattle.recording.specs.declared.Progress.{Progress}
use Rattle.cut.proofs.both_topped_up.Goals as goal

pub returns : goal.returns
returns g c =
    let a = c.args in
    let n = c.in_ok-first.ensures in
    let r = c.in_ok-second.ensures in
    let not_low : Window → Type 0 = λ (w : Window). low_of most_packet w ≡ false in
    let up : WindowsToppedUp a.normal.now a.redundant.now a.p c.topped_up.new.buffer c.topped_up-2.new.buffer c.windowed.result = record {
      first = n.0.refilled;
      second = r.0.refilled;
      up = record {
        up_normal = n.0.up;
        up_redundant = r.0.up;
        high_normal = subst not_low n.0.given n.0.high;
        high_redundant = subst not_low r.0.given r.0.high;
        read_normal = n.0.read;
        read_redundant = r.0.read;
      };
      with_them = c.windowed.ensures ∙ ap₂ (λ (u v : Window). windowed u v a.p) n.0.given r.0.given;
    } in
    (up, subst (λ (q : Progress). Lies q (length a.normal.now) (length a.redundant.now)) (sym c.windowed.ensures) ((n.1.0, n.1.1), (r.1.0, r.1.1)))
