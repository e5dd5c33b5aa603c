-- `calls::put` meets its contract: the writer takes what is sent, and writes it whole. Assumes nothing.
use mathlib.Core.Path.{ap, ◌∙◌}
use lib.ListN.{length}
use lib.Seq.{sets}
use Rattle.calls.proofs.Replies.{put_is}
use Rattle.calls.proofs.put.Goals as goal

pub returns-in-Some : goal.returns-in-Some
returns-in-Some c =
    let x = put_is c.args.reply _ c.args.lent.now c.args.out.now c.in-Some.is c.requires in
    let w = c.write.ensures in
    (w.0 ∙ ap length x, w.1 ∙ ap (sets c.args.out.now 0) x)
