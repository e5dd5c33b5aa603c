-- `calls::make` meets its contract: what it sends is written whole. Assumes nothing.
use lib.ListN.{length}
use Rattle.calls.proofs.Replies.{call_whole}
use Rattle.calls.proofs.make.Goals as goal

pub put-written-requires : goal.put-written-requires
put-written-requires c =
    let a = c.args in
    rw c.outcome_of-o.ensures (call_whole a.call a.c a.now a.lent.now (length a.out.now))
