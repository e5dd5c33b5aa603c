-- `field::copy` meets its contract: after i turns the first i bytes of s stand in out. Assumes nothing.
use Rattle.field.proofs.Stores.{copied}
use Rattle.field.proofs.copy.Goals as goal

pub loop-i-preserved : goal.loop-i-preserved
loop-i-preserved c =
    let a = c.args in
    let l = c.loop-i in
    rw l.invariant (copied a.s.now a.out.now a.at l.i c.loop-i-test.true)
