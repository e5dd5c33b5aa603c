-- `clock::Count::goes_back` meets its contract: the upper half is what is centred negative. Assumes nothing.
use Rattle.std.proofs.Common.{◌^◌, leb, pos, ◌-ℤ◌, ap, ◌∙◌}
use Rattle.clock.specs.Clock.{goes_back, wait_of}
use Rattle.clock.proofs.Wrapped.{centred_negative}
use Rattle.clock.proofs.Count.goes_back.Goals as goal

pub returns : goal.returns
unfolding goes_back wait_of
returns c =
    let a = c.args in
    ap (leb (2 ^ 31)) c.wait_of.ensures ∙ centred_negative (pos a.self.0 -ℤ pos a.last.0)
