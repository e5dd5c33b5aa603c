-- `clock::Count::wait_of` meets its contract, by the law of wrapping differences. Assumes nothing.
use Rattle.std.proofs.Common.{◌^◌, arith}
use Rattle.rules.proofs.Modulo.{wrapping_sub}
use Rattle.clock.specs.Clock.{wait_of, wrapped}
use Rattle.clock.proofs.Count.wait_of.Goals as goal

pub returns : goal.returns
unfolding wait_of wrapped
returns c = wrapping_sub c.args.self.0 c.args.since.0 _ (2 ^ 32) (omega arith) (omega arith) (omega arith) (omega arith)
