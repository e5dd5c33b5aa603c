-- `number::distance_of` meets its contract, by the law of wrapping differences. Assumes nothing.
use Rattle.std.proofs.Common.{arith, rules}
use Rattle.rules.proofs.Modulo.{wrapping_sub}
use Rattle.number.specs.Number.{distance_of}
use Rattle.number.proofs.distance_of.Goals as goal

pub returns : goal.returns
unfolding distance_of
returns c = wrapping_sub c.args.number c.args.last _ 65536 (omega arith) (omega arith) (omega arith) (omega arith)
