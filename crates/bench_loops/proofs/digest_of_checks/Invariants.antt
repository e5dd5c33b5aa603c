-- `bench_loops::digest_of_checks` meets its contract: the checks of the headers that are left, folded into the digest as it is, give the answer.
-- Assumes nothing.
use Rattle.std.proofs.Common.{◌≡◌, ◌-◌, ◌*◌}
use Rattle.bench_loops.specs.Digest.{checks_from, digest_from, digest_of_checks}
use Rattle.bench_loops.proofs.digest_of_checks.Given as goal

abbrev pub invariant-loop-k : goal.invariant-loop-k
invariant-loop-k l = digest_from l.digest (checks_from (l.headers - l.k) l.s (l.k * 10)) ≡ digest_of_checks l.s
