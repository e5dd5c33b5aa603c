-- `bench_loops::digest_of_checks` meets its contract: the checks of the headers that are left, folded into the digest as it is, give the answer.
-- Assumes nothing.
use Rattle.std.proofs.Common.{ℕ, ◌+◌, ◌-◌, ◌*◌, ◌/◌, length, sym, ap, ◌∙◌, arith, ◌≡◌}
use Rattle.bench_loops.specs.Digest.{checks_from, fold_of, digest_from}
use Rattle.bench_loops.proofs.Digest.{header_more, header_end}
use Rattle.bench_loops.proofs.digest_of_checks.Goals as goal

pub loop-k-preserved : goal.loop-k-preserved
loop-k-preserved c =
    let l = c.loop-k in
    let s = c.args.s.now in
    let m = length s / 10 in
    let next : (l.k + 1) * 10 ≡ l.k * 10 + 10 = omega arith in
    ap (λ (at : ℕ). digest_from c.folded-digest.result (checks_from (m - (l.k + 1)) s at)) next
    ∙ ap (λ (d : ℕ). digest_from d (checks_from (m - (l.k + 1)) s (l.k * 10 + 10)))
    (c.folded-digest.ensures ∙ ap (fold_of l.digest) c.check_either_way.ensures)
    ∙ sym (header_more m l.k s (l.k * 10) l.digest (omega arith))
    ∙ l.invariant

pub returns : goal.returns
returns c =
    let l = c.loop-k in
    let s = c.args.s.now in
    sym (header_end (length s / 10) l.k s (l.k * 10) l.digest (omega arith)) ∙ l.invariant
