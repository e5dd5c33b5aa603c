-- A step over two windows uses no more than they have, so they lie within their buffers after it too; and two results that it allows agree.
-- Assumes nothing.
use Prim.Native.Nat.{ℕ, ◌+◌, ◌≤◌}
use mathlib.Core.Path.{◌≡◌, refl, sym, subst, ◌∙◌}
use mathlib.Core.Bool.{Bool, true, false, cond, false≢true}
use mathlib.Core.List.{List}
use native.Mathlib.Omega.{arith}
use lib.Dec.{eqb}
use lib.ListN.{length, take}
use lib.Seq.{length-take-le}
use Rattle.window.specs.Window.{Within, used_of}
use Rattle.window.specs.declared.Window.{Window}
use Rattle.links.specs.declared.Taken.{Taken}
use Rattle.link_promises.proofs.Promises.{uses_no_more_than_lent}
use Rattle.recording.specs.Progress.{taken_at, counted_of, stepped_of, UsesNoMore, Lies, AdvancesAgree}
use Rattle.recording.specs.InPlace.{AdvancesAtAgree}
use Rattle.text.proofs.Puts.{puts_at_agree}
use Rattle.recording.specs.declared.Progress.{Progress}

-- what is within the link that is named, said of each link
by_link : (normal : Bool) (n r used : ℕ) (ns rs : List ℕ) → cond normal n r + used ≤ length (cond normal ns rs)
    → (normal ≡ true → n + used ≤ length ns) × (normal ≡ false → r + used ≤ length rs)
by_link true n r used ns rs h = (λ e. h, λ e. absurd (false≢true (sym e)))
by_link false n r used ns rs h = (λ e. absurd (false≢true e), λ e. h)

place_within : (normal : Bool) (n r : ℕ) (ns rs : List ℕ) → n ≤ length ns → r ≤ length rs → cond normal n r ≤ length (cond normal ns rs)
place_within true n r ns rs h g = h
place_within false n r ns rs h g = g

pub uses : (normal redundant callers : List ℕ) (ours : ℕ) (p : Progress) {taken : Taken} → Lies p (length normal) (length redundant) → taken ≡ taken_at normal redundant callers ours p
    → UsesNoMore taken p
uses normal redundant callers ours p l e =
    let t = taken_at normal redundant callers ours p in
    let ns = take p.normal.to normal in
    let rs = take p.redundant.to redundant in
    let nl = length-take-le p.normal.to normal l.0.1 in
    let rl = length-take-le p.redundant.to redundant l.1.1 in
    let within = place_within t.normal p.normal.from p.redundant.from ns rs (omega (arith, l.0.0)) (omega (arith, l.1.0)) in
    let lent = uses_no_more_than_lent ns p.normal.from rs p.redundant.from callers ours p.state within in
    let each = by_link t.normal p.normal.from p.redundant.from t.used ns rs lent in
    subst (λ (t : Taken). UsesNoMore t p) (sym e) (λ n. omega (arith, each.0 n), λ r. omega (arith, each.1 r))

-- A step uses bytes of the window of the link that it names, and leaves the other: what each window has, and keeps when it is used, both have after it.
pub step_keeps : (N R : Window → Type 0) (taken : Taken) (p : Progress) → (taken.normal ≡ true → N p.normal → N (used_of taken.used p.normal))
    → (taken.normal ≡ false → R p.redundant → R (used_of taken.used p.redundant)) → N p.normal → R p.redundant
    → N (stepped_of taken p).normal × R (stepped_of taken p).redundant
unfolding stepped_of
step_keeps N R taken p normal redundant n r = by taken.normal refl
  where
    by : (link : Bool) → taken.normal ≡ link → N (stepped_of taken p).normal × R (stepped_of taken p).redundant
    by true e = rw e (normal e n, r)
    by false e = rw e (n, redundant e r)

-- at most one packet more is counted
counts_one : (handed_up : ℕ) (handed : Bool) → cond handed (handed_up + 1) handed_up ≤ handed_up + 1
counts_one handed_up true = omega arith
counts_one handed_up false = omega arith

pub lies_after : (ns rs : ℕ) (p after : Progress) (taken : Taken) → UsesNoMore taken p → Lies p ns rs → after ≡ stepped_of taken p
    → Lies after ns rs × (after.handed_up ≤ p.handed_up + 1)
unfolding stepped_of counted_of
lies_after ns rs p after taken u l e =
    subst (λ (q : Progress). Lies q ns rs × (q.handed_up ≤ p.handed_up + 1)) (sym e) (
      step_keeps (λ (w : Window). Within w ns) (λ (w : Window). Within w rs) taken p (λ named was. (u.0 named, was.1)) (λ named was. (u.1 named, was.1)) l.0 l.1,
      counts_one p.handed_up (eqb taken.answer 0),
    )

pub advances_agree : AdvancesAgree
advances_agree normal redundant callers ours p before after after' r r' one other = (one.put ∙ sym other.put, one.progress ∙ sym other.progress)

-- and so where its line is put into a lent buffer
pub advances_at_agree : AdvancesAtAgree
advances_at_agree normal redundant callers ours p before at after after' r r' next next' one other =
    let put = puts_at_agree before at _ after after' next next' one.put other.put in
    (put.0, one.progress ∙ sym other.progress, put.1)
