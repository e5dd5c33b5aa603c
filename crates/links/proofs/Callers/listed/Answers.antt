-- `links::Callers::listed` meets its contract: the pieces of the list give its ids (proofs/Ids).
-- Assumes nothing.
use mathlib.Core.Path.{◌∙◌}
use borrow.Author.Rules.{rules}
use borrow.Author.Tests.{tests}
use lib.Dec.{eqb}
use Rattle.std.proofs.lemmas.Iterator.Search.{any_from_yields_List}
use Rattle.links.specs.Callers.{listed, callers_of}
use Rattle.links.proofs.Ids.{pieces_give_ids, any_is_one_of}
use Rattle.links.proofs.Callers.listed.Goals as goal

pub returns : goal.returns
unfolding listed
returns c =
    let a = c.args in
    any_from_yields_List (λ i. eqb i a.id) _ _ _ c.any.ensures.ran
    (pieces_give_ids a.self.list.now c.chunks_exact.result c.chunks_exact.ensures.rest c.chunks_exact.ensures.size) (λ x b q k. search (rules, tests))
    ∙ any_is_one_of a.id (callers_of a.self.list.now)
