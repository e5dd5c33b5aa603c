-- Two results that one input allows to the turns of a piece agree.
-- Assumes nothing.
use mathlib.Core.Path.{sym, ◌∙◌}
use Rattle.text.proofs.Puts.{puts_agree, puts_at_agree}
use Rattle.pieces.specs.Machine.{Machine}
use Rattle.pieces.specs.Pieces.{AdvancesAgree}
use Rattle.pieces.specs.InPlace.{AdvancesAtAgree}

pub advances_agree : {State : Type 0} (m : Machine State) → AdvancesAgree m
advances_agree m size buffer p w lent before lent_after lent_after' after after' q q' v v' one other =
    (one.state ∙ sym other.state, one.window ∙ sym other.window, one.leaves ∙ sym other.leaves, puts_agree before _ after after' one.put other.put)

-- and so where their text is put into a lent buffer
pub advances_at_agree : {State : Type 0} (m : Machine State) → AdvancesAtAgree m
advances_at_agree m buffer p w lent before at lent_after lent_after' after after' q q' v v' next next' one other =
    let put = puts_at_agree before at _ after after' next next' one.put other.put in
    (one.state ∙ sym other.state, one.window ∙ sym other.window, put.1, one.leaves ∙ sym other.leaves, put.0)
