-- The turns of a piece whose text is put into a lent buffer at a place, by a part of it.
-- Assumes nothing.
use Rattle.std.specs.Prelude.{ℕ, ◌-◌, ◌≡◌, List, length}
use Rattle.text.specs.Text.{PutAt}
use Rattle.window.specs.declared.Window.{Window}
use Rattle.pieces.specs.Machine.{Machine}
use Rattle.pieces.specs.Pieces.{piece_from}

module _ {State : Type 0} where
  -- All that the bytes at hand and the room behind that place allow. The turns were lent the bytes `lent`, and left them as `lent_after`.
  pub record AdvancedAt (m : Machine State) (buffer : List ℕ) (p : State) (w : Window) (lent before : List ℕ) (at : ℕ)
      (lent_after after : List ℕ) (q : State) (v : Window) (next : ℕ) : Type 0 where
    pub state : q ≡ (piece_from m (length before - at) buffer p w lent).state
    pub window : v ≡ (piece_from m (length before - at) buffer p w lent).window
    pub put : PutAt before at (piece_from m (length before - at) buffer p w lent).text after next
    pub leaves : lent_after ≡ (piece_from m (length before - at) buffer p w lent).lent

  -- OPEN-2: two results that one input allows agree: in the state, in the window, in the place, and in every byte of both buffers.
  abbrev pub AdvancesAtAgree : Machine State → Type 0
  AdvancesAtAgree m =
      (buffer : List ℕ) (p : State) (w : Window) (lent before : List ℕ) (at : ℕ) (lent_after lent_after' after after' : List ℕ)
      (q q' : State) (v v' : Window) (next next' : ℕ)
      → AdvancedAt m buffer p w lent before at lent_after after q v next
      → AdvancedAt m buffer p w lent before at lent_after' after' q' v' next'
      → (q ≡ q') × (v ≡ v') × (next ≡ next') × (lent_after ≡ lent_after') × (after ≡ after')
