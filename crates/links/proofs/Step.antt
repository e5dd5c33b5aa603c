-- One step: which link is looked at, one law a case.
-- Assumes nothing.
use Prim.Native.Nat.{ℕ}
use mathlib.Core.Path.{◌≡◌, ◌∙◌}
use mathlib.Core.Bool.{true, false, and-false}
use mathlib.Core.List.{List}
use Rattle.packet.specs.Packet.{packet_header_at, user_data_at}
use Rattle.links.specs.declared.State.{State}
use Rattle.links.specs.Taken.{nothing_changes}
use Rattle.links.specs.Table.{held, both_down, class_d_rows, rows_of, taken_of}
use Rattle.links.proofs.LinkRows.{row_308, row_301}

-- a link that is up is not down
pub normal_up : (state : State) → state.normal_up ≡ true → both_down state ≡ false
unfolding both_down
normal_up state e = simp e

pub redundant_up : (state : State) → state.redundant_up ≡ true → both_down state ≡ false
unfolding both_down
redundant_up state e = simp (e, and-false)

module _ (normal : List ℕ) (normal_at : ℕ) (redundant : List ℕ) (redundant_at : ℕ) (callers : List ℕ) (ours : ℕ) (state : State) where
  pub at_normal : held state.normal_up normal normal_at ≡ true
      → rows_of true true normal normal_at callers ours state ≡ taken_of normal normal_at redundant redundant_at callers ours state
  unfolding taken_of
  at_normal e = simp e

  -- not at the normal link
  module _ (n : held state.normal_up normal normal_at ≡ false) where
    pub past_normal : rows_of (held state.redundant_up redundant redundant_at) false redundant redundant_at callers ours state
        ≡ taken_of normal normal_at redundant redundant_at callers ours state
    unfolding taken_of
    past_normal = simp n

    pub at_redundant : held state.redundant_up redundant redundant_at ≡ true
        → rows_of true false redundant redundant_at callers ours state ≡ taken_of normal normal_at redundant redundant_at callers ours state
    unfolding taken_of
    at_redundant e = simp (n, e)

    pub at_308 : both_down state ≡ true → nothing_changes 308 state ≡ taken_of normal normal_at redundant redundant_at callers ours state
    at_308 b =
        row_308 (held state.redundant_up redundant redundant_at) false redundant redundant_at state
        (class_d_rows false redundant_at (packet_header_at redundant redundant_at) (user_data_at redundant redundant_at) callers ours state) b
        ∙ past_normal

    pub at_301 : held state.redundant_up redundant redundant_at ≡ false → both_down state ≡ false
        → nothing_changes 301 state ≡ taken_of normal normal_at redundant redundant_at callers ours state
    at_301 e b =
        row_301 (held state.redundant_up redundant redundant_at) false redundant redundant_at state
        (class_d_rows false redundant_at (packet_header_at redundant redundant_at) (user_data_at redundant redundant_at) callers ours state) b e
        ∙ past_normal
