-- The rows of class D, one law a row: which tests pick it.
-- Assumes nothing.
use Prim.Native.Nat.{ℕ}
use mathlib.Core.Path.{◌≡◌}
use mathlib.Core.Bool.{Bool, true, false}
use mathlib.Core.List.{List}
use Rattle.number.specs.Number.{distance_of}
use Rattle.packet_types.specs.Types.{in_class_d}
use Rattle.packet.specs.declared.Header.{Header}
use Rattle.links.specs.declared.State.{State}
use Rattle.links.specs.Taken.{dropped, handed_up}
use Rattle.links.specs.Callers.{not_allowed}
use Rattle.links.specs.Table.{not_opening, not_later, too_far, class_d_rows}

module _ (normal : Bool) (at : ℕ) (header : Header) (user_data callers : List ℕ) (ours : ℕ) (state : State) where
  -- the first packet
  module _ (k : in_class_d header.kind ≡ true) (f : state.first ≡ true) where
    module _ (o : not_opening state.responder header user_data ≡ false) where
      pub row_allowed : state.responder ≡ true → not_allowed callers ours user_data ≡ false
          → handed_up normal at header state ≡ class_d_rows normal at header user_data callers ours state
      unfolding class_d_rows
      row_allowed r a = simp (k, f, rw r at o, r, a)

      -- the initiator's
      pub row_answered : state.responder ≡ false → handed_up normal at header state ≡ class_d_rows normal at header user_data callers ours state
      unfolding class_d_rows
      row_answered r = simp (k, f, rw r at o, r)

  -- a later packet, d past the last one
  module _ (k : in_class_d header.kind ≡ true) (f : state.first ≡ false) (d : ℕ) (e : d ≡ distance_of header.number state.last) where
    pub row_306 : not_later header.kind d ≡ true → dropped 306 normal header state ≡ class_d_rows normal at header user_data callers ours state
    unfolding class_d_rows
    row_306 l = simp (k, f, rw e at l)

    module _ (l : not_later header.kind d ≡ false) where
      pub row_307 : too_far state.strict d ≡ true → dropped 307 normal header state ≡ class_d_rows normal at header user_data callers ours state
      unfolding class_d_rows
      row_307 g = simp (k, f, rw e at l, rw e at g)

      pub row_later : too_far state.strict d ≡ false → handed_up normal at header state ≡ class_d_rows normal at header user_data callers ours state
      unfolding class_d_rows
      row_later g = simp (k, f, rw e at l, rw e at g)
