-- One piece of a file, by what is called in turn: room for the text, the bytes at hand topped up, and turns on them.
-- Assumes nothing.
use Rattle.std.proofs.Common.{ℕ, ◌≡◌, subst, sym, List}
use Rattle.text.specs.Text.{held_of}
use Rattle.window.specs.Window.{ToppedUp}
use Rattle.window.specs.declared.Window.{Window}
use Rattle.window.specs.declared.Refilled.{Refilled}
use Rattle.pieces.specs.Machine.{Machine}
use Rattle.pieces.specs.Pieces.{AdvancedTo, PieceOf}

module _ {State : Type 0} (m : Machine State) (size : ℕ) (before : List ℕ) (w : Window) (p : State) (lent out : List ℕ) where
  pub piece_of : (room : ℕ) (held topped_buffer after : List ℕ) (topped : Refilled) (most_text most_seen : ℕ) (lent_after out_after : List ℕ) (q : State)
      (v : Window) → room ≡ size → held ≡ held_of most_text size out → most_text ≡ m.most_text → most_seen ≡ m.most_seen → after ≡ topped_buffer
      → ToppedUp most_seen before w topped_buffer topped → AdvancedTo m room topped_buffer p topped.window lent held lent_after out_after q v
      → PieceOf m size before w p lent out after lent_after out_after q v
  piece_of room held topped_buffer after topped most_text most_seen lent_after out_after q v same made text seen stays up advanced = record {
    topped = topped;
    up =
        subst (λ (b : List ℕ). ToppedUp m.most_seen before w b topped) (sym stays)
        (subst (λ (n : ℕ). ToppedUp n before w topped_buffer topped) seen up);
    advanced =
        subst (λ (b : List ℕ). AdvancedTo m size b p topped.window lent (held_of m.most_text size out) lent_after out_after q v) (sym stays)
        (subst (λ (n : ℕ). AdvancedTo m size topped_buffer p topped.window lent (held_of n size out) lent_after out_after q v) text
        (subst (λ (l : List ℕ). AdvancedTo m size topped_buffer p topped.window lent l lent_after out_after q v) made
        (subst (λ (n : ℕ). AdvancedTo m n topped_buffer p topped.window lent held lent_after out_after q v) same advanced)));
  }
