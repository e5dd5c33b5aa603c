-- That the window of an input lies within its buffer.
-- Assumes nothing.
use Rattle.std.specs.Prelude.{ℕ, List, ◌≡◌, length}
use mathlib.Core.Path.{subst, sym}
use Rattle.window.specs.declared.Window.{Window}
use Rattle.window.specs.Window.{Within}

pub input_lies : (size : ℕ) (buffer : List ℕ) (window : Window) → length buffer ≡ size → Within window size → Within window (length buffer)
input_lies size buffer window long within = subst (λ (n : ℕ). Within window n) (sym long) within
