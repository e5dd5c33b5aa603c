-- A window on no bytes lies within any buffer.
-- Assumes nothing.
use Prim.Native.Nat.{ℕ}
use mathlib.Core.Path.{◌≡◌, sym, subst}
use native.Mathlib.Omega.{arith}
use Rattle.window.specs.Window.{empty_window, Within}
use Rattle.window.specs.declared.Window.{Window}

pub none_within : (w : Window) (room : ℕ) → w ≡ empty_window → Within w room
none_within w room e = subst (λ (v : Window). Within v room) (sym e) (omega arith)
