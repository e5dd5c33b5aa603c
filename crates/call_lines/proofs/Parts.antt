-- What is delivered is no longer than the message.
-- Assumes nothing.
use Prim.Native.Nat.{ℕ, ◌≤◌}
use mathlib.Core.List.{List}
use native.Mathlib.Omega.{arith}
use lib.ListN.{length, length-take, length-drop}
use Rattle.calls.specs.Calls.{delivered_of}

pub no_longer : (message : List ℕ) (n : ℕ) → length (delivered_of message n) ≤ length message
unfolding delivered_of
no_longer message n = simp (length-take, length-drop) (omega arith)
