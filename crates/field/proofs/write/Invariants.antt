-- `field::write` meets its contract: the i bytes of what is left, put into out as it is, give the answer. Assumes nothing.
use Rattle.std.proofs.Common.{◌≡◌, ℕ, ◌+◌, ◌-◌, ◌^◌, ◌<◌, ◌≤◌, length, rules}
use Rattle.std.proofs.lemmas.List.Edits.{sets}
use Rattle.field.specs.Field.{bytes_of}
use Rattle.field.proofs.write.Given as goal

abbrev pub invariant-loop-i : goal.invariant-loop-i
invariant-loop-i l = sets l.out l.at (bytes_of l.i l.left) ≡ sets l.initial.out l.at (bytes_of l.w l.x)
