-- What is handed up is no longer than the longer link.
-- Assumes nothing.
use Rattle.std.proofs.Common.{ℕ, ◌≤◌, List, length, arith, length-take, length-drop}
use Rattle.std.proofs.lemmas.Grind.{common_steps}
use Rattle.links.specs.declared.Taken.{Taken}
use Rattle.links.specs.Table.{user_data_of}

pub user_data_within : (normal redundant : List ℕ) (taken : Taken) (m : ℕ) → length normal ≤ m → length redundant ≤ m → length (user_data_of normal redundant taken) ≤ m
unfolding user_data_of
user_data_within normal redundant taken m h k = grind (arith, common_steps, length-take {A = ℕ}, length-drop {A = ℕ})
