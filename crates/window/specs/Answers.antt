-- What a read answers: how many bytes it gave, at most as many as it had room for, or why it failed.
-- Assumes nothing.
use Rattle.std.specs.Prelude.{ℕ, ◌≤◌, min, ⊤, Result, Ok, Err}

-- what a read with room for n bytes may answer
abbrev pub Moved : {E : Type 0} → ℕ → Result ℕ E → Type 0
Moved n (Ok k) = k ≤ n
Moved n (Err why) = ⊤

-- how many bytes it gave: none where it failed, and never more than it had room for
abbrev pub clamp_len : {E : Type 0} → Result ℕ E → ℕ → ℕ
clamp_len (Ok k) most = min k most
clamp_len (Err why) most = 0
