-- How long an input and its text may be.
-- Assumes nothing.
use Rattle.std.specs.Prelude.{ℕ}

-- an input has at most so many bytes
abbrev pub most_input : ℕ
most_input = 262144

-- the text of an input has at most so many bytes, of whichever kind it is
abbrev pub most_text : ℕ
most_text = 300000
