-- A table of the rules as rows, in the rules' order: ORDER-1.
use Rattle.std.specs.Prelude.{Bool, true, false}

-- ORDER-1: the first row that applies gives the answer
infixr 1 when◌answer◌else◌
abbrev pub when◌answer◌else◌ : {A : Type 0} → Bool → A → A → A
when true answer a else rest = a
when false answer a else rest = rest
