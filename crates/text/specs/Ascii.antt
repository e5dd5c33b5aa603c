-- Words in ASCII: the codes of a quoted text's characters.
-- Assumes nothing.
use Rattle.std.specs.Prelude.{ℕ, List, [], ◌∷◌}
use Prim.Native.Char.{code}
use Prim.Native.String.{String}
use Prim.Native.String as string

-- a code for each character
abbrev pub ascii : String → List ℕ
ascii string.[] = []
ascii (string.◌∷◌ c text) = code c ∷ ascii text
