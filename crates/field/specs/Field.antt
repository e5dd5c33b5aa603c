-- FIELD-1: the number that bytes make, and the bytes that a number makes, highest byte first; OPEN-5: over the width.
use Rattle.std.specs.Prelude.{ℕ, zero, suc, ◌+◌, ◌*◌, ◌/◌, ◌%◌, List, [], ◌∷◌, ◌++◌, get_or}

-- FIELD-1: the number in the w bytes of s from at; OPEN-5: of any width
unfoldable pub field_of : List ℕ → ℕ → ℕ → ℕ
field_of s at zero = 0
field_of s at (suc w) = field_of s at w * 256 + get_or s (at + w) 0

-- FIELD-1: the w bytes of x
unfoldable pub bytes_of : ℕ → ℕ → List ℕ
bytes_of zero x = []
bytes_of (suc w) x = bytes_of w (x / 256) ++ (x % 256 ∷ [])
