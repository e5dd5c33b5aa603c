-- FIELD-2: a row of fields, one after the other. A format is said once, as the list of its widths.
use Rattle.std.specs.Prelude.{ℕ, ◌+◌, ◌^◌, ◌<◌, List, [], ◌∷◌, ◌++◌}
use Rattle.field.specs.Field.{field_of, bytes_of}

-- FIELD-2: the fields in s, the first of them k bytes past at
abbrev pub fields_from : List ℕ → List ℕ → ℕ → ℕ → List ℕ
fields_from [] s at k = []
fields_from (w ∷ ws) s at k = field_of s (at + k) w ∷ fields_from ws s at (k + w)

-- FIELD-2: the fields in s from at
abbrev pub fields_of : List ℕ → List ℕ → ℕ → List ℕ
fields_of [] s at = []
fields_of (w ∷ ws) s at = field_of s at w ∷ fields_from ws s at w

-- FIELD-2: the bytes of a row of numbers
abbrev pub row_of : List ℕ → List ℕ → List ℕ
row_of [] xs = []
row_of (w ∷ ws) [] = []
row_of (w ∷ ws) (x ∷ xs) = bytes_of w x ++ row_of ws xs

-- FIELD-2: how many bytes a row takes
abbrev pub width_of : List ℕ → ℕ
width_of [] = 0
width_of (w ∷ ws) = w + width_of ws

-- FIELD-2: a number for each field, and each fits its width
abbrev pub FitsRow : List ℕ → List ℕ → Type 0
FitsRow [] [] = Unit {0}
FitsRow [] (x ∷ xs) = ⊥
FitsRow (w ∷ ws) [] = ⊥
FitsRow (w ∷ ws) (x ∷ xs) = (x < 256 ^ w) × FitsRow ws xs

-- FIELD-1: each element is a byte
abbrev pub Bytes : List ℕ → Type 0
Bytes [] = Unit {0}
Bytes (b ∷ bs) = (b < 256) × Bytes bs
