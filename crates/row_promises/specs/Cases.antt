-- CALL-109 on both sides of each bound: rows, and the number that reading gives each.
use Rattle.std.specs.Prelude.{ℕ, Bool, true, ◌&&◌, List, [], ◌∷◌, ◌++◌, eqb, replicate, take}
use Rattle.field.specs.Row.{row_of}
use Rattle.connection_row.specs.Row.{row_widths}
use Rattle.connection_row.specs.Stored.{row_refusal}

-- a row by what is judged of it: the phase, N, T_max, E, T_start, T_off, the error limit, the error counter
abbrev pub row_with : ℕ → ℕ → ℕ → ℕ → ℕ → ℕ → ℕ → ℕ → List ℕ
row_with phase n t_max_lem e t-start t-off limit errors =
    row_of row_widths
    (phase ∷ n ∷ t_max_lem ∷ e ∷ t-start ∷ t-off ∷ limit ∷ 8 ∷ 50 ∷ 65535 ∷ 300 ∷ 1170 ∷ 0 ∷ 830 ∷ 880 ∷ errors ∷ 1170 ∷ [])

-- a row and its number
pub record RowCase : Type 0 where
  pub row : List ℕ
  pub number : ℕ

infix 10 ◌gets◌
-- made here, of its parts
abbrev pub ◌gets◌ : List ℕ → ℕ → RowCase
row gets number = record { row = row; number = number }

-- CALL-109: ROW-2 to ROW-4, the last on one side and the first on the other
abbrev pub row_cases : List RowCase
row_cases =
    (row_with 1 3 40 0 500 10 3 0 gets 0)
    ∷ (row_with 6 3 40 0 500 10 3 0 gets 0)
    ∷ (row_with 7 3 40 0 500 10 3 0 gets 109)
    ∷ (row_with 255 3 40 0 500 10 3 0 gets 109)
    ∷ (row_with 6 0 40 0 500 10 3 0 gets 109)
    ∷ (row_with 6 1 40 0 500 10 3 0 gets 0)
    ∷ (row_with 6 1000 40 0 500 10 3 0 gets 0)
    ∷ (row_with 6 1001 40 0 500 10 3 0 gets 109)
    ∷ (row_with 6 3 0 0 500 10 3 0 gets 109)
    ∷ (row_with 6 3 1 0 500 10 3 0 gets 0)
    ∷ (row_with 6 3 60000 0 500 10 3 0 gets 0)
    ∷ (row_with 6 3 60001 0 500 10 3 0 gets 109)
    ∷ (row_with 6 3 40 40 500 10 3 0 gets 0)
    ∷ (row_with 6 3 40 41 500 10 3 0 gets 109)
    ∷ (row_with 6 3 40 0 0 10 3 0 gets 109)
    ∷ (row_with 6 3 40 0 1 10 3 0 gets 0)
    ∷ (row_with 6 3 40 0 60000 10 3 0 gets 0)
    ∷ (row_with 6 3 40 0 60001 10 3 0 gets 109)
    ∷ (row_with 6 3 40 0 500 0 3 0 gets 0)
    ∷ (row_with 6 3 40 0 500 60000 3 0 gets 0)
    ∷ (row_with 6 3 40 0 500 60001 3 0 gets 109)
    ∷ (row_with 6 3 40 0 500 10 0 0 gets 109)
    ∷ (row_with 6 3 40 0 500 10 1 0 gets 0)
    ∷ (row_with 6 3 40 0 500 10 255 254 gets 0)
    ∷ (row_with 6 3 40 0 500 10 255 255 gets 109)
    ∷ (row_with 6 3 40 0 500 10 3 2 gets 0)
    ∷ (row_with 6 3 40 0 500 10 3 3 gets 109)
    -- closed: all zero, and with the last byte, the first behind the phase, or all but the phase left over
    ∷ (replicate 53 0 gets 0)
    ∷ (replicate 52 0 ++ (1 ∷ []) gets 109)
    ∷ (0 ∷ 1 ∷ replicate 51 0 gets 109)
    ∷ (row_with 0 3 40 0 500 10 3 0 gets 109)
    -- another length
    ∷ ([] gets 109)
    ∷ (replicate 52 0 gets 109)
    ∷ (replicate 54 0 gets 109)
    ∷ (take 52 (row_with 6 3 40 0 500 10 3 0) gets 109)
    ∷ (row_with 6 3 40 0 500 10 3 0 ++ (0 ∷ []) gets 109)
    ∷ []

-- each has its number
abbrev pub all_get : List RowCase → Bool
all_get [] = true
all_get (c ∷ cs) = eqb (row_refusal c.row) c.number && all_get cs
