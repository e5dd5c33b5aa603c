-- What a call over a row leaves; apart from RowCalls.antt, as `answer` is a word of its rows.
use Rattle.std.specs.Prelude.{ℕ, List}

-- ROW-6, ROW-7: its number, the row, and the answer row
pub record StoredIn : Type 0 where
  pub number : ℕ
  pub row : List ℕ
  pub answer : List ℕ

-- these three, where they are written out
abbrev pub stored : ℕ → List ℕ → List ℕ → StoredIn
stored number row answer = record { number = number; row = row; answer = answer }

-- CALL-OUT: and the out buffer
pub record LeftIn : Type 0 where
  pub said : StoredIn
  pub out : List ℕ

-- made here, of its parts
abbrev pub leaves_in : StoredIn → List ℕ → LeftIn
leaves_in said out = record { said = said; out = out }
