-- What a call on a slot leaves; apart from Table.antt, as `answer` is a word of its rows.
use Rattle.std.specs.Prelude.{ℕ, List}
use Rattle.connection.specs.declared.Connection.{Connection}
use Rattle.calls.specs.declared.Answer.{Answer}

-- CALL-SAYS, TABLE-3, CALL-OUT: what it says, the table, and its out buffer
pub record LeftAt : Type 0 where
  pub answer : Answer
  pub table : List Connection
  pub out : List ℕ

-- these three, where they are written out
abbrev pub leaves_at : Answer → List Connection → List ℕ → LeftAt
leaves_at answer table out = record { answer = answer; table = table; out = out }
