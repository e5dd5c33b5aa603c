-- Which messages the round trips of DEMAND-2 are about.
use Rattle.std.specs.Prelude.{ℕ, ◌<◌, ◌^◌, ◌≡◌, true, List, length}
use Rattle.std.specs.Int.Signed.{mag}
use Rattle.message.specs.Table.{table_of}
use Rattle.message.specs.Layout.{period_tail, empty_tail, offsets_tail, check_tail, data_tail}
use Rattle.message_writing.specs.Writing.{allowed_of}
use Rattle.message.specs.declared.Header.{Header}
use Rattle.message.specs.declared.Tail.{Tail}
use Rattle.message.specs.declared.After.{After}
use Rattle.message.specs.declared.After.TheVariants.{Period, Nothing, Offsets, Check, Data}

-- DEMAND-2: what a header and a tail of machine numbers hold: u8, u16, u32, and i32 for an offset
pub record Ranges (h : Header) (t : Tail) : Type 0 where
  pub kind : h.kind < 2 ^ 8
  pub number : h.number < 2 ^ 16
  pub stamp : h.stamp.0 < 2 ^ 32
  pub last_peer_stamp : h.last_peer_stamp.0 < 2 ^ 32
  pub arrival : h.arrival.0 < 2 ^ 32
  pub period : t.period < 2 ^ 32
  pub min : mag t.min.0 < 2 ^ 31
  pub max : mag t.max.0 < 2 ^ 31
  pub check : t.check < 2 ^ 8

-- MSG-FIELDS: what a type has of a tail; the rest is 0
abbrev pub only_of : After → Tail → Tail
only_of Period t = period_tail t.period
only_of Nothing t = empty_tail
only_of Offsets t = offsets_tail t.min t.max
only_of Check t = check_tail t.check
only_of Data t = data_tail t.«data»

-- DEMAND-2: a message that the table allows, whose tail has nothing but what its type has (MSG-FIELDS)
pub record Allowed (h : Header) (t : Tail) (lent : List ℕ) : Type 0 where
  pub by_table : allowed_of h t (length lent) ≡ true
  pub only : only_of (table_of h.kind).after t ≡ t
