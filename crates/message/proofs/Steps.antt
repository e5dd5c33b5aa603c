-- The steps of taking apart, each from what the tests on the way say.
-- Assumes nothing.
use Prim.Native.Nat.{ℕ, ◌<◌}
use mathlib.Core.Path.{◌≡◌, ap, ◌∙◌}
use mathlib.Core.Bool.{true}
use mathlib.Core.List.{List}
use lib.ListN.{length}
use Rattle.message.specs.Table.{header_size, table_of, lists}
use Rattle.message.specs.Read.{message_header_of, tail_of, whole_of, parsed_of}
use Rattle.message.specs.declared.Header.{Header}
use Rattle.message.specs.declared.Tail.{Tail}
use Rattle.message.specs.declared.Listed.{Listed}
use Rattle.std.proofs.Common.{Option, None}
use Rattle.message.proofs.Rows.{short}

pub parsed_short : (s : List ℕ) → length s < header_size → parsed_of s ≡ None
unfolding parsed_of
parsed_short s h = rw (short (message_header_of s).kind (length s) h)

module _ (s : List ℕ) (h : Header) (row : Listed) (e : h ≡ message_header_of s) (f : row ≡ table_of h.kind) where
  abbrev of_type : row ≡ table_of (message_header_of s).kind
  of_type = f ∙ ap (λ (h : Header). table_of h.kind) e

  pub parsed_listed : (read : Option Tail) → read ≡ tail_of row.after s → lists row (length s) ≡ true → parsed_of s ≡ whole_of h read
  unfolding parsed_of
  parsed_listed read q l = rw (q, of_type, e, rw of_type at l)
