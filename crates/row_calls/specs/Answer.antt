-- ROW-7: what an answer has beside its number, as a row of bytes. The layout is said once, as the list of its widths.
use Rattle.std.specs.Prelude.{ℕ, List, [], ◌∷◌, eqb}
use Rattle.rules.specs.Rows.{when◌answer◌else◌}
use Rattle.field.specs.Row.{row_of, width_of}
use Rattle.clock.specs.Clock.{wrapped}
use Rattle.message.specs.Table.{header_size}
use Rattle.calls.specs.declared.Answer.{Answer}

-- ROW-7: whether it was released, how many bytes were written, where the delivered data stands in the message and how many bytes it
-- has, the age
abbrev pub answer_widths : List ℕ
answer_widths = 1 ∷ 2 ∷ 2 ∷ 2 ∷ 4 ∷ []

-- ROW-7: how many bytes it has
abbrev pub answer_size : ℕ
answer_size = width_of answer_widths

-- ROW-8: delivered data stands behind the header; an empty part is said to stand at 0
unfoldable pub place_of : ℕ → ℕ
place_of delivered = when eqb delivered 0 answer 0 else header_size

-- ROW-7: 1 where it was released; the age in two's complement
abbrev pub answer_numbers : Answer → List ℕ
answer_numbers a =
    (when a.released answer 1 else 0) ∷ a.written ∷ place_of a.delivered ∷ a.delivered ∷ wrapped a.age.0 ∷ []

-- ROW-7: its bytes
unfoldable pub answer_bytes : Answer → List ℕ
answer_bytes a = row_of answer_widths (answer_numbers a)
