-- Where the user data stands: not only the bytes of what is handed up are said, but which bytes of memory they are.
-- Assumes nothing.
use Rattle.std.specs.Prelude.{ℕ, ◌+◌, cond, List, eqb, leb, length}
use Rattle.std.specs.Borrow.{Bor}
use Rattle.rules.specs.Rows.{when◌answer◌else◌}
use Rattle.links.specs.declared.Taken.{Taken}

-- LINK-PART: the place of a part of a slice, so many bytes behind the slice's own place, in the same block of memory; where the part
-- does not lie within, the slice's own
abbrev pub part_place : Bor (List ℕ) → ℕ → ℕ → ℕ × ℕ
part_place s start size = when (leb (start + size) (length s.now)) answer (s.ref_ptr.0, s.ref_ptr.1 + start) else s.ref_ptr

-- LINK-PART: the place of what is handed up; LINK-EMPTY: the empty part of another answer stands at the front of the normal link's
-- slice
unfoldable pub user_data_place : Bor (List ℕ) → Bor (List ℕ) → Taken → ℕ × ℕ
user_data_place normal redundant taken =
    when (eqb taken.answer 0) answer part_place (cond taken.normal normal redundant) taken.start taken.size else
    normal.ref_ptr
