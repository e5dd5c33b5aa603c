-- 01's samples of what the replay prints.
-- Assumes nothing.
use Rattle.std.specs.Prelude.{◌≡◌, [], ◌∷◌}
use Rattle.field.specs.Row.{row_of}
use Rattle.text.specs.Ascii.{ascii}
use Rattle.trace.specs.Record.{widths, mark, tick_kind}
use Rattle.replay_lines.specs.Replay.{replay_of}

-- TRACE-13, TRACE-15: two traces, and what is printed for each
pub record Samples : Type 0 where
  -- TRACE-13: one tick on slot 0
  pub one_tick : replay_of (row_of widths (mark ∷ tick_kind ∷ 0 ∷ 0 ∷ 0 ∷ [])) ≡ ascii "slot answer age\n0 102 0\nend 1\n"
  -- TRACE-15: an empty file
  pub empty : replay_of [] ≡ ascii "slot answer age\nend 0\n"
