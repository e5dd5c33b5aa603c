-- The replay is a machine as `pieces` asks for.
-- Assumes nothing.
use Prim.Native.Nat.{ℕ, ◌+◌, ◌*◌, ◌≤◌}
use mathlib.Core.Path.{◌≡◌, refl, sym, ap, ◌∙◌}
use mathlib.Core.Bool.{false, false≢true}
use mathlib.Core.List.{List, ◌++◌}
use native.Mathlib.Omega.{arith}
use lib.ListN.{length}
use Rattle.pieces.specs.Machine.{Lawful}
use Rattle.trace.specs.Record.{most_record, record_bytes, record_of}
use Rattle.trace.specs.Call.{made_on}
use Rattle.trace.specs.declared.Next.{Next}
use Rattle.trace.specs.declared.Next.TheVariants.{End, Bad, Whole}
use Rattle.trace.proofs.Records.{whole_fits, reads_no_more, same_bytes}
use Rattle.replay_lines.specs.Printed.{most_line}
use Rattle.replay_lines.specs.Replay.{any_out, replayed, turn_on, turn_of, replay}
use Rattle.replay_lines.specs.declared.Progress.{Progress}
use Rattle.replay_lines.specs.Lines.{line_fits, end_in_line, bad_fits}

used_fits : (p : Progress) (s : List ℕ) → (turn_of p s).used ≤ length s
used_fits p s = by (record_of s) refl
  where
    by : (n : Next) → record_of s ≡ n → (turn_on p n s).used ≤ length s
    by End e = omega arith
    by Bad e = omega arith
    by (Whole r) e = whole_fits s r e

used_or_stopped : (p : Progress) (s : List ℕ) → (turn_of p s).next.stopped ≡ false → 1 ≤ (turn_of p s).used
used_or_stopped p s = by (record_of s)
  where
    by : (n : Next) → (turn_on p n s).next.stopped ≡ false → 1 ≤ (turn_on p n s).used
    by End e = absurd (false≢true (sym e))
    by Bad e = absurd (false≢true (sym e))
    by (Whole r) e = omega arith

-- a turn on bytes that hold the most bytes of a record is the turn on all that follow them
same_turn : (p : Progress) (s rest : List ℕ) → most_record ≤ length s → turn_of p (s ++ rest) ≡ turn_of p s
same_turn p s rest many = ap (λ (n : Next). turn_on p n (s ++ rest)) (reads_no_more s rest many) ∙ by (record_of s) refl
  where
    by : (n : Next) → record_of s ≡ n → turn_on p n (s ++ rest) ≡ turn_on p n s
    by End e = refl
    by Bad e = refl
    by (Whole r) e = ap (replayed p r) (same_bytes s rest r (whole_fits s r e))

text_fits : (p : Progress) (s : List ℕ) → length (turn_of p s).text ≤ most_line
text_fits p s = by (record_of s)
  where
    by : (n : Next) → length (turn_on p n s).text ≤ most_line
    by End = end_in_line _
    by Bad = bad_fits _
    by (Whole r) = let a = (made_on p.table r (record_bytes s r) any_out).answer in line_fits r.slot a.number a.age

pub replay_laws : Lawful replay
replay_laws = record { uses_no_more = used_fits; uses_or_stops = used_or_stopped; sees_no_more = same_turn; prints_no_more = text_fits }

-- a turn counts one record at the most, which has some bytes
pub replay_counts : (p : Progress) (s : List ℕ) → (turn_of p s).next.count ≤ p.count + 1 * (turn_of p s).used
replay_counts p s = by (record_of s)
  where
    by : (n : Next) → (turn_on p n s).next.count ≤ p.count + 1 * (turn_on p n s).used
    by End = omega arith
    by Bad = omega arith
    by (Whole r) = omega arith
