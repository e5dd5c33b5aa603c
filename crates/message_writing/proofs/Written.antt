-- Each of the six types MSG-1 to MSG-6 is written, where the out buffer has room for its total: how many bytes `write` then answers.
-- Assumes nothing.
use Prim.Native.Nat.{ℕ, ◌+◌, ◌≤◌}
use mathlib.Core.Path.{◌≡◌, refl}
use mathlib.Core.List.{List}
use native.Mathlib.Omega.{arith}
use borrow.Author.Tests.{le-leb, le-ltb, eq-eqb}
use lib.ListN.{length}
use Rattle.clock.specs.declared.Offset.{Offset}
use Rattle.field.specs.Field.{bytes_of}
use Rattle.message.specs.Table.{offset_start, offset_answ1, offset_answ2, offset_est, offset_end, application}
use Rattle.message.specs.Table.{header_size, start_size, est_size, end_size, most_message, most_data, table_of, lists, total_of}
use Rattle.message.specs.Layout.{period_tail, empty_tail, offsets_tail, check_tail, data_tail}
use Rattle.message.specs.Read.{later_stamp, check_over}
use Rattle.message.specs.declared.Header.{Header}
use Rattle.message_writing.specs.Writing.{allowed_of, writes, message_written}

module _ (room : ℕ) (h : Header) (lent : List ℕ) where
  pub start_written : h.kind ≡ offset_start → h.last_peer_stamp.0 ≡ 0 → h.arrival.0 ≡ 0 → (period : ℕ) → start_size ≤ room
      → length (message_written room h (period_tail period) lent) ≡ start_size
  unfolding table_of lists total_of later_stamp check_over allowed_of writes message_written bytes_of
  start_written e p q period r = simp (e, p, q, le-leb start_size room r)

  pub answ1_written : h.kind ≡ offset_answ1 → (period : ℕ) → start_size ≤ room
      → length (message_written room h (period_tail period) lent) ≡ start_size
  unfolding table_of lists total_of later_stamp check_over allowed_of writes message_written bytes_of
  answ1_written e period r = simp (e, le-leb start_size room r)

  pub answ2_written : h.kind ≡ offset_answ2 → header_size ≤ room → length (message_written room h empty_tail lent) ≡ header_size
  unfolding table_of lists total_of later_stamp check_over allowed_of writes message_written bytes_of
  answ2_written e r = simp (e, le-leb header_size room r)

  pub est_written : h.kind ≡ offset_est → (min max : Offset) → est_size ≤ room
      → length (message_written room h (offsets_tail min max) lent) ≡ est_size
  unfolding table_of lists total_of later_stamp check_over allowed_of writes message_written bytes_of
  est_written e min max r = simp (e, le-leb est_size room r)

  pub end_written : h.kind ≡ offset_end → (check : ℕ) → check ≤ 1 → end_size ≤ room
      → length (message_written room h (check_tail check) lent) ≡ end_size
  unfolding table_of lists total_of later_stamp check_over allowed_of writes message_written bytes_of
  end_written e check k r = simp (e, le-ltb 1 check k, le-leb end_size room r)

  pub application_written : h.kind ≡ application → length lent ≤ most_data → header_size + length lent ≤ room
      → length (message_written room h (data_tail (length lent)) lent) ≡ header_size + length lent
  unfolding table_of lists total_of later_stamp check_over allowed_of writes message_written bytes_of
  application_written e k r =
      let n = length lent in
      simp (
        e,
        le-leb header_size (header_size + n) (omega arith),
        le-leb (header_size + n) most_message (omega arith),
        eq-eqb n n refl,
        le-leb (header_size + n) room r,
      ) (omega arith)
