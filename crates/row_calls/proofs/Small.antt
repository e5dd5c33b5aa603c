-- What a call writes and delivers is no longer than a message, so that it fits the two bytes that an answer row has for it.
-- Assumes nothing.
use Prim.Native.Nat.{ℕ, ◌+◌, ◌^◌, ◌<◌, ◌≤◌}
use Rattle.std.proofs.lemmas.Bool.{and_parts}
use mathlib.Core.Path.{◌≡◌}
use mathlib.Core.Bool.{true, not}
use mathlib.Core.List.{List}
use native.Mathlib.Omega.{arith}
use lib.Dec.{leb, eqb}
use lib.ListN.{length}
use Rattle.clock.specs.declared.Count.{Count}
use Rattle.message.specs.Table.{application, most_message, table_of, lists, total_of}
use Rattle.message.specs.Read.{message_header_of, parsed_of}
use Rattle.message.specs.declared.Header.{Header}
use Rattle.message.specs.declared.Tail.{Tail}
use Rattle.std.proofs.Common.{Option, Some, None}
use Rattle.message.specs.declared.Message.{Message}
use Rattle.message.specs.Layout.{whole}
use Rattle.message.proofs.Rows.{every_row, at_most}
use Rattle.message.proofs.Accepted.{accepted, accepted_data}
use Rattle.message_writing.specs.Writing.{allowed_of, writes}
use Rattle.message_writing.proofs.Steps.{allowed_parts, size_is_total}
use Rattle.connection.specs.declared.Connection.{Connection}
use Rattle.connection.specs.Connection.{clocked, heard}
use Rattle.what_follows.specs.declared.Outcome.{Outcome}
use Rattle.what_follows.specs.Follows.{start_taken, answ1_taken, answ2_taken, est_taken, end_taken, data_taken, message_taken, refusing, raised}
use Rattle.calls.specs.declared.Call.{Call}
use Rattle.calls.specs.declared.Answer.{Answer}
use Rattle.calls.specs.Calls.{
  close_refusal,
  send_refusal,
  begin_refusal,
  receive_outcome,
  close_outcome,
  send_outcome,
  begin_outcome,
  outcome_of,
  initiator,
  reply_bytes,
  writable,
  made,
}
use Rattle.calls.proofs.Replies.{both, call_whole}
use Rattle.promises.proofs.Promises.{receive_by, tick_by}
use Rattle.promises.proofs.Opening.{Expects, expected_is}
use Rattle.promises.proofs.Delivery.{is_data}

-- a total that is listed is no more than the most of a message
most_row : (type : ℕ) → (table_of type).most ≤ most_message
unfolding table_of
most_row =
    every_row (λ row. row.most ≤ most_message) (omega arith) (omega arith) (omega arith) (omega arith) (omega arith) (omega arith) (omega arith)

listed_small : (type n : ℕ) → lists (table_of type) n ≡ true → n ≤ most_message
listed_small type n e = let m : n ≤ (table_of type).most = at_most (table_of type) n e in omega (arith, most_row type)

written_small : (reply : Option Message) (room : ℕ) (lent : List ℕ) → writable reply room (length lent) ≡ true → length (reply_bytes reply lent) ≤ most_message
unfolding writes
written_small None room lent e = omega arith
written_small (Some m) room lent e =
    let a : allowed_of m.header m.tail (length lent) ≡ true = (and_parts (allowed_of m.header m.tail (length lent)) (leb (total_of (table_of m.header.kind) (length lent)) room) e).0 in
    omega (arith, size_is_total m.header m.tail lent a, listed_small m.header.kind _ (allowed_parts m.header m.tail (length lent) a).total_listed)

-- so many bytes of a message
abbrev Few : Outcome → Type 0
Few o = o.delivered ≤ most_message

data_small : (message : List ℕ) (h : Header) (t : Tail) → parsed_of message ≡ Some (whole h t) → h.kind ≡ application → t.«data» ≤ most_message
data_small message h t w k =
    omega (arith, accepted_data message h t w k, listed_small (message_header_of message).kind (length message) (accepted message h t w).total_listed)

module _ (c : Connection) (now : Count) (message : List ℕ) where
  taken_few : (h : Header) (t : Tail) → parsed_of message ≡ Some (whole h t) → Expects c.phase h.kind → Few (message_taken c now h t)
  unfolding message_taken start_taken answ1_taken answ2_taken est_taken end_taken data_taken
  taken_few h t w (Expects.x1 p k) = rw k (omega arith)
  taken_few h t w (Expects.x2 p k) = rw k (omega arith)
  taken_few h t w (Expects.x3 p k) = rw k (omega arith)
  taken_few h t w (Expects.x4 p k) = rw k (omega arith)
  taken_few h t w (Expects.x5 p k) = rw k (omega arith)
  taken_few h t w (Expects.x6 p k) = rw k (data_small message h t w k)

  raised_few : (d : Connection) (k n : ℕ) → n ≤ most_message → Few (raised d k n)
  unfolding raised
  raised_few d k n l = both Few (leb d.settings.limit (d.errors + 1)) _ _ (λ _. l) (λ _. l)

  receive_few : (room : ℕ) → Few (receive_outcome c now message room)
  unfolding refusing
  receive_few room =
      receive_by Few (λ _ _ x. x) c now message room (λ _. omega arith) (λ _ _. omega arith)
      (λ _. record {
        malformed_open = λ _. omega arith;
        malformed_set_up = λ _. omega arith;
        unexpected = λ _. omega arith;
        unexpected_set_up = λ _. omega arith;
        taken = λ h t w x _. taken_few h t w (expected_is c.phase h.kind x);
        refusing = λ _ _. omega arith;
        in_set_up = λ _ _ _. omega arith;
        dropped = λ _. raised_few (clocked c now) 202 0 (omega arith);
        too_far_lem = λ _. omega arith;
        after_gap = λ h t w x o. raised_few (heard (clocked c now) h now) 204 t.«data» (data_small message h t w
            (is_data c now message h (expected_is c.phase h.kind x) o));
        raising = λ h _ _ k _ _ _ _. raised_few (heard (clocked c now) h now) k 0 (omega arith);
      })

delivered_few : (call : Call) (c : Connection) (now : Count) (lent : List ℕ) (room : ℕ) → Few (outcome_of call c now lent room)
unfolding begin_outcome send_outcome close_outcome
delivered_few (Call.Begin g) c now lent room =
    both Few (not (eqb (begin_refusal c g room) 0)) _ _ (λ _. omega arith) (λ _. both Few (eqb g.role initiator) _ _ (λ _. omega arith) (λ _. omega arith))
delivered_few Call.Receive c now lent room = receive_few c now lent room
delivered_few Call.Send c now lent room = both Few (not (eqb (send_refusal c now (length lent) room) 0)) _ _ (λ _. omega arith) (λ _. omega arith)
delivered_few Call.Tick c now lent room = tick_by Few c now (λ _. omega arith) (λ _ _. omega arith) (λ _. omega arith)
delivered_few Call.Close c now lent room = both Few (not (eqb (close_refusal c) 0)) _ _ (λ _. omega arith) (λ _. omega arith)

-- of any call
pub record Small (a : Answer) : Type 0 where
  pub written : a.written < 2 ^ 16
  pub delivered : a.delivered < 2 ^ 16

pub answer_small : (call : Call) (c : Connection) (now : Count) (lent out : List ℕ) → Small (made call c now lent out).called.answer
answer_small call c now lent out =
    record {
      written = omega (arith, written_small (outcome_of call c now lent (length out)).reply (length out) lent (call_whole call c now lent (length out)));
      delivered = omega (arith, delivered_few call c now lent (length out));
    }
