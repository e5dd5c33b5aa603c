-- The bytes that a call writes: they fit the out buffer, and what the out buffer held before is nothing to them.
-- Assumes nothing.
use Prim.Native.Nat.{ℕ, ◌+◌, ◌≤◌}
use mathlib.Core.Path.{◌≡◌, refl, sym, ap, ◌∙◌}
use mathlib.Core.Bool.{Bool, true, false}
use mathlib.Core.List.{List, []}
use native.Mathlib.Omega.{arith}
use borrow.Author.Tests.{leb-true}
use Rattle.std.proofs.lemmas.Bool.{and_parts}
use lib.Dec.{leb}
use lib.ListN.{length, take, drop}
use lib.Seq.{sets, sets-eq, take_at, length-sets}
use Rattle.rules.specs.Rows.{when◌answer◌else◌}
use Rattle.clock.specs.declared.Count.{Count}
use Rattle.message.specs.Table.{table_of, total_of}
use Rattle.message_writing.specs.Writing.{allowed_of, writes}
use Rattle.message_writing.proofs.Steps.{size_is_total}
use Rattle.connection.specs.declared.Connection.{Connection}
use Rattle.std.proofs.Common.{Option, Some, None}
use Rattle.message.specs.declared.Message.{Message}
use Rattle.calls.specs.declared.Call.{Call}
use Rattle.calls.specs.Calls.{refusal, outcome_of, reply_bytes, made, writable}
use Rattle.calls.proofs.Replies.{call_whole}
use Rattle.table.specs.Table.{bad_slot, record_at, leaves_at, stored_at, made_at}
use Rattle.trace.specs.Call.{room, call_of, made_on}
use Rattle.trace.specs.declared.Record.{Record}
use Rattle.replay_lines.specs.Replay.{any_out}
use Rattle.replay_lines.proofs.Lent.{any_room}

-- what is sent fits
reply_fits : (reply : Option Message) (room : ℕ) (lent : List ℕ) → writable reply room (length lent) ≡ true
    → length (reply_bytes reply lent) ≤ room
unfolding writes
reply_fits None room lent e = omega arith
reply_fits (Some m) room lent e =
    let parts = and_parts (allowed_of m.header m.tail (length lent)) (leb (total_of (table_of m.header.kind) (length lent)) room) e in
    omega (arith, size_is_total m.header m.tail lent parts.0, leb-true (total_of (table_of m.header.kind) (length lent)) room parts.1)

-- what a call sends, by the room of its out buffer
abbrev sent_by : Call → Connection → Count → List ℕ → ℕ → List ℕ
sent_by call c now lent room = reply_bytes (outcome_of call c now lent room).reply lent

sent_fits : (call : Call) (c : Connection) (now : Count) (lent : List ℕ) (room : ℕ) → length (sent_by call c now lent room) ≤ room
sent_fits call c now lent room = reply_fits (outcome_of call c now lent room).reply room lent (call_whole call c now lent room)

pub written_fits : (call : Call) (c : Connection) (now : Count) (lent out : List ℕ) → (made call c now lent out).called.answer.written
    ≤ length out
written_fits call c now lent out = sent_fits call c now lent (length out)

-- a call on the table writes no more than the out buffer holds
pub written_within : (table : List Connection) (r : Record) (bytes out : List ℕ)
    → (made_on table r bytes out).answer.written ≤ length (made_on table r bytes out).out
unfolding made_at
written_within table r bytes out = by (bad_slot (length table) r.slot)
  where
    call : Call
    call = call_of r.kind bytes

    by : (bad : Bool) → (when bad answer leaves_at (refusal 101) table out
        else stored_at table r.slot (made call (record_at table r.slot) r.now bytes out)).answer.written
        ≤ length (when bad answer leaves_at (refusal 101) table out
        else stored_at table r.slot (made call (record_at table r.slot) r.now bytes out)).out
    by true = omega arith
    by false =
        let c = record_at table r.slot in
        omega (arith, written_fits call c r.now bytes out, length-sets out 0 (sent_by call c r.now bytes (length out)))

-- the first bytes of what was stored at the start
first_of : (vs out : List ℕ) → length vs ≤ length out → take (length vs) (sets out 0 vs) ≡ vs
first_of vs out h =
    ap (take (length vs)) (sets-eq vs out 0 (omega arith)) ∙ take_at vs (drop (0 + length vs) out) (length vs) refl

-- the bytes that a call wrote
module _ (table : List Connection) (r : Record) (bytes : List ℕ) where
  abbrev call : Call
  call = call_of r.kind bytes

  abbrev c : Connection
  c = record_at table r.slot

  abbrev wrote : Bool → ℕ → List ℕ
  wrote bad size = when bad answer [] else sent_by call c r.now bytes size

  is_wrote : (out : List ℕ) → take (made_on table r bytes out).answer.written (made_on table r bytes out).out
      ≡ wrote (bad_slot (length table) r.slot) (length out)
  unfolding made_at
  is_wrote out = by (bad_slot (length table) r.slot)
    where
      by : (bad : Bool) → take (when bad answer leaves_at (refusal 101) table out
          else stored_at table r.slot (made call c r.now bytes out)).answer.written
          (when bad answer leaves_at (refusal 101) table out else stored_at table r.slot (made call c r.now bytes out)).out
          ≡ wrote bad (length out)
      by true = refl
      by false = first_of (sent_by call c r.now bytes (length out)) out (sent_fits call c r.now bytes (length out))

  pub same_written : (out : List ℕ) → length out ≡ room
      → take (made_on table r bytes out).answer.written (made_on table r bytes out).out
      ≡ take (made_on table r bytes any_out).answer.written (made_on table r bytes any_out).out
  same_written out size =
      is_wrote out ∙ ap (wrote (bad_slot (length table) r.slot)) (size ∙ sym any_room) ∙ sym (is_wrote any_out)

  -- the out buffer keeps its size
  pub same_room : (out : List ℕ) → length (made_on table r bytes out).out ≡ length out
  unfolding made_at
  same_room out = by (bad_slot (length table) r.slot)
    where
      by : (bad : Bool) → length (when bad answer leaves_at (refusal 101) table out
          else stored_at table r.slot (made call c r.now bytes out)).out ≡ length out
      by true = refl
      by false = length-sets out 0 (sent_by call c r.now bytes (length out))
