-- What the buffer that is lent to a call holds is nothing to what the call says and to the table after it, and so to a turn of the replay.
-- Assumes nothing.
use Rattle.std.proofs.Common.{ℕ, ◌≡◌, refl, sym, ap, ◌∙◌, Bool, true, false, List, length, set}
use Rattle.std.proofs.lemmas.List.{length-replicate}
use Rattle.rules.specs.Rows.{when◌answer◌else◌}
use Rattle.clock.specs.declared.Count.{Count}
use Rattle.connection.specs.declared.Connection.{Connection}
use Rattle.calls.specs.declared.Call.{Call}
use Rattle.calls.specs.declared.Called.{Called}
use Rattle.calls.specs.Calls.{refusal, outcome_of, reply_bytes, called_with, Leaves, made}
use Rattle.table.specs.Table.{bad_slot, record_at, LeftAt, leaves_at, stored_at, made_at}
use Rattle.trace.specs.Call.{room, call_of}
use Rattle.replay_lines.specs.Replay.{any_out, WhateverOutHolds}

pub any_room : length any_out ≡ room
unfolding any_out
any_room = length-replicate {A = ℕ} room 0

-- what a call on a record says and stores, with so much room
abbrev called_in : Call → Connection → Count → List ℕ → ℕ → Called
called_in call c now lent n = called_with (outcome_of call c now lent n) (length (reply_bytes (outcome_of call c now lent n).reply lent))

-- what a call on a slot leaves, where the slot is bad or not
abbrev left_in : Bool → List Connection → ℕ → Leaves → List ℕ → LeftAt
left_in bad table slot left out = when bad answer leaves_at (refusal 101) table out else stored_at table slot left

left_alike : (bad : Bool) (table : List Connection) (slot : ℕ) (one other : Leaves) (out out' : List ℕ) → one.called ≡ other.called
    → ((left_in bad table slot one out).answer ≡ (left_in bad table slot other out').answer)
    × ((left_in bad table slot one out).table ≡ (left_in bad table slot other out').table)
left_alike true table slot one other out out' same = (refl, refl)
left_alike false table slot one other out out' same =
    (ap (λ (h : Called). h.answer) same, ap (λ (h : Called). set table slot h.next) same)

pub whatever_out_holds : WhateverOutHolds
unfolding made_at
whatever_out_holds table r bytes out size =
    let call = call_of r.kind bytes in
    let c = record_at table r.slot in
    left_alike (bad_slot (length table) r.slot) table r.slot (made call c r.now bytes out) (made call c r.now bytes any_out) out any_out
    (ap (called_in call c r.now bytes) (size ∙ sym any_room))
