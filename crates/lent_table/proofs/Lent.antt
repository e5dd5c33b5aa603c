-- What a named call says of its own lent bytes and out buffer, said of any: begin reads no bytes, tick and close read none and write none.
-- Assumes nothing.
use Prim.Native.Nat.{ℕ}
use mathlib.Core.Path.{◌≡◌, refl, ap, ◌∙◌}
use mathlib.Core.Bool.{Bool, true, false, not}
use mathlib.Core.List.{List, []}
use lib.Dec.{eqb}
use lib.ListN.{length}
use lib.Seq.{sets}
use Rattle.rules.specs.Rows.{when◌answer◌else◌}
use Rattle.clock.specs.declared.Count.{Count}
use Rattle.message.specs.Table.{table_of}
use Rattle.connection.specs.declared.Connection.{Connection}
use Rattle.connection.specs.Connection.{no_count}
use Rattle.what_follows.specs.declared.Outcome.{Outcome}
use Rattle.calls.specs.declared.Given.{Given}
use Rattle.calls.specs.declared.Call.{Call}
use Rattle.calls.specs.declared.Answer.{Answer}
use Rattle.calls.specs.Calls.{initiator, begin_refusal, begin_outcome, tick_outcome, close_outcome, refusal, reply_bytes, leaves, called_with, left_by}
use Rattle.calls.proofs.Replies.{both, tick_silent, close_silent}
use Rattle.table.specs.Table.{LeftAt, leaves_at, bad_slot, record_at, stored_at, made_at}
use Rattle.std.proofs.Common.{None}

-- ---- begin: OffsetStart has no data

abbrev ReadsNone : List ℕ → Outcome → Type 0
ReadsNone lent o = reply_bytes o.reply [] ≡ reply_bytes o.reply lent

begin_reads_none : (c : Connection) (g : Given) (now : Count) (room : ℕ) (lent : List ℕ) → ReadsNone lent (begin_outcome c g now room)
unfolding begin_outcome table_of
begin_reads_none c g now room lent =
    both (ReadsNone lent) (not (eqb (begin_refusal c g room) 0)) _ _ (λ _. refl)
    (λ _. both (ReadsNone lent) (eqb g.role initiator) _ _ (λ _. refl) (λ _. refl))

pub begin_lent : (table : List Connection) (slot : ℕ) (g : Given) (now : Count) (lent out : List ℕ)
    → made_at table slot (Call.Begin g) now [] out ≡ made_at table slot (Call.Begin g) now lent out
unfolding made_at
begin_lent table slot g now lent out =
    let o = begin_outcome (record_at table slot) g now (length out) in
    ap (λ (bytes : List ℕ).
    when bad_slot (length table) slot answer leaves_at (refusal 101) table out else
    stored_at table slot (leaves (called_with o (length bytes)) (sets out 0 bytes)))
    (begin_reads_none (record_at table slot) g now (length out) lent)

-- ---- tick and close: they send nothing

-- what is left, with another out buffer
abbrev pub with_out : List ℕ → LeftAt → LeftAt
with_out out left = leaves_at left.answer left.table out

silent_at : (table : List Connection) (slot : ℕ) (o : Outcome) → o.reply ≡ None → (lent out : List ℕ) (bad : Bool)
    → with_out out (when bad answer leaves_at (refusal 101) table [] else stored_at table slot (left_by o [] []))
    ≡ (when bad answer leaves_at (refusal 101) table out else stored_at table slot (left_by o lent out))
silent_at table slot o e lent out true = refl
silent_at table slot o e lent out false = rw e refl

pub tick_lent : (table : List Connection) (slot : ℕ) (now : Count) (lent out : List ℕ)
    → with_out out (made_at table slot Call.Tick now [] []) ≡ made_at table slot Call.Tick now lent out
unfolding made_at
tick_lent table slot now lent out =
    silent_at table slot (tick_outcome (record_at table slot) now) (tick_silent (record_at table slot) now) lent out (bad_slot (length table) slot)

pub close_lent : (table : List Connection) (slot : ℕ) (now : Count) (lent out : List ℕ)
    → with_out out (made_at table slot Call.Close no_count [] []) ≡ made_at table slot Call.Close now lent out
unfolding made_at
close_lent table slot now lent out =
    silent_at table slot (close_outcome (record_at table slot)) (close_silent (record_at table slot)) lent out (bad_slot (length table) slot)
