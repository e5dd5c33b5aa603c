-- How a connection opens: the messages of set-up since the last begin, and the exchange that they must be (SHUT-4).
use Rattle.std.specs.Prelude.{ℕ, suc, ◌≡◌, not, ◌&&◌, List, [], ◌∷◌, eqb, length, Option, Some, None}
use Rattle.rules.specs.Rows.{when◌answer◌else◌}
use Rattle.clock.specs.declared.Count.{Count}
use Rattle.message.specs.Table.{offset_start}
use Rattle.message.specs.declared.Header.{Header}
use Rattle.message.specs.declared.Message.{Message}
use Rattle.connection.specs.declared.Connection.{Connection}
use Rattle.connection.specs.Connection.{closed, opened}
use Rattle.what_follows.specs.declared.Outcome.{Outcome}
use Rattle.calls.specs.declared.Call.{Call}
use Rattle.calls.specs.Calls.{rule_of, outcome_of}

-- the messages of set-up, the newest first; what was sent
abbrev pub with_sent : Option Message → List Header → List Header
with_sent None log = log
with_sent (Some m) log = m.header ∷ log

-- a message that was taken; what is sent back comes after it
abbrev pub with_taken : Option Message → List Header → List Header
with_taken None log = log
with_taken (Some m) log = m.header ∷ log

-- a begin that answers 0 begins the log; a call in set-up that answers 0 took its message, if it has one
unfoldable pub log_after : Call → Connection → List ℕ → Outcome → List Header → List Header
log_after call c lent o log =
    when (rule_of call).begins && eqb o.number 0 answer with_sent o.reply [] else
    when not (eqb c.phase opened) && eqb o.number 0 answer with_sent o.reply (with_taken ((rule_of call).message lent) log) else
    log

-- any calls in any order on one record that was closed, refusals included, each on the record that the call before left
pub data Run : List Header → Connection → Type 0 where
  none : (c : Connection) → c.phase ≡ closed → Run [] c
  called : {log : List Header} {c : Connection} → Run log c → (call : Call) (now : Count) (lent : List ℕ) (room : ℕ)
      → Run (log_after call c lent (outcome_of call c now lent room) log) (outcome_of call c now lent room).next

-- SHUT-4: the exchange, the newest message first: type 1, and each one's type is the next, with the stamp of the one before echoed
-- (ECHO-1)
pub data Exchange : List Header → Type 0 where
  first : (h : Header) → h.kind ≡ offset_start → Exchange (h ∷ [])
  next : (h g : Header) (log : List Header) → Exchange (g ∷ log) → h.kind ≡ suc g.kind → h.last_peer_stamp.0 ≡ g.stamp.0
      → Exchange (h ∷ g ∷ log)

-- SHUT-4: all five messages, in order, each echoing the one before
pub record FiveMessages (log : List Header) : Type 0 where
  pub exchange : Exchange log
  pub five : length log ≡ 5
