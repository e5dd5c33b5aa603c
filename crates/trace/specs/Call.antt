-- The call that a record of a trace makes: the only place where kinds and calls stand side by side.
-- Assumes nothing.
use Rattle.std.specs.Prelude.{ℕ, ◌<◌, ◌≡◌, not, List, [], ◌∷◌, ◌++◌, eqb, length, get_or, drop}
use Rattle.rules.specs.Rows.{when◌answer◌else◌}
use Rattle.clock.specs.declared.Count.{Count}
use Rattle.field.specs.Row.{fields_of, width_of}
use Rattle.connection.specs.declared.Connection.{Connection}
use Rattle.connection.specs.Connection.{closed, no_settings}
use Rattle.connection_row.specs.Row.{settings_widths, settings_from}
use Rattle.calls.specs.declared.Given.{Given}
use Rattle.calls.specs.declared.Call.{Call}
use Rattle.calls.specs.Calls.{bad, responder, refused, outcome_of, given, Leaves, made}
use Rattle.table.specs.Table.{LeftAt, made_at}
use Rattle.trace.specs.Record.{begin_kind, receive_kind, send_kind, tick_kind}
use Rattle.trace.specs.declared.Record.{Record}

-- TRACE-6: the bytes of the out buffer that each call is lent
abbrev pub room : ℕ
room = 1000

-- TRACE-3: the fields of begin's bytes: the role (0 initiator, 1 responder), the settings, the first number, the period
abbrev pub begin_widths : List ℕ
begin_widths = 1 ∷ (settings_widths ++ (2 ∷ 4 ∷ []))

-- TRACE-3: what these fields give to begin, in this order
abbrev pub given_from : List ℕ → Given
given_from fields = given (get_or fields 0 0) (settings_from (drop 1 fields)) (get_or fields 7 0) (get_or fields 8 0)

-- TRACE-4: bytes of another size hold no role, so that 104 comes in its place in begin's order
abbrev pub no_role : ℕ
no_role = 255

-- TRACE-3, TRACE-4: what begin's bytes give
unfoldable pub given_in : List ℕ → Given
given_in bytes =
    when eqb (length bytes) (width_of begin_widths) answer given_from (fields_of begin_widths bytes 0) else
    given no_role no_settings 0 0

-- TRACE-2: kind 1 begin, 2 receive, 3 send, 4 tick, 5 close; of their bytes begin's say what it is given
unfoldable pub call_of : ℕ → List ℕ → Call
call_of kind bytes =
    when eqb kind begin_kind answer Call.Begin (given_in bytes) else
    when eqb kind receive_kind answer Call.Receive else
    when eqb kind send_kind answer Call.Send else
    when eqb kind tick_kind answer Call.Tick else
    Call.Close

-- TRACE-2: what a record's call leaves on its slot's record, and on the table, of the out buffer that it is lent:
abbrev pub made_by : Connection → Record → List ℕ → List ℕ → Leaves
made_by c r bytes out = made (call_of r.kind bytes) c r.now bytes out

abbrev pub made_on : List Connection → Record → List ℕ → List ℕ → LeftAt
made_on table r bytes out = made_at table r.slot (call_of r.kind bytes) r.now bytes out

-- TRACE-4: another size or role is answered 104, after 101 and 103
abbrev pub OthersGive104 : Type 0
OthersGive104 =
    (c : Connection) (now : Count) (bytes : List ℕ)
    → (length bytes ≡ width_of begin_widths → responder < get_or (fields_of begin_widths bytes 0) 0 0)
    → outcome_of (call_of begin_kind bytes) c now bytes room ≡ refused (
    when bad c answer 101 else
    when not (eqb c.phase closed) answer 103 else
    104) c

-- TRACE-7: the bytes of a tick and of a close have no effect
abbrev pub NoBytesOfTickAndClose : Type 0
NoBytesOfTickAndClose =
    (kind : ℕ) (c : Connection) (now : Count) (bytes out : List ℕ) → send_kind < kind
    → made (call_of kind bytes) c now bytes out ≡ made (call_of kind []) c now [] out
