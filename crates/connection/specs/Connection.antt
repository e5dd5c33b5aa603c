-- A connection's record: its phases, the ranges of its settings, and what changes together.
use Rattle.std.specs.Prelude.{ℕ, Bool, ◌||◌, ltb, leb, pos}
use Rattle.clock.specs.declared.Count.{Count}
use Rattle.clock.specs.declared.Offset.{Offset}
use Rattle.number.specs.Number.{next_of}
use Rattle.message.specs.declared.Header.{Header}
use Rattle.connection.specs.declared.Settings.{Settings}
use Rattle.connection.specs.declared.Own.{Own}
use Rattle.connection.specs.declared.Peer.{Peer}
use Rattle.connection.specs.declared.Offsets.{Offsets}
use Rattle.connection.specs.declared.Connection.{Connection}

-- ---- the phases, by their numbers

-- PHASE-0: no connection
abbrev pub closed : ℕ
closed = 0

-- PHASE-1: OffsetStart was sent, OffsetAnsw1 is awaited
abbrev pub initiator_waits_for2 : ℕ
initiator_waits_for2 = 1

-- PHASE-2: OffsetAnsw2 was sent, OffsetEst is awaited
abbrev pub initiator_waits_for4 : ℕ
initiator_waits_for4 = 2

-- PHASE-3: OffsetStart is awaited
abbrev pub responder_waits_for1 : ℕ
responder_waits_for1 = 3

-- PHASE-4: OffsetAnsw1 was sent, OffsetAnsw2 is awaited
abbrev pub responder_waits_for3 : ℕ
responder_waits_for3 = 4

-- PHASE-5: OffsetEst was sent, OffsetEnd is awaited
abbrev pub responder_waits_for5 : ℕ
responder_waits_for5 = 5

-- PHASE-6: data is exchanged
abbrev pub opened : ℕ
opened = 6

-- ---- ranges

infix 40 ◌outside◌to◌
-- below the least or above the most
unfoldable pub ◌outside◌to◌ : ℕ → ℕ → ℕ → Bool
x outside least to most = ltb x least || ltb most x

-- RANGE-N: the most of N
abbrev pub most_n : ℕ
most_n = 1000

-- RANGE-TMAX, RANGE-TSTART, RANGE-TOFF: the most of a time, in ticks
abbrev pub most_time : ℕ
most_time = 60000

-- RANGE-LIMIT: the most of the error limit
abbrev pub most_limit : ℕ
most_limit = 255

-- CALL-104: a setting lies outside its range; RANGE-N, RANGE-TMAX, RANGE-E, RANGE-TSTART, RANGE-TOFF, RANGE-LIMIT, a line each
unfoldable pub out_of_range : Settings → Bool
out_of_range s =
    s.n outside 1 to most_n
    || s.t_max outside 1 to most_time
    || s.e outside 0 to s.t_max
    || s.t_start outside 1 to most_time
    || s.t_off outside 0 to most_time
    || s.limit outside 1 to most_limit

-- RECORD-1, of a record that is not closed: its settings or its phase out of range, its error counter at the limit
unfoldable pub unsound : Connection → Bool
unsound c = out_of_range c.settings || c.phase outside initiator_waits_for2 to opened || leb c.settings.limit c.errors

-- ---- a record of its parts, and the one that is all zero

-- every record is made here, of its parts in their order
abbrev pub of_parts : ℕ → Settings → Own → Peer → Count → Offsets → ℕ → Count → Connection
of_parts phase settings own peer since offsets errors clock =
    record {
      phase = phase;
      settings = settings;
      own = own;
      peer = peer;
      wait_start = since;
      offsets = offsets;
      errors = errors;
      clock = clock;
    }

-- WAIT-3: the count where no wait runs, and every count of a record that is all zero
abbrev pub no_count : Count
no_count = record { 0 = 0 }

-- RECORD-3, the parts of a record that is all zero:
abbrev pub no_settings : Settings
no_settings = record { n = 0; t_max = 0; e = 0; t_start = 0; t_off = 0; limit = 0 }

abbrev pub no_own : Own
no_own = record { number = 0; period = 0 }

abbrev pub no_peer : Peer
no_peer = record { number = 0; stamp = no_count; arrival = no_count }

abbrev pub no_offsets : Offsets
no_offsets = record { min = record { 0 = pos 0 }; max = record { 0 = pos 0 } }

-- RECORD-3: a released slot
abbrev pub all_zero : Connection
all_zero = of_parts closed no_settings no_own no_peer no_count no_offsets 0 no_count

-- ---- what changes together, a line each

-- what begin is given for the whole of the connection
abbrev pub configured : Connection → Settings → Own → Connection
configured c settings own = of_parts c.phase settings own c.peer c.wait_start c.offsets c.errors c.clock

-- KIND-5: the remembered clock
abbrev pub clocked : Connection → Count → Connection
clocked c now = of_parts c.phase c.settings c.own c.peer c.wait_start c.offsets c.errors now

-- ERR-1, ERR-4: the error counter
abbrev pub counted : Connection → ℕ → Connection
counted c errors = of_parts c.phase c.settings c.own c.peer c.wait_start c.offsets errors c.clock

-- ERR-6: the last number, the remembered peer stamp and its arrival
abbrev pub heard_of : Header → Count → Peer
heard_of h now = record { number = h.number; stamp = h.stamp; arrival = now }

-- ERR-6: heard from the peer
abbrev pub heard : Connection → Header → Count → Connection
heard c h now = of_parts c.phase c.settings c.own (heard_of h now) c.wait_start c.offsets c.errors c.clock

-- NUMBER-1: one message more was sent
abbrev pub one_more : Own → Own
one_more own = record { number = next_of own.number; period = own.period }

-- NUMBER-1: sent by us
abbrev pub sent : Connection → Connection
sent c = of_parts c.phase c.settings (one_more c.own) c.peer c.wait_start c.offsets c.errors c.clock

-- WAIT-1: a phase, and the now of the send that began its wait
abbrev pub waiting : Connection → ℕ → Count → Connection
waiting c phase since = of_parts phase c.settings c.own c.peer since c.offsets c.errors c.clock

-- OFFSET-2, OFFSET-3: the offsets of set-up
abbrev pub with_offsets : Connection → Offset → Offset → Connection
with_offsets c min max =
    of_parts c.phase c.settings c.own c.peer c.wait_start (record { min = min; max = max }) c.errors c.clock

-- the record of begin, before anything was sent: every field anew (RECORD-2), any first number and period (RANGE-FREE), begin's now
-- (KIND-5), no wait (WAIT-3)
abbrev pub begun : Settings → Own → ℕ → Count → Connection
begun settings own phase now = clocked (waiting (configured all_zero settings own) phase no_count) now
