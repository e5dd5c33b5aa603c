-- The five calls on one record: the caller's faults in their order, the wait that expires, and every byte of the out buffer.
use Rattle.std.specs.Prelude.{ℕ, ◌+◌, Bool, true, false, not, ◌&&◌, ◌||◌, List, [], ◌∷◌, ◌++◌, ltb, leb, eqb, length, take, Option, Some, None, ⊤, Result, Ok, Err}
use Rattle.std.proofs.lemmas.List.Edits.{sets}
use Rattle.rules.specs.Rows.{when◌answer◌else◌}
use Rattle.clock.specs.Clock.{goes_back, wait_of, no_age}
use Rattle.clock.specs.declared.Age.{Age}
use Rattle.clock.specs.declared.Count.{Count}
use Rattle.message.specs.Table.{offset_start, application, header_size, start_size, est_size, most_data}
use Rattle.message.specs.Layout.{period_tail, data_tail}
use Rattle.message.specs.Read.{parsed_of, data_of}
use Rattle.message_writing.specs.Writing.{message_bytes, writes}
use Rattle.message.specs.declared.Header.{Header}
use Rattle.message.specs.declared.Message.{Message}
use Rattle.connection.specs.declared.Settings.{Settings}
use Rattle.connection.specs.declared.Connection.{Connection}
use Rattle.connection.specs.Connection.{
  closed,
  initiator_waits_for2,
  responder_waits_for1,
  opened,
  out_of_range,
  unsound,
  no_count,
  clocked,
  sent,
  waiting,
  begun,
}
use Rattle.what_follows.specs.declared.Outcome.{Outcome}
use Rattle.what_follows.specs.Follows.{kept, released, sending, step_of}
use Rattle.calls.specs.declared.Given.{Given}
use Rattle.calls.specs.declared.Call.{Call}
use Rattle.calls.specs.declared.CallersFault.{CallersFault}
use Rattle.calls.specs.declared.CallersFault.TheVariants.{BadRecord, Closed, InUse, OutOfRange, ClockWentBack, NotOpen, DataTooLong, BufferTooShort}
use Rattle.calls.specs.declared.Answer.{Answer}
use Rattle.calls.specs.declared.Called.{Called}

-- ---- the caller's faults, and their numbers

-- CALL-101 to CALL-108: the number of each
abbrev pub refusal_number : CallersFault → ℕ
refusal_number BadRecord = 101
refusal_number Closed = 102
refusal_number InUse = 103
refusal_number OutOfRange = 104
refusal_number ClockWentBack = 105
refusal_number NotOpen = 106
refusal_number DataTooLong = 107
refusal_number BufferTooShort = 108

-- CALL-ORDER: the number of the first that was found, 0 where there is none
abbrev pub first_number : Result ⊤ CallersFault → ℕ
first_number (Ok nothing) = 0
first_number (Err fault) = refusal_number fault

-- ---- the caller's faults of each call, in CALL-ORDER: the number of the first, 0 where there is none

infixr 1 ◌then◌
-- CALL-ORDER: the faults of one list, then those of the next
abbrev pub ◌then◌ : ℕ → ℕ → ℕ
k then rest = when eqb k 0 answer rest else k

-- CALL-101 of a record: RECORD-1, where it is not closed (RECORD-2)
unfoldable pub bad : Connection → Bool
bad c = not (eqb c.phase closed) && unsound c

-- CALL-CLOSE: CALL-101, CALL-102
unfoldable pub close_refusal : Connection → ℕ
close_refusal c =
    when bad c answer 101 else
    when eqb c.phase closed answer 102 else
    0

-- CALL-TICK: the two of close, CALL-105
unfoldable pub tick_refusal : Connection → Count → ℕ
tick_refusal c now =
    close_refusal c then
    when goes_back now.0 c.clock.0 answer 105 else
    0

-- CALL-RECEIVE: the three of tick, CALL-108 under 25
unfoldable pub receive_refusal : Connection → Count → ℕ → ℕ
receive_refusal c now room =
    tick_refusal c now then
    when ltb room est_size answer 108 else
    0

-- CALL-SEND: the three of tick, CALL-106, CALL-107, CALL-108 under 15 + data
unfoldable pub send_refusal : Connection → Count → ℕ → ℕ → ℕ
send_refusal c now size room =
    tick_refusal c now then
    when not (eqb c.phase opened) answer 106 else
    when ltb most_data size answer 107 else
    when ltb room (header_size + size) answer 108 else
    0

-- CALL-104: the roles, by their numbers:
abbrev pub initiator : ℕ
initiator = 0

abbrev pub responder : ℕ
responder = 1

-- CALL-BEGIN: CALL-101, CALL-103, CALL-104, also of a role but the two, CALL-108 of an initiator under 19
unfoldable pub begin_refusal : Connection → Given → ℕ → ℕ
begin_refusal c g room =
    when bad c answer 101 else
    when not (eqb c.phase closed) answer 103 else
    when ltb responder g.role || out_of_range g.settings answer 104 else
    when eqb g.role initiator && ltb room start_size answer 108 else
    0

-- CALL-KEPT: nothing changes
abbrev pub refused : ℕ → Connection → Outcome
refused k c = kept k 0 c

-- ---- the wait

-- WAIT-2: the responder's wait for type 1 and an open connection have no timer
unfoldable pub timed : ℕ → Bool
timed phase = not (eqb phase responder_waits_for1) && not (eqb phase opened)

-- WAIT-1: T_start or more has passed since the send that began the wait, mod 2^32
unfoldable pub expired : Connection → Count → Bool
expired c now = timed c.phase && leb c.settings.t_start (wait_of now.0 c.wait_start.0)

-- ---- the calls

-- WAIT-4 and PEER-ORDER: PEER-207 comes first of the peer's faults
unfoldable pub receive_outcome : Connection → Count → List ℕ → ℕ → Outcome
receive_outcome c now message room =
    when not (eqb (receive_refusal c now room) 0) answer refused (receive_refusal c now room) c else
    when expired c now answer released 207 0 else
    step_of c now (parsed_of message)

-- WAIT-4: PEER-207 also by tick
unfoldable pub tick_outcome : Connection → Count → Outcome
tick_outcome c now =
    when not (eqb (tick_refusal c now) 0) answer refused (tick_refusal c now) c else
    when expired c now answer released 207 0 else
    kept 0 0 (clocked c now)

-- CALL-CLOSE: a 0 that says released (CALL-SAYS)
unfoldable pub close_outcome : Connection → Outcome
close_outcome c =
    when not (eqb (close_refusal c) 0) answer refused (close_refusal c) c else
    released 0 0

-- SEND-1: the remembered peer stamp and its arrival
abbrev pub data_header : Connection → Count → Header
data_header c now =
    record { kind = application; number = c.own.number; stamp = now; last_peer_stamp = c.peer.stamp; arrival = c.peer.arrival }

-- NUMBER-1: the own number goes on by one
unfoldable pub send_outcome : Connection → Count → ℕ → ℕ → Outcome
send_outcome c now size room =
    when not (eqb (send_refusal c now size room) 0) answer refused (send_refusal c now size room) c else
    sending (data_header c now) (data_tail size) (sent (clocked c now))

-- SETUP-1: OffsetStart, with no peer stamp and no arrival (MSG-1)
abbrev pub start_header : ℕ → Count → Header
start_header first now = record { kind = offset_start; number = first; stamp = now; last_peer_stamp = no_count; arrival = no_count }

-- SETUP-1: what an initiator's begin comes to; its wait begins with OffsetStart
abbrev pub start_sent : Given → Count → Outcome
start_sent g now =
    sending (start_header g.own.number now) (period_tail g.own.period)
    (waiting (sent (begun g.settings g.own initiator_waits_for2 now)) initiator_waits_for2 now)

-- SETUP-1 of an initiator, SETUP-0 of a responder
unfoldable pub begin_outcome : Connection → Given → Count → ℕ → Outcome
begin_outcome c g now room =
    when not (eqb (begin_refusal c g room) 0) answer refused (begin_refusal c g room) c else
    when eqb g.role initiator answer start_sent g now else
    kept 0 0 (begun g.settings g.own responder_waits_for1 now)

-- ---- the numbers that each call answers

-- CALL-BEGIN, CALL-RECEIVE, CALL-SEND, CALL-TICK, CALL-CLOSE, the numbers with which each refuses, in their order:
abbrev pub begin_refuses : List ℕ
begin_refuses = 101 ∷ 103 ∷ 104 ∷ 108 ∷ []

abbrev pub receive_refuses : List ℕ
receive_refuses = 101 ∷ 102 ∷ 105 ∷ 108 ∷ []

abbrev pub send_refuses : List ℕ
send_refuses = 101 ∷ 102 ∷ 105 ∷ 106 ∷ 107 ∷ 108 ∷ []

abbrev pub tick_refuses : List ℕ
tick_refuses = 101 ∷ 102 ∷ 105 ∷ []

abbrev pub close_refuses : List ℕ
close_refuses = 101 ∷ 102 ∷ []

-- PEER-ORDER: the peer's faults, as they are judged
abbrev pub peers_faults : List ℕ
peers_faults = 207 ∷ 201 ∷ 211 ∷ 202 ∷ 203 ∷ 208 ∷ 209 ∷ 206 ∷ 205 ∷ 204 ∷ []

-- ---- any call

-- A call's rule: what it comes to on a record with a now, the bytes that it is lent and the room of its out buffer; the message that it
-- judges, of the bytes lent; whether it begins a connection; and the numbers that it answers.
pub record Rule : Type 0 where
  pub outcome : Connection → Count → List ℕ → ℕ → Outcome
  pub message : List ℕ → Option Message
  pub begins : Bool
  pub numbers : List ℕ

-- no message is judged
abbrev pub no_message : List ℕ → Option Message
no_message lent = None

-- the calls, a row each; CALL-0: a 0 beside the faults
abbrev pub rule_of : Call → Rule
rule_of (Call.Begin g) =
    record {
      outcome = λ (c : Connection) (now : Count) (lent : List ℕ) (room : ℕ). begin_outcome c g now room;
      message = no_message;
      begins = true;
      numbers = begin_refuses ++ (0 ∷ []);
    }
rule_of Call.Receive =
    record {
      outcome = receive_outcome;
      message = parsed_of;
      begins = false;
      numbers = receive_refuses ++ (peers_faults ++ (0 ∷ []));
    }
rule_of Call.Send =
    record {
      outcome = λ (c : Connection) (now : Count) (lent : List ℕ) (room : ℕ). send_outcome c now (length lent) room;
      message = no_message;
      begins = false;
      numbers = send_refuses ++ (0 ∷ []);
    }
rule_of Call.Tick =
    record {
      outcome = λ (c : Connection) (now : Count) (lent : List ℕ) (room : ℕ). tick_outcome c now;
      message = no_message;
      begins = false;
      numbers = tick_refuses ++ (207 ∷ 0 ∷ []);
    }
rule_of Call.Close =
    record {
      outcome = λ (c : Connection) (now : Count) (lent : List ℕ) (room : ℕ). close_outcome c;
      message = no_message;
      begins = false;
      numbers = close_refuses ++ (0 ∷ []);
    }

-- what it comes to
abbrev pub outcome_of : Call → Connection → Count → List ℕ → ℕ → Outcome
outcome_of call c now lent room = (rule_of call).outcome c now lent room

-- what begin is given
abbrev pub given : ℕ → Settings → ℕ → ℕ → Given
given role settings first period = record { role = role; settings = settings; own = record { number = first; period = period } }

-- ---- what a call answers, and the out buffer

-- the bytes of what is sent; of the bytes lent to the call only a message with data has any (MSG-DATA)
abbrev pub reply_bytes : Option Message → List ℕ → List ℕ
reply_bytes None lent = []
reply_bytes (Some m) lent = message_bytes m.header m.tail lent

-- every answer is made here, of its parts in their order
abbrev pub says : ℕ → Bool → ℕ → ℕ → Age → Answer
says k released written delivered age = record { number = k; released = released; written = written; delivered = delivered; age = age }

-- CALL-KEPT: what a caller's fault says; AGE-8: it reports no age
abbrev pub refusal : ℕ → Answer
refusal k = says k false 0 0 no_age

-- what a call says that wrote so many bytes, and the record that it leaves; AGE-7: the age that it comes to is passed on
abbrev pub called_with : Outcome → ℕ → Called
called_with o written = record { answer = says o.number o.released written o.delivered o.age; next = o.next }

-- What a call leaves: what it says, its record, and its out buffer.
pub record Leaves : Type 0 where
  pub called : Called
  pub out : List ℕ

-- made here, of its parts
abbrev pub leaves : Called → List ℕ → Leaves
leaves called out = record { called = called; out = out }

-- CALL-OUT: what is sent stands at the start, and the bytes behind it stay
abbrev pub left_by : Outcome → List ℕ → List ℕ → Leaves
left_by o lent out = leaves (called_with o (length (reply_bytes o.reply lent))) (sets out 0 (reply_bytes o.reply lent))

-- what a call leaves that is lent these bytes and this out buffer
abbrev pub made : Call → Connection → Count → List ℕ → List ℕ → Leaves
made call c now lent out = left_by (outcome_of call c now lent (length out)) lent out

-- there is something to write, and the writer takes it
abbrev pub writable : Option Message → ℕ → ℕ → Bool
writable None room n = true
writable (Some m) room n = writes room m.header m.tail n

-- what a receive delivers: a part of the message, from byte 15 on (MSG-DATA); empty where that is nothing (CALL-EMPTY, CALL-TYPE6)
unfoldable pub delivered_of : List ℕ → ℕ → List ℕ
delivered_of message n = take n (data_of message)
