-- What the five calls promise beyond their equations: which numbers they answer, when a slot is released, what a record can become.
use Rattle.std.specs.Prelude.{ℕ, ◌+◌, ◌≡◌, Bool, true, false, not, ◌&&◌, ◌||◌, List, [], ◌∷◌, ◌⊎◌, ltb, leb, eqb, ℤ, pos, Option, Some, None}
use Rattle.std.specs.Int.Signed.{lt_z, le_z}
use Rattle.rules.specs.Rows.{when◌answer◌else◌}
use Rattle.clock.specs.Clock.{no_age}
use Rattle.clock.specs.declared.Age.{Age}
use Rattle.clock.specs.declared.Count.{Count}
use Rattle.number.specs.Number.{distance_of}
use Rattle.message.specs.Read.{parsed_of}
use Rattle.message.specs.declared.Header.{Header}
use Rattle.message.specs.declared.Tail.{Tail}
use Rattle.message.specs.declared.Message.{Message}
use Rattle.message.specs.Layout.{whole}
use Rattle.connection.specs.declared.Connection.{Connection}
use Rattle.connection.specs.declared.Peer.{Peer}
use Rattle.connection.specs.Connection.{closed, opened, unsound, all_zero, heard_of}
use Rattle.peer_faults.specs.Faults.{time_check_of, reports_age}
use Rattle.what_follows.specs.declared.Outcome.{Outcome}

infix 40 ◌among◌
-- whether a number is one of a list
abbrev pub ◌among◌ : ℕ → List ℕ → Bool
k among [] = false
k among (n ∷ ns) = eqb k n || (k among ns)

-- a 1xx
abbrev pub callers_fault : ℕ → Bool
callers_fault k = leb 100 k && ltb k 200

-- DEMAND-1, CALL-KEPT: what a caller's fault leaves
pub record Unchanged (c : Connection) (o : Outcome) : Type 0 where
  pub same_record : o.next ≡ c
  pub nothing_written : o.reply ≡ None
  pub nothing_delivered : o.delivered ≡ 0
  pub not_released : o.released ≡ false

-- PEER-SAYS, CALL-SAYS: whether a receive or a tick that answers k to this record releases it. Set-up's errors do (SETUP-ERR); when open
-- 203 does (PEER-203), 201 and 211 don't (PEER-OPEN), and 202, 204, 205 and 206 do where they reach the limit (ERR-2).
unfoldable pub released_by : Connection → ℕ → Bool
released_by c k =
    when eqb k 0 || callers_fault k answer false else
    when not (eqb c.phase opened) answer true else
    when eqb k 203 answer true else
    when eqb k 201 || eqb k 211 answer false else
    leb c.settings.limit (c.errors + 1)

-- closed, or not as RECORD-1 says
abbrev pub Valid : Connection → Type 0
Valid c = (c.phase ≡ closed) ⊎ (unsound c ≡ false)

-- RECORD-3 of a released slot; any other stays valid
pub record Stays (o : Outcome) : Type 0 where
  pub zero : o.released ≡ true → o.next ≡ all_zero
  pub valid : o.released ≡ false → Valid o.next

-- AGE-4, PEER-204: delivered with a 0 or a 204 of an open connection
unfoldable pub delivers_to : Connection → ℕ → Bool
delivers_to c k = eqb c.phase opened && (eqb k 0 || eqb k 204)

-- ERR-6: the answers of an open connection after which, if it is not released, it remembers the message
abbrev pub remembered_with : List ℕ
remembered_with = 0 ∷ 204 ∷ 205 ∷ 206 ∷ []

-- ERR-6: the last number is the message's, and the remembered stamps are its stamp and our count
pub record Remembers (message : List ℕ) (now : Count) (c : Connection) : Type 0 where
  pub header : Header
  pub tail : Tail
  pub taken_apart : parsed_of message ≡ Some (whole header tail)
  pub number : c.peer.number ≡ header.number
  pub stamp : c.peer.stamp ≡ header.stamp
  pub arrival : c.peer.arrival ≡ now

-- ERR-6: d from 1 to N
abbrev pub one_to_n : Connection → ℕ → Bool
one_to_n c d = leb 1 d && leb d c.settings.n

-- ERR-5, ERR-6: what an open connection remembers of the peer after a type 6 that did not release it: by d alone, whatever the age
unfoldable pub remembered_by : Connection → Count → Header → Peer
remembered_by c now h =
    when one_to_n c (distance_of h.number c.peer.number) answer heard_of h now else
    c.peer

-- AGE-7: whether an age goes with the answer k to a receive on this record: it was open, and the answer is one of the four
unfoldable pub tells_age : Connection → ℕ → Bool
tells_age c k = eqb c.phase opened && reports_age k

-- AGE-7: with these the age of the message's time check; AGE-8: with any other answer, and where no message is judged, 0
abbrev pub reported_by : Connection → Count → Option Message → ℕ → Age
reported_by c now None k = no_age
reported_by c now (Some m) k =
    when tells_age c k answer (time_check_of c now m.header).age else
    no_age

-- AGE-7: which of the four it is goes by the age that is reported: 206 exactly where it is below 0 (AGE-2), 205 exactly where it is above
-- T_max (AGE-3), 0 or 204 exactly where it is in 0 .. T_max (AGE-4, AGE-5)
pub record GoesByAge (t_max_lem : ℕ) (age : ℤ) (k : ℕ) : Type 0 where
  pub future : eqb k 206 ≡ lt_z age (pos 0)
  pub late : eqb k 205 ≡ lt_z (pos t_max_lem) age
  pub fresh : eqb k 0 || eqb k 204 ≡ le_z (pos 0) age && le_z age (pos t_max_lem)
