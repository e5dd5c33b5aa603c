-- STORY-SENT: what the peer sends, one sequence of packets, and its bytes on a link.
-- Assumes nothing.
use Rattle.std.specs.Prelude.{ℕ, zero, suc, ◌+◌, ◌%◌, ◌^◌, ◌≤◌, ◌<◌, ◌≡◌, Bool, true, false, List, [], ◌∷◌, ◌++◌, ◌⊎◌, length}
use Rattle.number.specs.Number.{numbers}
use Rattle.packet.specs.Sizes.{packet_header_size, most_user_data}
use Rattle.packet_types.specs.Types.{data_packet, release_packet, opening_fault}
use Rattle.packet_writing.specs.Writing.{packet_bytes, bytes_written}
use Rattle.links.specs.declared.State.{State}
use Rattle.links.specs.Taken.{fresh_state}
use Rattle.links.specs.Callers.{not_allowed}
use Rattle.links.specs.Table.{opening_of}

-- STORY-SENT: a packet but for its flag and its check, which differ on the two links, and its length, which its user data gives
pub record Packet : Type 0 where
  pub version : ℕ
  pub application : ℕ
  pub number : ℕ
  pub kind : ℕ
  pub user_data : List ℕ

-- STORY-SENT: the gateway that takes them: its role and setting, the list of those who may call, and its own id
pub record Gateway : Type 0 where
  pub responder : Bool
  pub strict : Bool
  pub callers : List ℕ
  pub ours : ℕ

-- LINK-FRESH: the state from which it starts
abbrev pub fresh_of : Gateway → State
fresh_of gateway = fresh_state gateway.responder gateway.strict

-- STORY-SENT: an opening packet that the gateway accepts: none of LINK-309 and LINK-310 applies to it
pub record Opens (gateway : Gateway) (p : Packet) : Type 0 where
  pub opening : p.kind ≡ opening_of gateway.responder
  pub acceptable : opening_fault p.kind p.number p.user_data ≡ false
  pub allowed : gateway.responder ≡ true → not_allowed gateway.callers gateway.ours p.user_data ≡ false

-- STORY-SENT: the packet at place 0 opens; those after it are data, or a release. That nothing follows a release need not be supposed.
abbrev pub Kinded : Gateway → ℕ → Packet → Type 0
Kinded gateway zero p = Opens gateway p
Kinded gateway (suc place) p = (p.kind ≡ data_packet) ⊎ (p.kind ≡ release_packet)

-- STORY-SENT: what is supposed of the packet at a place of the sequence; version and application type are any bytes
pub record Sent (gateway : Gateway) (place : ℕ) (p : Packet) : Type 0 where
  pub version_fits : p.version < 2 ^ 8
  pub application_fits : p.application < 2 ^ 8
  -- STORY-SENT: by ones from 0, with wrap
  pub numbered : p.number ≡ place % numbers
  pub short : length p.user_data ≤ most_user_data
  pub kinded : Kinded gateway place p

-- STORY-SENT: packets that may be sent from a place of the sequence on
abbrev pub SentFrom : Gateway → ℕ → List Packet → Type 0
SentFrom gateway place [] = Unit {0}
SentFrom gateway place (p ∷ ps) = Sent gateway place p × SentFrom gateway (suc place) ps

-- STORY-SENT: all that is sent, the opening packet first
abbrev pub Sequence : Gateway → List Packet → Type 0
Sequence gateway sent = SentFrom gateway 0 sent

-- STORY-SENT: a packet's bytes on a link (PKT-0); on the other link they are alike but for flag and check
unfoldable pub packet_on : Bool → Packet → List ℕ
packet_on normal p = packet_bytes normal p.version p.application p.number p.kind p.user_data

-- STORY-SENT: the bytes of packets on a link, one behind the other
abbrev pub bytes_on : Bool → List Packet → List ℕ
bytes_on normal [] = []
bytes_on normal (p ∷ ps) = packet_on normal p ++ bytes_on normal ps

-- STORY-SENT: they are what `packet_writing::write` writes, given the room
abbrev pub SentIsWritten : Type 0
SentIsWritten =
    (gateway : Gateway) (place : ℕ) (p : Packet) → Sent gateway place p → (room : ℕ) → packet_header_size + length p.user_data ≤ room
    → (normal : Bool) → bytes_written room normal p.version p.application p.number p.kind p.user_data ≡ packet_on normal p
