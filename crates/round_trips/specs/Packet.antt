-- DEMAND-2: what is written reads back as the same fields on that link, and what is read there is written back as the same bytes.
-- Assumes nothing.
use Rattle.std.specs.Prelude.{ℕ, ◌+◌, ◌^◌, ◌<◌, ◌≡◌, Bool, List, ◌++◌, length, take, drop}
use Rattle.field.specs.Row.{Bytes}
use Rattle.packet.specs.Sizes.{least_length, packet_size}
use Rattle.packet.specs.Packet.{packet_header_at, user_data_at, PacketOn}
use Rattle.packet_writing.specs.Writing.{packet_bytes, write_answer}

-- DEMAND-2: the packet that stands at a place is one of the link, with these fields and this user data.
pub record ReadsBack (normal : Bool) (version application number kind : ℕ) (user_data s : List ℕ) (at : ℕ) : Type 0 where
  pub stands : PacketOn normal s at
  pub same_version : (packet_header_at s at).version ≡ version
  pub same_application : (packet_header_at s at).application ≡ application
  pub same_number : (packet_header_at s at).number ≡ number
  pub same_kind : (packet_header_at s at).kind ≡ kind
  pub length_of_data : (packet_header_at s at).length ≡ least_length + length user_data
  pub same_data : user_data_at s at ≡ user_data

-- DEMAND-2: after an answer 0 the bytes that were written, wherever they stand in a link's bytes, read back.
abbrev pub WrittenReadsBack : Type 0
WrittenReadsBack =
    (room : ℕ) (normal : Bool) (version application number kind : ℕ) (user_data before after : List ℕ)
    → version < 2 ^ 8 → application < 2 ^ 8 → number < 2 ^ 16 → kind < 2 ^ 8
    → write_answer room number kind user_data ≡ 0
    → ReadsBack normal version application number kind user_data
    (before ++ (packet_bytes normal version application number kind user_data ++ after))
    (length before)

-- DEMAND-2: a packet of the link, written from its own fields and user data, gives its bytes.
abbrev pub ReadWritesBack : Type 0
ReadWritesBack =
    (normal : Bool) (s : List ℕ) (at : ℕ) → Bytes s → PacketOn normal s at
    → let h = packet_header_at s at in
    packet_bytes normal h.version h.application h.number h.kind (user_data_at s at) ≡ take (packet_size h.length) (drop at s)
