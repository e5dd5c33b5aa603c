-- A packet on a link: the layout of its header, said once, for reading and for writing.
-- Assumes nothing.
use Rattle.std.specs.Prelude.{ℕ, ◌+◌, ◌-◌, ◌≤◌, ◌≡◌, Bool, cond, List, [], ◌∷◌, length, get_or, take, drop}
use Rattle.std.specs.Borrow.{Bor}
use Rattle.field.specs.Row.{fields_of}
use Rattle.packet.specs.Sizes.{packet_header_size, least_length, most_length, packet_size, checked_bytes}
use Rattle.packet.specs.Check.{check_of}
use Rattle.packet.specs.declared.Header.{Header}

-- PKT-LAYOUT: length 2, version 1, application type 1, transport number 2, N/R flag 1, packet type 1, check 2; then the user data
abbrev pub packet_widths : List ℕ
packet_widths = 2 ∷ 1 ∷ 1 ∷ 2 ∷ 1 ∷ 1 ∷ 2 ∷ []

-- PKT-LAYOUT: the fields by their names, in this order; PKT-KEPT: version and application type are kept
abbrev pub packet_header_from : List ℕ → Header
packet_header_from fields = record {
  length = get_or fields 0 0;
  version = get_or fields 1 0;
  application = get_or fields 2 0;
  number = get_or fields 3 0;
  flag = get_or fields 4 0;
  kind = get_or fields 5 0;
  check = get_or fields 6 0;
}

-- PKT-LAYOUT: the header of the packet that stands at a place of a link's bytes; PKT-KEPT: with whatever version and application type
abbrev pub packet_header_at : List ℕ → ℕ → Header
packet_header_at s at = packet_header_from (fields_of packet_widths s at)

-- PKT-CHECK: what the check field of that packet ought to hold
abbrev pub check_at : List ℕ → ℕ → ℕ
check_at s at = check_of (take checked_bytes (drop at s))

-- PKT-LAYOUT: that packet's user data
abbrev pub user_data_at : List ℕ → ℕ → List ℕ
user_data_at s at = take ((packet_header_at s at).length - least_length) (drop (at + packet_header_size) s)

-- LINK-PART: and where it stands in the link's own memory
abbrev pub user_data_place_at : Bor (List ℕ) → ℕ → ℕ × ℕ
user_data_place_at s at = (s.ref_ptr.0, s.ref_ptr.1 + (at + packet_header_size))

-- PKT-FLAG: the normal link's flag
abbrev pub normal_flag : ℕ
normal_flag = 1

-- PKT-FLAG: the redundant link's flag
abbrev pub redundant_flag : ℕ
redundant_flag = 0

-- PKT-FLAG: the flag of a link
abbrev pub flag_of : Bool → ℕ
flag_of normal = cond normal normal_flag redundant_flag

-- PKT-LEN, PKT-CHECK, PKT-FLAG: a packet of the link stands whole at a place, its length allowed, its check right, its flag the link's
pub record PacketOn (normal : Bool) (s : List ℕ) (at : ℕ) : Type 0 where
  pub whole : at + packet_size (packet_header_at s at).length ≤ length s
  pub least : least_length ≤ (packet_header_at s at).length
  pub most : (packet_header_at s at).length ≤ most_length
  pub right : (packet_header_at s at).check ≡ check_at s at
  pub flagged : (packet_header_at s at).flag ≡ flag_of normal
