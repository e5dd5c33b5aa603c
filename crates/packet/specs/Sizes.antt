-- The sizes of a packet: PKT-LEN.
-- Assumes nothing.
use Rattle.std.specs.Prelude.{ℕ, ◌+◌}

-- PKT-LAYOUT: the length's own bytes, which it does not count
abbrev pub length_size : ℕ
length_size = 2

-- PKT-LAYOUT: the bytes of a header, those of the length among them
abbrev pub packet_header_size : ℕ
packet_header_size = 10

-- PKT-LEN: the length of a packet with no user data
abbrev pub least_length : ℕ
least_length = 8

-- PKT-LEN: the most bytes of user data
abbrev pub most_user_data : ℕ
most_user_data = 65000

-- PKT-LEN: 65,008
abbrev pub most_length : ℕ
most_length = least_length + most_user_data

-- LINK-USED: all bytes of a packet, those that its length counts and the length's own
abbrev pub packet_size : ℕ → ℕ
packet_size length = length + length_size

-- PKT-LEN: the most bytes of a packet, 65,010; LINK-SEEN: a step sees no more of a link
abbrev pub most_packet : ℕ
most_packet = packet_size most_length

-- PKT-CHECK: the bytes that the check is over
abbrev pub checked_bytes : ℕ
checked_bytes = 8

-- PKT-CHECK: the fields that these bytes are
abbrev pub checked_fields : ℕ
checked_fields = 6
