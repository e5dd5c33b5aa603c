-- Writing a packet: its bytes, which packets are refused, and what is written.
-- Assumes nothing.
use Rattle.std.specs.Prelude.{ℕ, ◌+◌, Bool, List, [], ◌∷◌, ◌++◌, eqb, ltb, length, take, Option, Some, None}
use Rattle.rules.specs.Rows.{when◌answer◌else◌}
use Rattle.field.specs.Row.{row_of}
use Rattle.packet.specs.Sizes.{packet_header_size, least_length, most_user_data, checked_fields}
use Rattle.packet.specs.Check.{check_of}
use Rattle.packet.specs.Packet.{packet_widths, flag_of}
use Rattle.packet_types.specs.Types.{not_class_d}
use Rattle.packet_writing.specs.declared.Written.{Written}
use Rattle.packet_writing.specs.declared.Refusal.{Refusal}
use Rattle.packet_writing.specs.declared.Refusal.TheVariants.{NotClassD, TooLong, NoRoom}

-- PKT-LAYOUT: the bytes of the fields before the check
abbrev pub checked_row : ℕ → ℕ → ℕ → ℕ → ℕ → ℕ → List ℕ
checked_row counted version application number flag kind =
    row_of (take checked_fields packet_widths) (counted ∷ version ∷ application ∷ number ∷ flag ∷ kind ∷ [])

-- PKT-LAYOUT: those of a packet with this user data for this link
abbrev pub checked_of : Bool → ℕ → ℕ → ℕ → ℕ → List ℕ → List ℕ
checked_of normal version application number kind user_data =
    (least_length + length user_data) ∷ version ∷ application ∷ number ∷ flag_of normal ∷ kind ∷ []

-- PKT-CHECK: the check over them
abbrev pub check_for : List ℕ → ℕ
check_for fields = check_of (row_of (take checked_fields packet_widths) fields)

-- PKT-0: all bytes of that packet
abbrev pub packet_bytes : Bool → ℕ → ℕ → ℕ → ℕ → List ℕ → List ℕ
packet_bytes normal version application number kind user_data =
    row_of packet_widths
    (checked_of normal version application number kind user_data
    ++ (check_for (checked_of normal version application number kind user_data) ∷ []))
    ++ user_data

-- PKT-311, PKT-312, PKT-313: the number of each refusal
abbrev pub refusal_number : Refusal → ℕ
refusal_number NotClassD = 311
refusal_number TooLong = 312
refusal_number NoRoom = 313

-- PKT-0: and of none
abbrev pub answer_of : Option Refusal → ℕ
answer_of None = 0
answer_of (Some refusal) = refusal_number refusal

-- PKT-311, PKT-312, PKT-313 in PKT-ORDER: the answer for a packet and an out buffer of `room` bytes.
unfoldable pub write_answer : ℕ → ℕ → ℕ → List ℕ → ℕ
write_answer room number kind user_data =
    when (not_class_d number kind user_data) answer 311 else
    when (ltb most_user_data (length user_data)) answer 312 else
    when (ltb room (packet_header_size + length user_data)) answer 313 else
    0

-- PKT-0: what `write` answers, and how many bytes it wrote; PKT-NONE: none where it refuses.
unfoldable pub packet_written : ℕ → ℕ → ℕ → List ℕ → Written
packet_written room number kind user_data =
    when (eqb (write_answer room number kind user_data) 0) answer
    (record { answer = 0; written = packet_header_size + length user_data }) else
    record { answer = write_answer room number kind user_data; written = 0 }

-- PKT-0: the bytes that it wrote, from the front of the out buffer; PKT-NONE: none where it refuses.
unfoldable pub bytes_written : ℕ → Bool → ℕ → ℕ → ℕ → ℕ → List ℕ → List ℕ
bytes_written room normal version application number kind user_data =
    when (eqb (write_answer room number kind user_data) 0) answer (packet_bytes normal version application number kind user_data) else
    []
