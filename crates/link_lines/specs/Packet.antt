-- A packet in a file of packets to be written: its layout, said once, and the most text that is put for one.
-- Assumes nothing.
use Rattle.std.specs.Prelude.{ℕ, ◌+◌, List, [], ◌∷◌, get_or}
use Rattle.field.specs.Row.{width_of}
use Rattle.text.specs.Text.{most_digits}
use Rattle.text.specs.Line.{most_written_words}
use Rattle.link_lines.specs.declared.one_packet.Packet.{Packet}

-- link, version, application type, number, packet type, room, size; the user data follows them
abbrev pub packet_given_widths : List ℕ
packet_given_widths = 1 ∷ 1 ∷ 1 ∷ 2 ∷ 1 ∷ 2 ∷ 2 ∷ []

-- how many bytes these fields take
abbrev pub packet_fields_size : ℕ
packet_fields_size = width_of packet_given_widths

-- the packet of these fields, in this order
abbrev pub packet_from : List ℕ → Packet
packet_from fields =
    record {
      link = get_or fields 0 0;
      version = get_or fields 1 0;
      application = get_or fields 2 0;
      number = get_or fields 3 0;
      kind = get_or fields 4 0;
      room = get_or fields 5 0;
      size = get_or fields 6 0;
    }

-- the most room of an out buffer: what a field of two bytes can say
abbrev pub most_packet_room : ℕ
most_packet_room = 65535

-- the most text of a packet: the answer, what was written, and the end of the line
abbrev pub most_packet_text : ℕ
most_packet_text = most_digits + most_written_words most_packet_room + 1
