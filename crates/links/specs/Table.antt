-- The table of a step, its rows in LINK-ORDER, each with what follows (specs/Taken).
-- LINK-308, LINK-301, LINK-302, LINK-303, LINK-304 are `link_rows`; LINK-305, LINK-309, LINK-310, LINK-306, LINK-307, LINK-0 are
-- `class_d_rows`.
-- Assumes nothing.
use Rattle.std.specs.Prelude.{ℕ, ◌+◌, Bool, true, false, not, cond, ◌||◌, ◌&&◌, List, [], eqb, ltb, leb, length, take, drop}
use Rattle.rules.specs.Rows.{when◌answer◌else◌}
use Rattle.number.specs.Number.{distance_of, behind_from}
use Rattle.field.specs.Field.{field_of}
use Rattle.packet.specs.Sizes.{length_size, least_length, most_length, packet_size}
use Rattle.packet_types.specs.Types.{au1, au2, in_class_d, opens, opening_fault}
use Rattle.packet.specs.Packet.{packet_header_at, check_at, user_data_at, flag_of}
use Rattle.packet.specs.declared.Header.{Header}
use Rattle.links.specs.declared.State.{State}
use Rattle.links.specs.declared.Taken.{Taken}
use Rattle.links.specs.Taken.{nothing_changes, link_down, dropped, handed_up}
use Rattle.links.specs.Callers.{not_allowed}

-- LINK-302: the length of the packet at a place, seen as soon as its two bytes are there
abbrev pub length_at : List ℕ → ℕ → ℕ
length_at s at = field_of s at length_size

-- LINK-302: under the least length, or over the most
unfoldable pub length_fault : ℕ → Bool
length_fault length = ltb length least_length || ltb most_length length

-- LINK-LOOK: a link has a length fault that can be judged, or a whole packet; LINK-PAST: nothing past the end
unfoldable pub judgeable : List ℕ → ℕ → Bool
judgeable s at = leb (at + length_size) (length s) && (length_fault (length_at s at) || leb (at + packet_size (length_at s at)) (length s))

-- LINK-LOOK, LINK-301: such bytes on a link that is up
abbrev pub held : Bool → List ℕ → ℕ → Bool
held up s at = up && judgeable s at

-- LINK-308: no link is up
unfoldable pub both_down : State → Bool
both_down state = not state.normal_up && not state.redundant_up

-- LINK-309: what opens a connection, AU1 to the responder, AU2 to the initiator
abbrev pub opening_of : Bool → ℕ
opening_of responder = cond responder au1 au2

-- LINK-309: a first packet that is no acceptable opening for the role
unfoldable pub not_opening : Bool → Header → List ℕ → Bool
not_opening responder header user_data =
    not (eqb header.kind (opening_of responder)) || opening_fault header.kind header.number user_data

-- LINK-306: a later packet that opens again, repeats or lies behind
unfoldable pub not_later : ℕ → ℕ → Bool
not_later kind d = opens kind || eqb d 0 || leb behind_from d

-- LINK-307: a later packet that leaves some out, where the setting is strict
unfoldable pub too_far : Bool → ℕ → Bool
too_far strict d = strict && leb 2 d

-- LINK-308, LINK-301, LINK-302, LINK-303, LINK-304: the rows of either class, in LINK-ORDER. `found`: a link that is up has such bytes.
-- The link looked at is the normal one or not, with the bytes s and the place at. `rest` is what the rows of the packet's class give.
unfoldable pub link_rows : Bool → Bool → List ℕ → ℕ → State → Taken → Taken
link_rows found normal s at state rest =
    when (both_down state) answer nothing_changes 308 state else
    when (not found) answer nothing_changes 301 state else
    when (length_fault (length_at s at)) answer link_down 302 normal state else
    when (not (eqb (packet_header_at s at).check (check_at s at))) answer link_down 303 normal state else
    when (not (eqb (packet_header_at s at).flag (flag_of normal))) answer link_down 304 normal state else
    rest

-- LINK-305, LINK-309, LINK-310, LINK-306, LINK-307, LINK-0: the rows of class D, in LINK-ORDER, of the packet at a place with its header
-- and its user data, by the list of callers and our own id. d is of later packets: before the first there is no number last handed up
-- (LINK-FIRST).
unfoldable pub class_d_rows : Bool → ℕ → Header → List ℕ → List ℕ → ℕ → State → Taken
class_d_rows normal at header user_data callers ours state =
    when (not (in_class_d header.kind)) answer dropped 305 normal header state else
    when (state.first && not_opening state.responder header user_data) answer dropped 309 normal header state else
    when (state.first && state.responder && not_allowed callers ours user_data) answer dropped 310 normal header state else
    when (not state.first && not_later header.kind (distance_of header.number state.last))
    answer dropped 306 normal header state else
    when (not state.first && too_far state.strict (distance_of header.number state.last))
    answer dropped 307 normal header state else
    handed_up normal at header state

-- LINK-ORDER: all rows, of the link looked at
abbrev pub rows_of : Bool → Bool → List ℕ → ℕ → List ℕ → ℕ → State → Taken
rows_of found normal s at callers ours state =
    link_rows found normal s at state (class_d_rows normal at (packet_header_at s at) (user_data_at s at) callers ours state)

-- LINK-LOOK: at the normal link first, and where that has nothing to judge at the redundant one
unfoldable pub taken_of : List ℕ → ℕ → List ℕ → ℕ → List ℕ → ℕ → State → Taken
taken_of normal normal_at redundant redundant_at callers ours state =
    when (held state.normal_up normal normal_at) answer rows_of true true normal normal_at callers ours state else
    rows_of (held state.redundant_up redundant redundant_at) false redundant redundant_at callers ours state

-- LINK-MADE: the part of a slice that starts there and has so many bytes; nothing where it does not lie within
abbrev pub part_of : List ℕ → ℕ → ℕ → List ℕ
part_of s start size = when (leb (start + size) (length s)) answer take size (drop start s) else []

-- LINK-PART: a part of the slice of the link that the answer names; LINK-EMPTY
unfoldable pub user_data_of : List ℕ → List ℕ → Taken → List ℕ
user_data_of normal redundant taken =
    when (eqb taken.answer 0) answer part_of (cond taken.normal normal redundant) taken.start taken.size else
    []
