-- The third column of the table LINK-308 .. LINK-0: what follows.
-- Assumes nothing.
use Rattle.std.specs.Prelude.{ℕ, ◌+◌, ◌-◌, Bool, true, false, cond}
use Rattle.packet.specs.Sizes.{packet_header_size, least_length, packet_size}
use Rattle.packet.specs.declared.Header.{Header}
use Rattle.links.specs.declared.State.{State}
use Rattle.links.specs.declared.Taken.{Taken}

-- LINK-FRESH: both links up, and the first packet awaited
abbrev pub fresh_state : Bool → Bool → State
fresh_state responder strict = record {
  normal_up = true;
  redundant_up = true;
  responder = responder;
  strict = strict;
  first = true;
  last = 0;
}

-- LINK-STAYS: the state with that link down
abbrev pub down_of : Bool → State → State
down_of normal state = record {
  normal_up = cond normal false state.normal_up;
  redundant_up = cond normal state.redundant_up false;
  responder = state.responder;
  strict = state.strict;
  first = state.first;
  last = state.last;
}

-- LINK-0: the state that remembers the number of what is handed up
abbrev pub remembered_of : ℕ → State → State
remembered_of number state = record {
  normal_up = state.normal_up;
  redundant_up = state.redundant_up;
  responder = state.responder;
  strict = state.strict;
  first = false;
  last = number;
}

-- LINK-EMPTY: no part and no field of a packet
abbrev pub empty_part : ℕ → Bool → ℕ → State → Taken
empty_part answer normal used state = record {
  answer = answer;
  normal = normal;
  used = used;
  start = 0;
  size = 0;
  version = 0;
  application = 0;
  kind = 0;
  number = 0;
  state = state;
}

-- LINK-308, LINK-301: nothing changes; LINK-NAMED
abbrev pub nothing_changes : ℕ → State → Taken
nothing_changes answer state = empty_part answer true 0 state

-- LINK-302, LINK-303, LINK-304: the link goes down; LINK-UNUSED
abbrev pub link_down : ℕ → Bool → State → Taken
link_down answer normal state = empty_part answer normal 0 (down_of normal state)

-- LINK-305, LINK-309, LINK-310, LINK-306, LINK-307: used and dropped; LINK-USED: as many bytes as the packet has
abbrev pub dropped : ℕ → Bool → Header → State → Taken
dropped answer normal header state = empty_part answer normal (packet_size header.length) state

-- LINK-0: handed up, and its number remembered; the user data stands behind the header; LINK-USED: as many bytes as the packet has
abbrev pub handed_up : Bool → ℕ → Header → State → Taken
handed_up normal at header state = record {
  answer = 0;
  normal = normal;
  used = packet_size header.length;
  start = at + packet_header_size;
  size = header.length - least_length;
  version = header.version;
  application = header.application;
  kind = header.kind;
  number = header.number;
  state = remembered_of header.number state;
}
