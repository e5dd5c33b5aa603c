-- STORY-RUN: how packets arrive on two links and are taken: any pieces, any steps between them, in any order.
-- Assumes nothing.
use Rattle.std.specs.Prelude.{ℕ, ◌+◌, ◌≡◌, Bool, true, false, cond, List, [], ◌∷◌, ◌++◌, eqb, drop}
use Rattle.rules.specs.Rows.{when◌answer◌else◌}
use Rattle.links.specs.declared.State.{State}
use Rattle.links.specs.declared.Taken.{Taken}
use Rattle.links.specs.Table.{judgeable, taken_of, user_data_of}
use Rattle.link_promises.specs.Promises.{of_link, looks_at}
use Rattle.one_story.specs.Sequence.{Packet, Gateway, fresh_of, bytes_on}

-- STORY-RUN: of one link, all bytes that have arrived, how many of them are used, and how many packets
pub record Link : Type 0 where
  pub arrived : List ℕ
  pub used : ℕ
  pub packets : ℕ

-- STORY-RUN: the two links, the state that the last step left, and what has been handed up, the first first
pub record Moment : Type 0 where
  pub normal : Link
  pub redundant : Link
  pub state : State
  pub handed : List Packet

-- STORY-RUN: one of the two links
abbrev pub link_of : Bool → Moment → Link
link_of normal m = of_link normal m.normal m.redundant

-- STORY-RUN: at first nothing has arrived
abbrev pub nothing_yet : Link
nothing_yet = record { arrived = []; used = 0; packets = 0 }

-- STORY-RUN: the state is fresh, and nothing has been handed up
abbrev pub start : Gateway → Moment
start gateway = record { normal = nothing_yet; redundant = nothing_yet; state = fresh_of gateway; handed = [] }

-- ---- a piece arrives

-- STORY-RUN: the link with a piece more
abbrev pub longer : Link → List ℕ → Link
longer link piece = record { arrived = link.arrived ++ piece; used = link.used; packets = link.packets }

-- STORY-RUN: the moment after a piece has arrived on a link
abbrev pub arrived_on : Bool → List ℕ → Moment → Moment
arrived_on normal piece m = record {
  normal = cond normal (longer m.normal piece) m.normal;
  redundant = cond normal m.redundant (longer m.redundant piece);
  state = m.state;
  handed = m.handed;
}

-- ---- a step

-- STORY-RUN: the buffer that a step is lent holds, from its place, what has arrived on the link and is not used. What stands before the
-- place is free: so this is all that has arrived, with the bytes used as its place, and it is a buffer that is emptied and refilled.
abbrev pub Lends : Link → List ℕ → ℕ → Type 0
Lends link s at = drop at s ≡ drop link.used link.arrived

-- STORY-RUN: nothing to judge is left on a link: no whole packet that is not used
abbrev pub Drained : Link → Type 0
Drained link = judgeable link.arrived link.used ≡ false

-- STORY-RUN: a step uses one packet, or no byte
abbrev pub packets_of : Taken → ℕ
packets_of taken = when (eqb taken.used 0) answer 0 else 1

-- STORY-RUN: the link after a step that names it
abbrev pub used_up : Link → Taken → Link
used_up link taken = record { arrived = link.arrived; used = link.used + taken.used; packets = link.packets + packets_of taken }

-- STORY-RUN: what a step with answer 0 hands up: the fields that it answers, and the user data, byte for byte
unfoldable pub handed_by : List ℕ → List ℕ → Taken → List Packet
handed_by normal redundant taken =
    when (eqb taken.answer 0) answer
    (record {
      version = taken.version;
      application = taken.application;
      number = taken.number;
      kind = taken.kind;
      user_data = user_data_of normal redundant taken;
    }
    ∷ [])
    else []

-- STORY-RUN: the moment after a step
abbrev pub after : List ℕ → List ℕ → Taken → Moment → Moment
after normal redundant taken m = record {
  normal = cond taken.normal (used_up m.normal taken) m.normal;
  redundant = cond taken.normal m.redundant (used_up m.redundant taken);
  state = taken.state;
  handed = m.handed ++ handed_by normal redundant taken;
}

-- STORY-RUN: the step of a gateway over two lent buffers
abbrev pub step_of : Gateway → List ℕ → ℕ → List ℕ → ℕ → Moment → Taken
step_of gateway normal normal_at redundant redundant_at m =
    taken_of normal normal_at redundant redundant_at gateway.callers gateway.ours m.state

-- STORY-RUN: the step over all that has arrived, and the moment after it:
abbrev pub taken_then : Gateway → Moment → Taken
taken_then gateway m = step_of gateway m.normal.arrived m.normal.used m.redundant.arrived m.redundant.used m

abbrev pub stepped : Gateway → Moment → Moment
stepped gateway m = after m.normal.arrived m.redundant.arrived (taken_then gateway m) m

-- STORY-RUN: every moment that can be reached. `brings` is what each link would bring in all: so much of its bytes, in order and
-- undamaged, as has arrived. `Near` is what is supposed of a moment and of a link from which a packet is taken then.
pub data Run (gateway : Gateway) (brings : Bool → List Packet) (Near : Moment → Bool → Type 0) : Moment → Type 0 where
  begun : Run gateway brings Near (start gateway)
  -- a piece of any size, which may end inside a packet
  arrives : {m : Moment} → Run gateway brings Near m → (link : Bool) (piece rest : List ℕ)
      → ((link_of link m).arrived ++ piece) ++ rest ≡ bytes_on link (brings link)
      → Run gateway brings Near (arrived_on link piece m)
  -- one step at any time, on the state that the step before left
  steps : {m : Moment} → Run gateway brings Near m
      → (normal : List ℕ) (normal_at : ℕ) (redundant : List ℕ) (redundant_at : ℕ)
      → Lends m.normal normal normal_at → Lends m.redundant redundant redundant_at
      → ((link : Bool)
      → looks_at normal normal_at redundant redundant_at gateway.callers gateway.ours m.state link ≡ true → Near m link)
      → Run gateway brings Near (after normal redundant (step_of gateway normal normal_at redundant redundant_at m) m)

-- STORY-RUN: nothing is supposed
abbrev pub Anything : Moment → Bool → Type 0
Anything m link = Unit {0}

-- STORY-RUN: something holds at every moment of a run, from its start on
abbrev pub Always : {gateway : Gateway} {brings : Bool → List Packet} {Near : Moment → Bool → Type 0} (P : Moment → Type 0) {m : Moment}
    → Run gateway brings Near m → Type 0
Always P {m} begun = P m
Always P {m} (arrives run link piece rest e) = Always P run × P m
Always P {m} (steps run normal normal_at redundant redundant_at n r near) = Always P run × P m
