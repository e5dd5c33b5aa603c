-- One link of a run: it has brought a first part of its packets' bytes, and used a number of whole packets of them.
-- Assumes nothing.
use Prim.Native.Nat.{ℕ, suc, ◌+◌, ◌-◌, ◌≤◌, ◌<◌}
use mathlib.Core.Path.{◌≡◌, refl, sym, ap, ◌∙◌}
use mathlib.Core.Bool.{Bool, true, false, false≢true}
use mathlib.Core.List.{List, [], ◌++◌}
use native.Mathlib.Omega.{arith}
use borrow.Author.Tests.{ltb-true, ltb-false, ne_eqb}
use lib.Dec.{ltb}
use lib.ListN.{length, take, drop, length-append, length-drop, drop_of_length-le}
use lib.Seq.{drop-append-le}
use Rattle.packet.specs.Sizes.{packet_header_size, most_packet}
use Rattle.links.specs.declared.Taken.{Taken}
use Rattle.links.specs.Table.{judgeable}
use Rattle.links.proofs.Judged.{seen}
use Rattle.link_promises.proofs.Seen.{same_judgeable}
use Rattle.one_story.specs.Sequence.{Packet, Gateway, packet_on, bytes_on}
use Rattle.one_story.specs.Run.{Link, nothing_yet, longer, Lends, packets_of, used_up}
use Rattle.one_story.specs.OneStory.{FrontUsed, Whole}
use Rattle.one_story.proofs.Pieces.{bytes_past, bytes_grow, Next, Placed, next_bytes}
use Rattle.one_story.proofs.Standing.{Stands, packet_length, enough, whole_judgeable, stands}

-- what holds of a link at every moment
pub record Brought (normal : Bool) (brought : List Packet) (link : Link) : Type 0 where
  pub read : FrontUsed normal brought link
  pub rest : List ℕ
  pub prefix : link.arrived ++ rest ≡ bytes_on normal brought

pub at_first : (normal : Bool) (brought : List Packet) → Brought normal brought nothing_yet
at_first normal brought = record {
  read = record { first_part = omega arith; whole = refl; there = omega arith };
  rest = bytes_on normal brought;
  prefix = refl;
}

-- more has arrived
pub brings_more : (normal : Bool) (brought : List Packet) (link : Link) (piece rest : List ℕ) → (link.arrived ++ piece) ++ rest ≡ bytes_on normal brought
    → Brought normal brought link → Brought normal brought (longer link piece)
brings_more normal brought link piece rest e b = record {
  read = record { first_part = b.read.first_part; whole = b.read.whole; there = omega (arith, length-append link.arrived piece, b.read.there) };
  rest = rest;
  prefix = e;
}

-- ---- a packet more is used

pub one_packet : (t : Taken) (n : ℕ) → t.used ≡ packet_header_size + n → packets_of t ≡ 1
one_packet t n u = simp (ne_eqb t.used 0 (λ z. omega (arith, u, z)))

-- ---- what is lent

-- a lent buffer is judged as all that has arrived
pub lent_judgeable : (link : Link) (s : List ℕ) (at : ℕ) → Lends link s at → judgeable s at ≡ judgeable link.arrived link.used
lent_judgeable link s at lent = same_judgeable s at link.arrived link.used (ap (take most_packet) lent)

module _ (gateway : Gateway) (normal : Bool) (brought : List Packet) (link : Link) (b : Brought normal brought link) (s : List ℕ) (at : ℕ) (lent : Lends link s at) where
  -- the bytes of the packets that are not used, as far as they have arrived
  unused : drop at s ++ b.rest ≡ bytes_on normal (drop link.packets brought)
  unused =
      ap (λ (l : List ℕ). l ++ b.rest) lent
      ∙ sym (drop-append-le link.used link.arrived b.rest b.read.there)
      ∙ ap (drop link.used) b.prefix
      ∙ ap (λ (n : ℕ). drop n (bytes_on normal brought)) b.read.whole
      ∙ bytes_past normal link.packets brought

  -- a link that holds something to judge holds a packet more
  pub not_all : judgeable s at ≡ true → link.packets < length brought
  not_all h = go (ltb link.packets (length brought)) refl
    where
      go : (t : Bool) → ltb link.packets (length brought) ≡ t → link.packets < length brought
      go true e = ltb-true link.packets (length brought) e
      go false e =
          let none : drop at s ++ b.rest ≡ [] = unused ∙ ap (bytes_on normal) (drop_of_length-le brought (ltb-false link.packets (length brought) e)) in
          let z : ⊥ = omega (arith, ap length none, length-append (drop at s) b.rest, length-drop at s, seen s at h) in
          absurd z

  module _ (place : ℕ) (n : Next gateway place brought link.packets) where
    starts : drop at s ++ b.rest ≡ packet_on normal n.packet ++ bytes_on normal (drop (suc link.packets) brought)
    starts = unused ∙ ap (bytes_on normal) n.onward

    pub more : length (bytes_on normal (take (suc link.packets) brought))
        ≡ length (bytes_on normal (take link.packets brought)) + (packet_header_size + length n.packet.user_data)
    more =
        let size = packet_length gateway place n.packet n.sent normal in
        let e = ap length (next_bytes gateway brought normal place link.packets n) in
        omega (arith, e, length-append (bytes_on normal (take link.packets brought)) (packet_on normal n.packet), size)

    -- the packet there is the next of those that the link brings
    pub stands_there : judgeable s at ≡ true → Stands normal n.packet s at
    stands_there h = stands gateway place n.packet n.sent normal s at b.rest (bytes_on normal (drop (suc link.packets) brought)) starts h

    -- all of it has arrived
    pub arrived_there : judgeable s at ≡ true → link.used + (packet_header_size + length n.packet.user_data) ≤ length link.arrived
    arrived_there h =
        let all = enough gateway place n.packet n.sent normal s at b.rest (bytes_on normal (drop (suc link.packets) brought)) starts h in
        omega (arith, all, length-drop at s, length-drop link.used link.arrived, ap length lent)

    pub used_there : judgeable s at ≡ true → (t : Taken) → t.used ≡ packet_header_size + length n.packet.user_data → Brought normal brought (used_up link t)
    used_there h t u =
        let one = one_packet t (length n.packet.user_data) u in
        let next : link.packets + packets_of t ≡ suc link.packets = omega (arith, one) in
        let sum : link.used + t.used ≡ length (bytes_on normal (take (suc link.packets) brought)) = omega (arith, b.read.whole, more, u) in
        record {
          read = record {
            first_part = omega (arith, one, not_all h);
            whole = sum ∙ sym (ap (λ (k : ℕ). length (bytes_on normal (take k brought))) next);
            there = omega (arith, u, arrived_there h);
          };
          rest = b.rest;
          prefix = b.prefix;
        }

    -- a packet that has arrived whole and is not used is there to judge
    pub holds_next : length (bytes_on normal (take (suc link.packets) brought)) ≤ length link.arrived → judgeable s at ≡ true
    holds_next a =
        whole_judgeable gateway place n.packet n.sent normal s at b.rest (bytes_on normal (drop (suc link.packets) brought)) starts
        (room (length link.arrived) link.used (length (drop at s)) (length s) (packet_header_size + length n.packet.user_data) (omega (arith, b.read.whole, more))
        (omega (arith, length-drop link.used link.arrived, ap length lent, b.read.there)) (length-drop at s) (omega arith))
      where
        room : (arrived used left size more : ℕ) → used + more ≤ arrived → used + left ≡ arrived → left ≡ size - at → 0 < more → at + more ≤ size
        room arrived used left size more h l e p = omega arith

  -- where nothing is left to judge, the packets used are all that have arrived whole
  pub whole_used : (place_of : ℕ → ℕ) → Placed gateway brought place_of → judgeable s at ≡ false → Whole normal brought link.arrived link.packets
  whole_used place_of placed e = record {
    within = b.read.first_part;
    all_there = omega (arith, b.read.whole, b.read.there);
    no_more = λ k l there. by k l there (ltb link.packets k) refl;
  }
    where
      by : (k : ℕ) → k ≤ length brought → length (bytes_on normal (take k brought)) ≤ length link.arrived → (t : Bool) → ltb link.packets k ≡ t → k ≤ link.packets
      by k l there false f = ltb-false link.packets k f
      by k l there true f =
          let less = ltb-true link.packets k f in
          let x = placed link.packets (omega arith) in
          let grow = bytes_grow normal brought (suc link.packets) k less in
          absurd (false≢true (sym e ∙ holds_next (place_of link.packets) x (omega arith)))

-- there is one such number
pub same_whole : (normal : Bool) (brought : List Packet) (bytes : List ℕ) (a b : ℕ) → Whole normal brought bytes a → Whole normal brought bytes b → a ≡ b
same_whole normal brought bytes a b x y =
    let up = y.no_more a x.within x.all_there in
    let down = x.no_more b y.within y.all_there in
    omega arith
