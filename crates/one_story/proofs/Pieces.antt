-- Packets that a link brings and their bytes, cut at a packet.
-- Assumes nothing.
use Prim.Native.Nat.{ℕ, zero, suc, ◌+◌, ◌-◌, ◌≤◌, ◌<◌}
use mathlib.Core.Path.{◌≡◌, refl, sym, ap, ◌∙◌, subst}
use mathlib.Core.Bool.{Bool}
use mathlib.Core.List.{List, [], ◌∷◌, ◌++◌, append_assoc, append-nil}
use native.Mathlib.Omega.{arith}
use lib.ListN.{length, take, drop, length-append, take-append-drop}
use lib.Seq.{drop-append_seam, take-add}
use Rattle.one_story.specs.Sequence.{Packet, Gateway, Sent, SentFrom, Sequence, packet_on, bytes_on}

pub bytes_append : (normal : Bool) (a b : List Packet) → bytes_on normal (a ++ b) ≡ bytes_on normal a ++ bytes_on normal b
bytes_append normal [] b = refl
bytes_append normal (p ∷ a) b =
    ap (λ (l : List ℕ). packet_on normal p ++ l) (bytes_append normal a b) ∙ sym (append_assoc (packet_on normal p) (bytes_on normal a) (bytes_on normal b))

-- what stands past the first k packets
pub bytes_past : (normal : Bool) (k : ℕ) (ps : List Packet) → drop (length (bytes_on normal (take k ps))) (bytes_on normal ps) ≡ bytes_on normal (drop k ps)
bytes_past normal k ps =
    ap (drop (length (bytes_on normal (take k ps))))
    (ap (bytes_on normal) (sym (take-append-drop k ps)) ∙ bytes_append normal (take k ps) (drop k ps))
    ∙ drop-append_seam (bytes_on normal (take k ps)) (bytes_on normal (drop k ps))

-- more packets, no fewer bytes
pub bytes_grow : (normal : Bool) (ps : List Packet) (a b : ℕ) → a ≤ b → length (bytes_on normal (take a ps)) ≤ length (bytes_on normal (take b ps))
bytes_grow normal ps a b h =
    let n : b ≡ a + (b - a) = omega arith in
    let e : bytes_on normal (take b ps) ≡ bytes_on normal (take a ps) ++ bytes_on normal (take (b - a) (drop a ps)) =
    ap (λ (j : ℕ). bytes_on normal (take j ps)) n ∙ ap (bytes_on normal) (take-add a (b - a) ps) ∙ bytes_append normal (take a ps) (take (b - a) (drop a ps)) in
    omega (arith, ap length e, length-append (bytes_on normal (take a ps)) (bytes_on normal (take (b - a) (drop a ps))))

-- the packet that is the k-th of those brought and has a place in the sequence
pub record Next (gateway : Gateway) (place : ℕ) (ps : List Packet) (k : ℕ) : Type 0 where
  pub packet : Packet
  pub sent : Sent gateway place packet
  pub onward : drop k ps ≡ packet ∷ drop (suc k) ps
  pub so_far : take (suc k) ps ≡ take k ps ++ (packet ∷ [])

-- Of packets that a link brings: each has a place in the sequence.
abbrev pub Placed : Gateway → List Packet → (ℕ → ℕ) → Type 0
Placed gateway ps place_of = (k : ℕ) → k < length ps → Next gateway (place_of k) ps k

-- one packet before them
pub before : (gateway : Gateway) (p : Packet) (place : ℕ) (ps : List Packet) (k : ℕ) → Next gateway place ps k → Next gateway place (p ∷ ps) (suc k)
before gateway p place ps k n = record {
  packet = n.packet;
  sent = n.sent;
  onward = n.onward;
  so_far = ap (λ (l : List Packet). p ∷ l) n.so_far;
}

-- where all is brought, the place in the sequence is the place among those brought
next_from : (gateway : Gateway) (i k : ℕ) (ps : List Packet) → SentFrom gateway i ps → k < length ps → Next gateway (i + k) ps k
next_from gateway i k [] g h = let none : ⊥ = omega arith in absurd none
next_from gateway i zero (p ∷ ps) g h =
    let e : i ≡ i + 0 = omega arith in
    record { packet = p; sent = subst (λ (n : ℕ). Sent gateway n p) e g.0; onward = refl; so_far = refl }
next_from gateway i (suc k) (p ∷ ps) g h =
    let e : suc i + k ≡ i + suc k = omega arith in
    before gateway p (i + suc k) ps k (subst (λ (j : ℕ). Next gateway j ps k) e (next_from gateway (suc i) k ps g.1 (omega arith)))

pub next_of : (gateway : Gateway) (sent : List Packet) → Sequence gateway sent → Placed gateway sent (λ (k : ℕ). k)
next_of gateway sent g k h =
    let e : 0 + k ≡ k = omega arith in
    subst (λ (j : ℕ). Next gateway j sent k) e (next_from gateway 0 k sent g h)

-- the bytes up to it and with it
pub next_bytes : (gateway : Gateway) (ps : List Packet) (link : Bool) (place k : ℕ) (n : Next gateway place ps k)
    → bytes_on link (take (suc k) ps) ≡ bytes_on link (take k ps) ++ packet_on link n.packet
next_bytes gateway ps link place k n =
    ap (bytes_on link) n.so_far
    ∙ bytes_append link (take k ps) (n.packet ∷ [])
    ∙ ap (λ (l : List ℕ). bytes_on link (take k ps) ++ l) (append-nil (packet_on link n.packet))
