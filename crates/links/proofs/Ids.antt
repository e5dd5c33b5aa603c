-- A lent list of callers, looked through entry by entry; and an AU1 past row 309 has both its ids.
-- Assumes nothing.
use Prim.Native.Nat.{ℕ, zero, suc, ◌+◌, ◌/◌, ◌≤◌}
use mathlib.Core.Path.{◌≡◌, refl, sym, ap, ap₂, ◌∙◌, subst}
use mathlib.Core.Bool.{Bool, true, false, not, ◌||◌}
use mathlib.Core.List.{List, [], ◌∷◌, ◌++◌}
use native.Mathlib.Nat.{div-eq_of_lt, add-zero, zero-add}
use native.Mathlib.Omega.{arith}
use borrow.Author.Tests.{eqb-true, ltb-false, not-false}
use denote.Ref.{Bor}
use lib.Dec.{eqb, ltb}
use lib.ListN.{length, replicate, length-append, get_or-append}
use Rattle.std.proofs.lemmas.Iterator.{YieldsList}
use Rattle.std.proofs.lemmas.Iterator.Splits.{YieldsList-from_shown_while}
use Rattle.std.specs.List.{list_any}
use Rattle.std.specs.Slice.Iter.{chunks_exact_steps, chunks_exact_rest, chunks_exact_size}
use Rattle.field.specs.Field.{field_of}
use Rattle.field.specs.Row.{fields_from, fields_of, width_of}
use Rattle.field.proofs.Field.{field_same, field_past}
use Rattle.packet_types.specs.Types.{au1, au1_begins, opening_fault}
use Rattle.packet_types.proofs.TypeRows.{au1_fault}
use Rattle.packet.specs.declared.Header.{Header}
use Rattle.links.specs.Callers.{id_size, callers_of, is_one_of}
use Rattle.links.specs.Table.{not_opening}
use Rattle.links.proofs.Bools.{both_false}

-- ---- the ids of a list, entry by entry

-- fields past what stands in front
fields_past : (ws p s : List ℕ) (k : ℕ) → fields_from ws (p ++ s) 0 (length p + k) ≡ fields_from ws s 0 k
fields_past [] p s k = refl
fields_past (w ∷ ws) p s k =
    ap₂ (λ (i : ℕ) (is : List ℕ). i ∷ is)
    (ap (λ (i : ℕ). field_of (p ++ s) i w) (zero-add (length p + k)) ∙ field_past p s k (length p) w refl ∙ ap (λ (i : ℕ). field_of s i w) (sym (zero-add k)))
    (ap (fields_from ws (p ++ s) 0) (omega arith) ∙ fields_past ws p s (k + w))

-- the first id stands at the front
at_front : (n : ℕ) (s : List ℕ) → fields_from (replicate n id_size) s 0 0 ≡ fields_of (replicate n id_size) s 0
at_front zero s = refl
at_front (suc n) s = refl

one_more_lem : (n : ℕ) → (id_size + n) / id_size ≡ suc (n / id_size)
one_more_lem n = omega arith

-- the ids of a list that begins with an entry
first_entry : (entry rest : List ℕ) → length entry ≡ id_size → callers_of (entry ++ rest) ≡ field_of entry 0 id_size ∷ callers_of rest
first_entry entry rest e =
    let n = length rest / id_size in
    ap (λ (m : ℕ). fields_of (replicate (m / id_size) id_size) (entry ++ rest) 0) (length-append entry rest ∙ ap (λ (m : ℕ). m + length rest) e)
    ∙ ap (λ (m : ℕ). fields_of (replicate m id_size) (entry ++ rest) 0) (one_more_lem (length rest))
    ∙ ap₂ (λ (i : ℕ) (is : List ℕ). i ∷ is)
    (field_same (entry ++ rest) entry 0 0 id_size (λ k l. get_or-append entry rest 0 (0 + k) (omega arith)))
    (ap (fields_from (replicate n id_size) (entry ++ rest) 0) (sym (add-zero (length entry) ∙ e)) ∙ fields_past (replicate n id_size) entry rest 0 ∙ at_front n rest)

-- a list's pieces, each as long as an id, give its ids
pub pieces_give_ids : (list : List ℕ) (s : _) → chunks_exact_rest s ≡ list → chunks_exact_size s ≡ id_size
    → YieldsList chunks_exact_steps (λ (piece : Bor (List ℕ)). field_of piece.now 0 id_size) s (callers_of list)
pieces_give_ids list s is size =
    let id : Bor (List ℕ) → ℕ = λ piece. field_of piece.now 0 id_size in
    subst (λ (l : List ℕ). YieldsList chunks_exact_steps id s (callers_of l)) is
    (YieldsList-from_shown_while chunks_exact_steps id (λ s. callers_of (chunks_exact_rest s)) (λ s. chunks_exact_size s ≡ id_size)
    (λ s t p step. ap (λ (n : ℕ). length (fields_of (replicate n id_size) (chunks_exact_rest s) 0)) (div-eq_of_lt (omega arith)))
    (λ s piece t p step. (step.0 ∙ p, ap callers_of step.1.0 ∙ first_entry piece.now (chunks_exact_rest t) (step.1.1 ∙ p)))
    s size)

-- an id is one of some where any of them is that id
pub any_is_one_of : (id : ℕ) (ids : List ℕ) → list_any (λ i. eqb i id) ids ≡ is_one_of id ids
any_is_one_of id [] = refl
any_is_one_of id (one ∷ others) = ap (λ (b : Bool). eqb one id || b) (any_is_one_of id others)

-- ---- the ids of an AU1

-- an opening packet that a responder accepts has the fields that an AU1 begins with
pub has_both_ids : (header : Header) (user_data : List ℕ) → not_opening true header user_data ≡ false → width_of au1_begins ≤ length user_data
unfolding not_opening
has_both_ids header user_data e =
    let parts = both_false (not (eqb header.kind au1)) (opening_fault header.kind header.number user_data) e in
    let kind = eqb-true header.kind au1 (not-false (eqb header.kind au1) parts.0) in
    let fault : opening_fault au1 header.number user_data ≡ false = subst (λ (k : ℕ). opening_fault k header.number user_data ≡ false) kind parts.1 in
    let tests = sym (au1_fault header.number user_data) ∙ fault in
    ltb-false (length user_data) 9
    (both_false (not (eqb header.number 0)) (ltb (length user_data) 9) (both_false (not (eqb header.number 0) || ltb (length user_data) 9) (not (eqb (field_of user_data 8 1) 3)) tests).0).1
