-- What is put into an array, and into a part of a lent buffer; and a room that is emptied.
-- Assumes nothing.
use mathlib.Core.Option as maybe
use Rattle.std.proofs.Common.{refl, zero, suc, ap, ap₂, subst, sym, ◌≡◌, ◌∙◌, ◌+◌, ◌-◌, ◌≤◌, List, [], ◌∷◌, ◌++◌, append-nil, Result, Ok, Err, IsOk, OnOk, OnErr, length, take, drop, take_at, drop_at, take-append-drop, length-append, length-take-le, drop-drop, arith, ℕ}
use mathlib.Core.Bool.{false≢true}
use borrow.Rule.Slice.Mut.{set_vals}
use lib.Seq.{sets, sets-eq, length-sets}
use Rattle.std.specs.Borrow.{MutBor, GName}
use Rattle.text.specs.Text.{Held, put, left, room_of, PutAt}
use Rattle.text.specs.Room.{held_in_array, held_in_part, PutsInPlace}

none_left : (n : ℕ) → drop {A = ℕ} n [] ≡ []
none_left zero = refl
none_left (suc n) = refl

pub array_put : (size : ℕ) (text s after : List ℕ) → after ≡ text ++ s → held_in_array size after ≡ put s (held_in_array size text)
unfolding put
array_put size text s after e =
    ap (held_in_array size) e
    ∙ ap (λ (behind : List ℕ). record { text = text ++ s; behind = behind; size = size; lent_by = maybe.none }) (sym (none_left (length s)))

-- an array is extended where there is room: where it says that there is none, it was given nothing
pub array_extended : {V T E : Type 0} (items : V → List ℕ) (size : ℕ) (was now : V) (s : List ℕ) (r : Result T E)
    → (length (items was) + length s ≤ size → IsOk r) → OnOk r (items now ≡ items was ++ s) → OnErr r (now ≡ was)
    → length s ≤ left (held_in_array size (items was)) → items now ≡ items was ++ s
unfolding left
array_extended items size was now s (Ok x) fits put stays h = put
array_extended items size was now s (Err e) fits put stays h =
    ap items stays ∙ sym (append-nil (items was)) ∙ ap (λ (l : List ℕ). items was ++ l) (nothing s h (λ room. false≢true (fits room)))
  where
    nothing : (l : List ℕ) → length l ≤ size - length (items was) → (length (items was) + length l ≤ size → ⊥) → [] ≡ l
    nothing [] h full = refl
    nothing (b ∷ l) h full = absurd (full (omega (arith, h)))

-- what has room behind a place stands within the buffer
pub part_fits : (buffer : MutBor (List ℕ)) (at : ℕ) (s : List ℕ) → at ≤ length buffer.now → length s ≤ left (held_in_part buffer at)
    → at + length s ≤ length buffer.now
unfolding left
part_fits buffer at s within fits = omega (arith, within, fits, length-take-le at buffer.now within)

pub part_put : (buffer : MutBor (List ℕ)) (at next : ℕ) (s after : List ℕ) → at + length s ≤ length buffer.now → next ≡ at + length s
    → after ≡ sets buffer.now at s → held_in_part (set_vals after buffer) next ≡ put s (held_in_part buffer at)
unfolding put
part_put buffer at next s after fits place stored =
    let was = buffer.now in
    let now : after ≡ (take at was ++ s) ++ drop (at + length s) was = stored ∙ sets-eq s was at fits in
    let size : length (take at was ++ s) ≡ next = omega (arith, length-append (take at was) s, length-take-le at was (omega arith), place) in
    let text : take next after ≡ take at was ++ s = ap (take next) now ∙ take_at (take at was ++ s) (drop (at + length s) was) next size in
    let behind : drop next after ≡ drop (length s) (drop at was) =
    ap (drop next) now ∙ drop_at (take at was ++ s) (drop (at + length s) was) next size ∙ sym (drop-drop (length s) at was) in
    let long : length after ≡ length was = ap (λ (l : List ℕ). length l) stored ∙ length-sets was at s in
    ap₂ (λ (text behind : List ℕ). record (held_in_part (set_vals after buffer) next) { text = text; behind = behind }) text behind
    ∙ ap (λ (size : ℕ). record (put s (held_in_part buffer at)) { size = size }) long

lender_of : GName → maybe.Option GName → GName
lender_of other maybe.none = other
lender_of other (maybe.some name) = name

pub puts_in_place : PutsInPlace
unfolding put lender_of
puts_in_place before after at next text within within_after same =
    let was = before.now in
    let is = after.now in
    let text_is : take next is ≡ take at was ++ text = ap (λ (held : Held). held.text) same in
    let behind_is : drop next is ≡ drop (at + length text) was = ap (λ (held : Held). held.behind) same ∙ drop-drop (length text) at was in
    let size : length is ≡ length was = ap (λ (held : Held). held.size) same in
    let place : next ≡ at + length text =
    omega (
      arith,
      length-take-le next is within_after,
      length-take-le at was within,
      length-append (take at was) text,
      ap (λ (l : List ℕ). length l) text_is,
    ) in
    let bytes : is ≡ sets was at text =
    sym (take-append-drop next is) ∙ ap₂ (λ (front rest : List ℕ). front ++ rest) text_is behind_is
    ∙ sym (sets-eq text was at (omega (arith, place, size, within_after))) in
    (record { place = place; bytes = bytes }, ap (λ (held : Held). lender_of before.ghost_name held.lent_by) same)

-- So too of a buffer that is lent on as a part: it is left as the part leaves it, where that is still the same one.
module _ (buffer : List ℕ) (at : ℕ) (before : MutBor (List ℕ)) (place : ℕ) (is : before.now ≡ buffer) (there : place ≡ at) where
  pub part_has_room : (size : ℕ) → at + size ≤ length buffer → size ≤ left (held_in_part before place)
  unfolding left
  part_has_room size fits =
      omega (arith, fits, there, ap (λ (l : List ℕ). length l) is, length-take-le place before.now (omega (arith, fits, there, ap (λ (l : List ℕ). length l) is)))

  pub part_left : at ≤ length buffer → left (held_in_part before place) ≡ length buffer - at
  unfolding left
  part_left within =
      omega (arith, within, there, ap (λ (l : List ℕ). length l) is, length-take-le place before.now (omega (arith, within, there, ap (λ (l : List ℕ). length l) is)))

  pub part_is_in_place : (after : MutBor (List ℕ)) (next : ℕ) (text last : List ℕ) → at ≤ length buffer → next ≤ length after.now
      → held_in_part after next ≡ put text (held_in_part before place) → (before.ghost_name ≡ after.ghost_name → last ≡ after.now)
      → PutAt buffer at text last next
  part_is_in_place after next text last within within_after same left_as =
      let put_there =
      puts_in_place before after place next text (omega (arith, within, there, ap (λ (l : List ℕ). length l) is)) within_after same in
      subst (λ (l : List ℕ). PutAt buffer at text l next) (sym (left_as (sym put_there.1)))
      (subst (λ (k : ℕ). PutAt buffer k text after.now next) there (subst (λ (l : List ℕ). PutAt l place text after.now next) is put_there.0))
