-- The one law of the table of packet types, over every column: a rule of the rows, at any type.
-- Assumes nothing.
use Prim.Native.Nat.{ℕ, ◌<◌}
use mathlib.Core.Path.{◌≡◌, refl, sym, subst}
use mathlib.Core.Bool.{Bool, true, false, not, ◌||◌, ◌&&◌, true≢false}
use mathlib.Core.List.{List, [], ◌∷◌}
use borrow.Author.Tests.{ne_eqb, not-true}
use lib.Dec.{T, eqb, ltb, ltb→lt}
use lib.ListN.{length, get_or}
use Rattle.rules.specs.Rows.{when◌answer◌else◌}
use Rattle.field.specs.Field.{field_of}
use Rattle.packet_types.specs.Types.{au1, au2, data_packet, release_packet, turn_to_redundant, turn_to_normal, life_of_idle, life_of_active}
use Rattle.packet_types.specs.Types.{rows, kind_of, classes_of, links_of, least_of, has_user_data_of, class_at_of, no_row, row_in, type_row}
use Rattle.packet_types.specs.Types.{caller_of, called_of, has_class_d, has_link, unwanted_data, numbered_zero, opens, opening_fault}

-- ---- a rule of a row, tested at every row, holds of the row of any type
module _ (rule : List ℕ → Bool) where
  abbrev pub every : List (List ℕ) → Bool
  every [] = rule no_row
  every (row ∷ rest) = rule row && every rest

  either : (b : Bool) (x y : List ℕ) → T (rule x) → T (rule y) → T (rule (when b answer x else y))
  either true x y t u = t
  either false x y t u = u

  left : (a b : Bool) → T (a && b) → T a
  left true b t = tt
  left false b t = absurd t

  right : (a b : Bool) → T (a && b) → T b
  right true b t = t
  right false b t = absurd t

  at_any : (kind : ℕ) (table : List (List ℕ)) → T (every table) → T (rule (row_in kind table))
  at_any kind [] t = t
  at_any kind (row ∷ rest) t =
      either (eqb (kind_of row) kind) row (row_in kind rest) (left (rule row) (every rest) t) (at_any kind rest (right (rule row) (every rest) t))

  pub at_row : (kind : ℕ) (row : List ℕ) → row ≡ type_row kind → T (every rows) → T (rule row)
  at_row kind row e t = subst (λ (r : List ℕ). T (rule r)) (sym e) (at_any kind rows t)

-- each type in class D goes on both links and may have user data
abbrev whole : List ℕ → Bool
whole row = not (has_class_d row) || (has_link true row && has_link false row && not (eqb (has_user_data_of row) 0))

so : (d n r u : Bool) → T (not d || (n && r && u)) → d ≡ true → (n ≡ true) × ((r ≡ true) × (u ≡ true))
so true true true true t e = (refl, (refl, refl))
so true true true false t e = absurd t
so true true false u t e = absurd t
so true false r u t e = absurd t
so false n r u t e = absurd (true≢false (sym e))

module _ (kind : ℕ) (row : List ℕ) (same : row ≡ type_row kind) (in-d : has_class_d row ≡ true) where
  all : (has_link true row ≡ true) × ((has_link false row ≡ true) × (not (eqb (has_user_data_of row) 0) ≡ true))
  unfolding classes_of links_of
  all = so (has_class_d row) (has_link true row) (has_link false row) (not (eqb (has_user_data_of row) 0)) (at_row whole kind row same tt) in-d

  pub class_d_on_both : (normal : Bool) → has_link normal row ≡ true
  class_d_on_both true = all.0
  class_d_on_both false = all.1.0

  pub class_d_has_data : (user_data : List ℕ) → unwanted_data row user_data ≡ false
  class_d_has_data user_data = simp (not-true (eqb (has_user_data_of row) 0) all.1.1)

-- the class stands within the least user data
abbrev within : List ℕ → Bool
within row = eqb (class_at_of row) 0 || ltb (class_at_of row) (least_of row)

pub class_within : (kind : ℕ) (row : List ℕ) → row ≡ type_row kind → (class_at_of row ≡ 0 → ⊥) → class_at_of row < least_of row
unfolding least_of
class_within kind row e n = ltb→lt (class_at_of row) (least_of row) (simp (ne_eqb (class_at_of row) 0 n) at (at_row within kind row e tt))

-- ---- the table against PKT-311, LINK-306 and LINK-309: what opens is type 1 or 2; an AU1 has 9 bytes and class 3, an AU2 4 bytes
pub opens_au1_au2 : (kind : ℕ) → opens kind ≡ (eqb au1 kind || eqb au2 kind)
unfolding opens
opens_au1_au2 kind =
    first_two (eqb au1 kind) (eqb au2 kind) (eqb data_packet kind) (eqb release_packet kind) (eqb turn_to_redundant kind) (eqb turn_to_normal kind) (eqb life_of_idle kind) (eqb life_of_active kind)
  where
    first_two : (a b c d e f g h : Bool)
        → numbered_zero
        (when a answer get_or rows 0 [] else
        when b answer get_or rows 1 [] else
        when c answer get_or rows 2 [] else
        when d answer get_or rows 3 [] else
        when e answer get_or rows 4 [] else
        when f answer get_or rows 5 [] else
        when g answer get_or rows 6 [] else
        when h answer get_or rows 7 [] else
        no_row)
        ≡ (a || b)
    first_two true b c d e f g h = refl
    first_two false true c d e f g h = refl
    first_two false false true d e f g h = refl
    first_two false false false true e f g h = refl
    first_two false false false false true f g h = refl
    first_two false false false false false true g h = refl
    first_two false false false false false false true h = refl
    first_two false false false false false false false true = refl
    first_two false false false false false false false false = refl

pub au1_fault : (number : ℕ) (user_data : List ℕ)
    → opening_fault au1 number user_data ≡ (not (eqb number 0) || ltb (length user_data) 9 || not (eqb (field_of user_data 8 1) 3))
unfolding opening_fault least_of
au1_fault number user_data = refl

pub au2_fault : (number : ℕ) (user_data : List ℕ) → opening_fault au2 number user_data ≡ (not (eqb number 0) || ltb (length user_data) 4 || false)
unfolding opening_fault least_of
au2_fault number user_data = refl

-- and against AU-1: the caller's id has the first 4 bytes, the called id the 4 behind them
pub au1_ids : (user_data : List ℕ) → (caller_of user_data ≡ field_of user_data 0 4) × (called_of user_data ≡ field_of user_data 4 4)
unfolding caller_of called_of
au1_ids user_data = (refl, refl)
