-- The layout of a packet's bytes: the first six fields are its first 8 bytes, then come the check and the user data.
-- Assumes nothing.
use Prim.Native.Nat.{ℕ, ◌+◌, ◌≤◌}
use mathlib.Core.Path.{◌≡◌, sym, ap, ◌∙◌}
use mathlib.Core.List.{List, [], ◌∷◌, ◌++◌, append_assoc, append-nil}
use native.Mathlib.Omega.{arith}
use lib.ListN.{length, take, drop, length-append}
use lib.Seq.{sets, sets-eq, take_at}
use Rattle.field.specs.Field.{bytes_of}
use Rattle.field.specs.Row.{row_of}
use Rattle.field.proofs.Field.{length_bytes}
use Rattle.field.proofs.Stores.{stores_append}
use Rattle.packet.specs.Sizes.{packet_header_size, checked_bytes}
use Rattle.packet.specs.Check.{check_of}
use Rattle.packet.specs.Packet.{packet_widths, check_at}
use Rattle.packet_writing.specs.Writing.{checked_row, check_for}

-- a field of a number that is another one
pub put_as : (l l' : List ℕ) (at w x y : ℕ) → l' ≡ sets l at (bytes_of w x) → x ≡ y → l' ≡ sets l at (bytes_of w y)
put_as l l' at w x y e f = e ∙ ap (λ (n : ℕ). sets l at (bytes_of w n)) f

module _ (counted version application number flag kind : ℕ) where
  abbrev pub six : List ℕ
  six = counted ∷ version ∷ application ∷ number ∷ flag ∷ kind ∷ []

  abbrev row : List ℕ
  row = checked_row counted version application number flag kind

  pub checked_length : length row ≡ checked_bytes
  checked_length = simp (length-append, length_bytes)

  pub row_split : (check : ℕ) (rest : List ℕ) → row_of packet_widths (six ++ (check ∷ [])) ++ rest ≡ row ++ (bytes_of 2 check ++ rest)
  row_split check rest = simp (append_assoc, append-nil)

  pub row_length : (check : ℕ) → length (row_of packet_widths (six ++ (check ∷ []))) ≡ packet_header_size
  row_length check = simp (length-append, length_bytes)

  -- the fields, stored one after the other
  pub fields_stored : (l l₁ l₂ l₃ l₄ l₅ l₆ : List ℕ)
      → l₁ ≡ sets l 0 (bytes_of 2 counted) → l₂ ≡ sets l₁ 2 (bytes_of 1 version) → l₃ ≡ sets l₂ 3 (bytes_of 1 application)
      → l₄ ≡ sets l₃ 4 (bytes_of 2 number) → l₅ ≡ sets l₄ 6 (bytes_of 1 flag) → l₆ ≡ sets l₅ 7 (bytes_of 1 kind)
      → l₆ ≡ sets l 0 row
  fields_stored l l₁ l₂ l₃ l₄ l₅ l₆ e₁ e₂ e₃ e₄ e₅ e₆ = simp (stores_append, length_bytes) (cc)

  -- the fields, their check, and the user data, stored one after the other
  module _ (l l' l'' l''' : List ℕ) (check : ℕ) (user_data : List ℕ) (room : checked_bytes ≤ length l)
      (fields : l' ≡ sets l 0 row) (right : check ≡ check_at l' 0) (checked : l'' ≡ sets l' checked_bytes (bytes_of 2 check)) (ends : l''' ≡ sets l'' packet_header_size user_data) where
    first_eight : take checked_bytes l' ≡ row
    first_eight =
        ap (take checked_bytes) (fields ∙ sets-eq row l 0 (omega (arith, checked_length)))
        ∙ take_at row (drop (0 + length row) l) checked_bytes checked_length

    is_right_lem : check ≡ check_for six
    is_right_lem = right ∙ ap check_of first_eight

    pub stored : l''' ≡ sets l 0 (row_of packet_widths (six ++ (check_for six ∷ [])) ++ user_data)
    stored =
        ends
        ∙ ap (λ (x : List ℕ). sets x packet_header_size user_data) (checked ∙ ap (λ (x : List ℕ). sets x checked_bytes (bytes_of 2 check)) fields)
        ∙ sym (ap (sets l 0) (ap (λ (c : ℕ). row_of packet_widths (six ++ (c ∷ [])) ++ user_data) (sym is_right_lem) ∙ row_split check user_data)
        ∙ stores_append row (bytes_of 2 check ++ user_data) l 0
        ∙ ap (λ (k : ℕ). sets (sets l 0 row) k (bytes_of 2 check ++ user_data)) (omega (arith, checked_length))
        ∙ stores_append (bytes_of 2 check) user_data (sets l 0 row) checked_bytes
        ∙ ap (λ (k : ℕ). sets (sets (sets l 0 row) checked_bytes (bytes_of 2 check)) k user_data) (omega (arith, length_bytes 2 check)))
