-- Fields that are written one after the other are a row.
-- Assumes nothing.
use Prim.Native.Nat.{ℕ, ◌+◌, ◌≤◌}
use mathlib.Core.Path.{◌≡◌, refl, ap, ◌∙◌}
use mathlib.Core.List.{List, [], ◌∷◌, ◌++◌, append-nil}
use native.Mathlib.Omega.{arith}
use lib.ListN.{length, drop_of_length-le}
use lib.Seq.{sets, sets-eq}
use Rattle.field.specs.Field.{bytes_of}
use Rattle.field.specs.Row.{row_of}
use Rattle.connection.specs.declared.Settings.{Settings}
use Rattle.connection.specs.declared.Connection.{Connection}
use Rattle.connection_row.specs.Row.{settings_widths, settings_numbers, row_size, offset_number, row_bytes}

pub settings_row : (phase : ℕ) (s : Settings) (o : List ℕ) {a b d e f g h : List ℕ}
    → a ≡ sets o 0 (bytes_of 1 phase)
    → b ≡ sets a 1 (bytes_of 2 s.n)
    → d ≡ sets b 3 (bytes_of 4 s.t_max)
    → e ≡ sets d 7 (bytes_of 4 s.e)
    → f ≡ sets e 11 (bytes_of 4 s.t_start)
    → g ≡ sets f 15 (bytes_of 4 s.t_off)
    → h ≡ sets g 19 (bytes_of 1 s.limit)
    → h ≡ sets o 0 (row_of (1 ∷ settings_widths) (phase ∷ settings_numbers s))
unfolding bytes_of
settings_row phase s o w1 w2 w3 w4 w5 w6 w7 = rw (w7, w6, w5, w4, w3, w2, w1) refl

pub whole_row : (c : Connection) (o : List ℕ) {a b d : List ℕ}
    → a ≡ sets o 0 (row_of (1 ∷ settings_widths) (c.phase ∷ settings_numbers c.settings))
    → b ≡ sets a 20 (row_of (2 ∷ 4 ∷ 2 ∷ 4 ∷ 4 ∷ [])
    (c.own.number ∷ c.own.period ∷ c.peer.number ∷ c.peer.stamp.0 ∷ c.peer.arrival.0 ∷ []))
    → d ≡ sets b 36 (row_of (4 ∷ 4 ∷ 4 ∷ 1 ∷ 4 ∷ [])
    (c.wait_start.0 ∷ offset_number c.offsets.min ∷ offset_number c.offsets.max ∷ c.errors ∷ c.clock.0 ∷ []))
    → d ≡ sets o 0 (row_bytes c)
unfolding row_bytes bytes_of
whole_row c o w1 w2 w3 = rw (w3, w2, w1) refl

-- a record's row has as many bytes as every row
pub row_size_lem : (c : Connection) → length (row_bytes c) ≡ row_size
unfolding row_bytes bytes_of
row_size_lem c = refl

-- what is stored over as many bytes is all that is there
pub all_stored : (vs l : List ℕ) → length vs ≡ length l → sets l 0 vs ≡ vs
all_stored vs l e =
    let past : length l ≤ 0 + length vs = omega arith in
    sets-eq vs l 0 (omega arith) ∙ ap (λ (rest : List ℕ). vs ++ rest) (drop_of_length-le l past) ∙ append-nil vs
