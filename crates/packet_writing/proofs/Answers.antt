-- What an answer to writing says of the packet, and what is written then.
-- Assumes nothing.
use Prim.Native.Nat.{ℕ, ◌+◌, ◌≤◌}
use mathlib.Core.Path.{◌≡◌, refl, ap, ◌∙◌}
use mathlib.Core.Bool.{Bool, true, false}
use mathlib.Core.List.{List, []}
use native.Mathlib.Omega.{arith}
use borrow.Author.Tests.{ltb-false, eq-eqb, ne_eqb}
use lib.Dec.{ltb}
use lib.ListN.{length}
use Rattle.rules.specs.Rows.{when◌answer◌else◌}
use Rattle.packet.specs.Sizes.{packet_header_size, most_user_data}
use Rattle.packet_writing.specs.Writing.{packet_bytes}
use Rattle.packet_types.specs.Types.{not_class_d}
use Rattle.packet_writing.specs.Writing.{write_answer, packet_written, bytes_written}
use Rattle.packet_writing.specs.Writing.{refusal_number}
use Rattle.packet_writing.specs.declared.Written.{Written}
use Rattle.packet_writing.specs.declared.Refusal.{Refusal}
use Rattle.packet_writing.specs.declared.Refusal.TheVariants.{NotClassD, TooLong, NoRoom}

-- no row applied
none : (p q r : Bool) → ◌≡◌ {A = ℕ} (when p answer 311 else when q answer 312 else when r answer 313 else 0) 0 → (p ≡ false) × ((q ≡ false) × (r ≡ false))
none true q r e = absurd (omega arith)
none false true r e = absurd (omega arith)
none false false true e = absurd (omega arith)
none false false false e = (refl, (refl, refl))

module _ (room number kind : ℕ) (user_data : List ℕ) (written : write_answer room number kind user_data ≡ 0) where
  rows : (not_class_d number kind user_data ≡ false) × ((ltb most_user_data (length user_data) ≡ false) × (ltb room (packet_header_size + length user_data) ≡ false))
  unfolding write_answer
  rows = none (not_class_d number kind user_data) (ltb most_user_data (length user_data)) (ltb room (packet_header_size + length user_data)) written

  pub short_enough : length user_data ≤ most_user_data
  short_enough = ltb-false most_user_data (length user_data) rows.1.0

  pub room_enough : packet_header_size + length user_data ≤ room
  room_enough = ltb-false room (packet_header_size + length user_data) rows.1.1

  pub all_written : (normal : Bool) (version application : ℕ) → packet_bytes normal version application number kind user_data ≡ bytes_written room normal version application number kind user_data
  unfolding bytes_written
  all_written normal version application = simp (eq-eqb (write_answer room number kind user_data) 0 written)

  pub says_all : ◌≡◌ {A = Written} (record { answer = 0; written = packet_header_size + length user_data }) (packet_written room number kind user_data)
  unfolding packet_written
  says_all = simp (eq-eqb (write_answer room number kind user_data) 0 written)

-- a refusal, whose number is not 0
not_0 : (refusal : Refusal) → refusal_number refusal ≡ 0 → ⊥
not_0 NotClassD e = omega arith
not_0 TooLong e = omega arith
not_0 NoRoom e = omega arith

module _ (room number kind : ℕ) (user_data : List ℕ) (refusal : Refusal) (answered : refusal_number refusal ≡ write_answer room number kind user_data) where
  no_0 : write_answer room number kind user_data ≡ 0 → ⊥
  no_0 e = not_0 refusal (answered ∙ e)

  pub says_why : (n : ℕ) → n ≡ refusal_number refusal → ◌≡◌ {A = Written} (record { answer = n; written = 0 }) (packet_written room number kind user_data)
  unfolding packet_written
  says_why n e = simp (ne_eqb (write_answer room number kind user_data) 0 no_0) (ap (λ (x : ℕ). record { answer = x; written = 0 }) (e ∙ answered))

  pub none_written : (normal : Bool) (version application : ℕ) → bytes_written room normal version application number kind user_data ≡ []
  unfolding bytes_written
  none_written normal version application = simp (ne_eqb (write_answer room number kind user_data) 0 no_0)
