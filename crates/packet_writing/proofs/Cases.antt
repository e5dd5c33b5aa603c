-- Case pairs of writing a packet, at each bound the last case within it and the first past it.
-- Assumes nothing.
use Prim.Native.Nat.{ℕ, ◌+◌, ◌≤◌}
use mathlib.Core.Path.{◌≡◌, refl}
use mathlib.Core.List.{List, [], ◌∷◌}
use native.Mathlib.Omega.{arith}
use borrow.Author.Tests.{lt-ltb, le-ltb}
use lib.ListN.{length}
use Rattle.field.specs.Field.{field_of}
use Rattle.packet.specs.Sizes.{packet_header_size, most_user_data}
use Rattle.packet_types.specs.Types.{data_packet, turn_to_redundant, classes_of, least_of, in_class_d, opens, opening_fault, not_class_d}
use Rattle.packet_writing.specs.Writing.{write_answer}

-- user data of 65,000 and 65,001 bytes, in a data packet with any number and room for it all; 65,000 with room for one byte less
pub data_65000 : (number : ℕ) (user_data : List ℕ) → length user_data ≡ 65000 → write_answer 65010 number data_packet user_data ≡ 0
unfolding write_answer not_class_d in_class_d classes_of opens
data_65000 number user_data e = simp e

pub data_65001 : (number : ℕ) (user_data : List ℕ) → length user_data ≡ 65001 → write_answer 65011 number data_packet user_data ≡ 312
unfolding write_answer not_class_d in_class_d classes_of opens
data_65001 number user_data e = simp e

pub long_one_less : (number : ℕ) (user_data : List ℕ) → length user_data ≡ 65000 → write_answer 65009 number data_packet user_data ≡ 313
unfolding write_answer not_class_d in_class_d classes_of opens
long_one_less number user_data e = simp e

-- an out buffer of 10 + data bytes, and one byte less
pub room_10_and_data : (number : ℕ) (user_data : List ℕ) → length user_data ≤ most_user_data → write_answer (packet_header_size + length user_data) number data_packet user_data ≡ 0
unfolding write_answer not_class_d in_class_d classes_of opens
room_10_and_data number user_data h =
    simp (le-ltb most_user_data (length user_data) h, le-ltb (packet_header_size + length user_data) (packet_header_size + length user_data) (omega arith))

pub room_one_less : (number room : ℕ) (user_data : List ℕ) → length user_data ≤ most_user_data → room + 1 ≡ packet_header_size + length user_data → write_answer room number data_packet user_data ≡ 313
unfolding write_answer not_class_d in_class_d classes_of opens
room_one_less number room user_data h e =
    simp (le-ltb most_user_data (length user_data) h, lt-ltb room (packet_header_size + length user_data) (omega arith))

-- AU1 numbered 0 with 9 bytes and class 3; with 8 bytes; of class 0; numbered 1
pub au1_cases :
    write_answer 100 0 1 (0 ∷ 0 ∷ 0 ∷ 7 ∷ 0 ∷ 0 ∷ 0 ∷ 9 ∷ 0x03 ∷ [])
    ∷ write_answer 100 0 1 (0 ∷ 0 ∷ 0 ∷ 7 ∷ 0 ∷ 0 ∷ 0 ∷ 9 ∷ [])
    ∷ write_answer 100 0 1 (0 ∷ 0 ∷ 0 ∷ 7 ∷ 0 ∷ 0 ∷ 0 ∷ 9 ∷ 0x00 ∷ [])
    ∷ write_answer 100 1 1 (0 ∷ 0 ∷ 0 ∷ 7 ∷ 0 ∷ 0 ∷ 0 ∷ 9 ∷ 0x03 ∷ [])
    ∷ []
    ≡ 0 ∷ 311 ∷ 311 ∷ 311 ∷ []
unfolding write_answer not_class_d in_class_d classes_of opens opening_fault least_of field_of
au1_cases = refl

-- AU2 numbered 0 with 4 bytes; with 3 bytes; numbered 1
pub au2_cases :
    write_answer 100 0 2 (0 ∷ 0 ∷ 0 ∷ 9 ∷ []) ∷ write_answer 100 0 2 (0 ∷ 0 ∷ 9 ∷ []) ∷ write_answer 100 1 2 (0 ∷ 0 ∷ 0 ∷ 9 ∷ []) ∷ []
    ≡ 0 ∷ 311 ∷ 311 ∷ []
unfolding write_answer not_class_d in_class_d classes_of opens opening_fault least_of field_of
au2_cases = refl

-- types 3, 4, 0, 5, 251 and 255, with no user data
pub type_cases :
    write_answer 10 9 3 [] ∷ write_answer 10 9 4 [] ∷ write_answer 10 9 0 [] ∷ write_answer 10 9 5 [] ∷ write_answer 10 0 251 [] ∷ write_answer 10 0 255 [] ∷ []
    ≡ 0 ∷ 0 ∷ 311 ∷ 311 ∷ 311 ∷ 311 ∷ []
unfolding write_answer not_class_d in_class_d classes_of opens opening_fault least_of field_of
type_cases = refl

-- 311 before 312, and 312 before 313
pub first_311 : (user_data : List ℕ) → length user_data ≡ 65001 → write_answer 0 0 turn_to_redundant user_data ≡ 311
unfolding write_answer not_class_d in_class_d classes_of opens
first_311 user_data e = refl

pub then_312 : (user_data : List ℕ) → length user_data ≡ 65001 → write_answer 0 0 data_packet user_data ≡ 312
unfolding write_answer not_class_d in_class_d classes_of opens
then_312 user_data e = simp e
