-- The bounds of the table as pairs of cases, the last on one side and the first on the other, in one claim.
-- Assumes nothing.
use Prim.Native.Nat.{ℕ, ◌+◌}
use mathlib.Core.Bool.{Bool, true, false, not, ◌&&◌}
use mathlib.Core.List.{List, [], ◌∷◌}
use lib.Dec.{T, eqb}
use lib.ListN.{length, replicate}
use Rattle.rules.specs.Modulo.{modulo}
use Rattle.number.specs.Number.{distance_of}
use Rattle.field.specs.Field.{field_of}
use Rattle.packet_types.specs.Types.{au1, class_d, caller_of, called_of, classes_of, least_of, in_class_d, opens, opening_fault}
use Rattle.packet.specs.declared.Header.{Header}
use Rattle.links.specs.Callers.{listed, not_allowed}
use Rattle.links.specs.Table.{length_fault, not_opening, not_later, too_far, class_d_rows}

abbrev pub headed : ℕ → ℕ → List ℕ → Header
headed kind number user_data = record { length = 8 + length user_data; version = 0; application = 0; number = number; flag = 1; kind = kind; check = 0 }

-- the answer to the first packet, by the list, our own id, the role, the type, the number and the user data
abbrev pub answer_to : List ℕ → ℕ → Bool → ℕ → ℕ → List ℕ → ℕ
answer_to callers ours responder kind number user_data =
    (class_d_rows true 0 (headed kind number user_data) user_data callers ours
    (record { normal_up = true; redundant_up = true; responder = responder; strict = true; first = true; last = 0 })).answer

-- the answer where 3, 3, 3, 3 may call us, who are 3, 3, 3, 3 too
abbrev pub first_answer : Bool → ℕ → ℕ → List ℕ → ℕ
first_answer responder kind number user_data = answer_to (replicate 4 3) 0x03030303 responder kind number user_data

-- the answer to an AU1 in which 0, 0, 1, 2 calls 0, 0, 1, 4
abbrev pub call_answer : List ℕ → ℕ → ℕ
call_answer callers ours = answer_to callers ours true au1 0 (0 ∷ 0 ∷ 1 ∷ 2 ∷ 0 ∷ 0 ∷ 1 ∷ 4 ∷ class_d ∷ [])

-- the answer to a later packet, by the setting, the number last handed up, the type and the number
abbrev pub later_answer : Bool → ℕ → ℕ → ℕ → ℕ
later_answer strict last kind number =
    (class_d_rows true 0 (headed kind number []) [] [] 0
    (record { normal_up = true; redundant_up = true; responder = true; strict = strict; first = false; last = last })).answer

abbrev pub all : List Bool → Bool
all [] = true
all (b ∷ bs) = b && all bs

abbrev pub bounds : List Bool
bounds =
    -- length 7, 8; 65,008, 65,009
    length_fault 7 ∷ not (length_fault 8) ∷ not (length_fault 65008) ∷ length_fault 65009
    -- type 4, 5; 251
    ∷ eqb (later_answer true 0 4 1) 0 ∷ eqb (later_answer true 0 5 1) 305 ∷ eqb (later_answer true 0 251 1) 305
    -- AU1 with 8 bytes, with 9 of class 3, of class 0, numbered 1; to the initiator
    ∷ eqb (first_answer true 1 0 (replicate 8 3)) 309 ∷ eqb (first_answer true 1 0 (replicate 9 3)) 0 ∷ eqb (first_answer true 1 0 (replicate 9 0)) 309
    ∷ eqb (first_answer true 1 1 (replicate 9 3)) 309 ∷ eqb (first_answer false 1 0 (replicate 9 3)) 309
    -- AU2 with 3 bytes, with 4; to the responder
    ∷ eqb (first_answer false 2 0 (replicate 3 0)) 309 ∷ eqb (first_answer false 2 0 (replicate 4 0)) 0 ∷ eqb (first_answer true 2 0 (replicate 4 0)) 309
    -- no entry, three bytes of one, the whole; another id; our own id one less, right, one more; caller and called swapped
    ∷ eqb (call_answer [] 260) 310 ∷ eqb (call_answer (0 ∷ 0 ∷ 1 ∷ []) 260) 310 ∷ eqb (call_answer (0 ∷ 0 ∷ 1 ∷ 2 ∷ []) 260) 0
    ∷ eqb (call_answer (0 ∷ 0 ∷ 1 ∷ 3 ∷ []) 260) 310 ∷ eqb (call_answer (0 ∷ 0 ∷ 1 ∷ 2 ∷ []) 259) 310
    ∷ eqb (call_answer (0 ∷ 0 ∷ 1 ∷ 2 ∷ []) 261) 310 ∷ eqb (call_answer (0 ∷ 0 ∷ 1 ∷ 4 ∷ []) 258) 310
    -- the last of two entries; the four bytes across two entries; what is left over at the end
    ∷ eqb (call_answer (9 ∷ 9 ∷ 9 ∷ 9 ∷ 0 ∷ 0 ∷ 1 ∷ 2 ∷ []) 260) 0 ∷ eqb (call_answer (9 ∷ 0 ∷ 0 ∷ 1 ∷ 2 ∷ 9 ∷ 9 ∷ 9 ∷ []) 260) 310
    ∷ eqb (call_answer (0 ∷ 0 ∷ 1 ∷ 2 ∷ 9 ∷ []) 260) 0
    -- nobody may call: 309 before 310; the initiator
    ∷ eqb (answer_to [] 0 true 1 0 (replicate 9 0)) 309 ∷ eqb (answer_to [] 0 true 1 0 (replicate 9 3)) 310 ∷ eqb (answer_to [] 0 false 2 0 (replicate 4 0)) 0
    -- d = 0, 1; 32,767, 32,768; across the wrap; AU2 later
    ∷ eqb (later_answer false 5 3 5) 306 ∷ eqb (later_answer false 5 3 6) 0 ∷ eqb (later_answer false 5 3 32772) 0 ∷ eqb (later_answer false 5 3 32773) 306
    ∷ eqb (later_answer false 65535 3 0) 0 ∷ eqb (later_answer false 5 2 6) 306
    -- strict: d = 1, 2
    ∷ eqb (later_answer true 65535 3 0) 0 ∷ eqb (later_answer true 65535 3 1) 307
    ∷ []

pub bounds_hold : T (all bounds)
unfolding length_fault class_d_rows in_class_d classes_of not_opening opening_fault least_of not_allowed listed caller_of called_of opens not_later too_far distance_of modulo field_of
bounds_hold = tt
