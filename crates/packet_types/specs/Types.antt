-- The packet types: one table, a row for each type, with its service classes, its links and its payload rules.
-- Assumes nothing.
use Rattle.std.specs.Prelude.{ℕ, Bool, cond, not, ◌||◌, ◌&&◌, List, [], ◌∷◌, eqb, ltb, length, get_or, take}
use Rattle.rules.specs.Rows.{when◌answer◌else◌}
use Rattle.field.specs.Field.{field_of}
use Rattle.field.specs.Row.{fields_of, width_of}

-- ---- the types, by their numbers

-- TYPE-1: the initiator's opening packet
abbrev pub au1 : ℕ
au1 = 1

-- TYPE-2: the responder's opening packet
abbrev pub au2 : ℕ
au2 = 2

-- TYPE-3: data
abbrev pub data_packet : ℕ
data_packet = 3

-- TYPE-4: release
abbrev pub release_packet : ℕ
release_packet = 4

-- TYPE-251: turn to the redundant link
abbrev pub turn_to_redundant : ℕ
turn_to_redundant = 251

-- TYPE-253: turn to the normal link
abbrev pub turn_to_normal : ℕ
turn_to_normal = 253

-- TYPE-254: sign of life of the idle link
abbrev pub life_of_idle : ℕ
life_of_idle = 254

-- TYPE-255: sign of life of the active link
abbrev pub life_of_active : ℕ
life_of_active = 255

-- ---- what the user data begins with

-- AU-1: caller id 4, called id 4, class 1
abbrev pub au1_begins : List ℕ
au1_begins = 4 ∷ 4 ∷ 1 ∷ []

-- AU-2: the answering id 4
abbrev pub au2_begins : List ℕ
au2_begins = 4 ∷ []

-- AU-1: the class of class D
abbrev pub class_d : ℕ
class_d = 0x03

-- AU-1: in these fields the caller's id stands first, and the called id behind it:
unfoldable pub caller_of : List ℕ → ℕ
caller_of user_data = get_or (fields_of au1_begins user_data 0) 0 0

unfoldable pub called_of : List ℕ → ℕ
called_of user_data = get_or (fields_of au1_begins user_data 0) 1 0

-- ---- the table

-- PKT-TABLE. The columns: type; in service class A; in service class D; on the normal link; on the redundant link; least user data; may
-- have user data; is numbered 0; the place of the class in the user data, 0 where it names none; the class that class D asks for
-- there. Where a column asks yes or no, 1 is yes and 0 is no. The links and the user data are those of table 10 of 004: class D sends
-- everything on both links, class A on the active one, which may be either.
abbrev pub rows : List (List ℕ)
rows =
    (au1 ∷ 1 ∷ 1 ∷ 1 ∷ 1 ∷ width_of au1_begins ∷ 1 ∷ 1 ∷ width_of (take 2 au1_begins) ∷ class_d ∷ [])  -- TYPE-1
    ∷ (au2 ∷ 1 ∷ 1 ∷ 1 ∷ 1 ∷ width_of au2_begins ∷ 1 ∷ 1 ∷ 0 ∷ 0 ∷ [])  -- TYPE-2
    ∷ (data_packet ∷ 1 ∷ 1 ∷ 1 ∷ 1 ∷ 0 ∷ 1 ∷ 0 ∷ 0 ∷ 0 ∷ [])  -- TYPE-3
    ∷ (release_packet ∷ 1 ∷ 1 ∷ 1 ∷ 1 ∷ 0 ∷ 1 ∷ 0 ∷ 0 ∷ 0 ∷ [])  -- TYPE-4
    ∷ (turn_to_redundant ∷ 1 ∷ 0 ∷ 0 ∷ 1 ∷ 0 ∷ 1 ∷ 0 ∷ 0 ∷ 0 ∷ [])  -- TYPE-251
    ∷ (turn_to_normal ∷ 1 ∷ 0 ∷ 1 ∷ 0 ∷ 0 ∷ 1 ∷ 0 ∷ 0 ∷ 0 ∷ [])  -- TYPE-253
    ∷ (life_of_idle ∷ 1 ∷ 0 ∷ 1 ∷ 1 ∷ 0 ∷ 0 ∷ 0 ∷ 0 ∷ 0 ∷ [])  -- TYPE-254
    ∷ (life_of_active ∷ 1 ∷ 0 ∷ 1 ∷ 1 ∷ 0 ∷ 0 ∷ 0 ∷ 0 ∷ 0 ∷ [])  -- TYPE-255
    ∷ []

-- PKT-TABLE: the cells of a row. The type that it is of
abbrev pub kind_of : List ℕ → ℕ
kind_of row = get_or row 0 0

-- PKT-TABLE: the service classes, A and D
unfoldable pub classes_of : List ℕ → List ℕ
classes_of row = get_or row 1 0 ∷ get_or row 2 0 ∷ []

-- PKT-TABLE: the links, the normal one and the redundant one
unfoldable pub links_of : List ℕ → List ℕ
links_of row = get_or row 3 0 ∷ get_or row 4 0 ∷ []

-- AU-1, AU-2: the least user data
unfoldable pub least_of : List ℕ → ℕ
least_of row = get_or row 5 0

-- PKT-TABLE: whether there may be user data
abbrev pub has_user_data_of : List ℕ → ℕ
has_user_data_of row = get_or row 6 0

-- TYPE-1, TYPE-2: whether the number is 0
abbrev pub numbered_zero_of : List ℕ → ℕ
numbered_zero_of row = get_or row 7 0

-- AU-1: where the class stands, 0 where there is none
abbrev pub class_at_of : List ℕ → ℕ
class_at_of row = get_or row 8 0

-- AU-1: the class that class D asks for
abbrev pub class_of : List ℕ → ℕ
class_of row = get_or row 9 0

-- PKT-TABLE: the row of a type that the table does not have
abbrev pub no_row : List ℕ
no_row = 0 ∷ 0 ∷ 0 ∷ 0 ∷ 0 ∷ 0 ∷ 0 ∷ 0 ∷ 0 ∷ 0 ∷ []

-- PKT-TABLE: the first row of the type in a table
abbrev pub row_in : ℕ → List (List ℕ) → List ℕ
row_in kind [] = no_row
row_in kind (row ∷ rest) = when (eqb (kind_of row) kind) answer row else row_in kind rest

-- PKT-TABLE: the row of a type
abbrev pub type_row : ℕ → List ℕ
type_row kind = row_in kind rows

-- ---- what a row says

-- PKT-TABLE: the type is in class D
abbrev pub has_class_d : List ℕ → Bool
has_class_d row = eqb (get_or (classes_of row) 1 0) 1

-- PKT-TABLE: the type goes on the link
abbrev pub has_link : Bool → List ℕ → Bool
has_link normal row = eqb (get_or (links_of row) (cond normal 0 1) 0) 1

-- PKT-TABLE: user data where the type has none
abbrev pub unwanted_data : List ℕ → List ℕ → Bool
unwanted_data row user_data = eqb (has_user_data_of row) 0 && ltb 0 (length user_data)

-- TYPE-1, TYPE-2: the type is numbered 0
abbrev pub numbered_zero : List ℕ → Bool
numbered_zero row = eqb (numbered_zero_of row) 1

-- AU-1: another class than the one that class D asks for
abbrev pub another_class : List ℕ → List ℕ → Bool
another_class row user_data = not (eqb (class_at_of row) 0) && not (eqb (field_of user_data (class_at_of row) 1) (class_of row))

-- PKT-311: the faults of an opening packet: its number, its length, its class
abbrev pub fault_in : List ℕ → ℕ → List ℕ → Bool
fault_in row number user_data = not (eqb number 0) || ltb (length user_data) (least_of row) || another_class row user_data

-- ---- what the table says of a type

-- PKT-TABLE: class D has the type
unfoldable pub in_class_d : ℕ → Bool
in_class_d kind = has_class_d (type_row kind)

-- TYPE-1 and TYPE-2, which are the types numbered 0
unfoldable pub opens : ℕ → Bool
opens kind = numbered_zero (type_row kind)

-- PKT-311, LINK-309: an AU1 or AU2 with such a fault; AU-3: an AU2 has no class
unfoldable pub opening_fault : ℕ → ℕ → List ℕ → Bool
opening_fault kind number user_data = fault_in (type_row kind) number user_data

-- PKT-311: a type that class D does not have, or an opening packet with a fault
unfoldable pub not_class_d : ℕ → ℕ → List ℕ → Bool
not_class_d number kind user_data = not (in_class_d kind) || (opens kind && opening_fault kind number user_data)
