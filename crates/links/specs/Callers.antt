-- The lent list of those who may call, and which AU1 is not allowed: LINK-LIST, LINK-310.
-- Assumes nothing.
use Rattle.std.specs.Prelude.{ℕ, ◌/◌, Bool, false, not, ◌||◌, List, [], ◌∷◌, eqb, length, get_or, replicate}
use Rattle.field.specs.Row.{fields_of}
use Rattle.packet_types.specs.Types.{au1_begins, caller_of, called_of}

-- LINK-LIST: an entry has as many bytes as the caller's id of an AU1 (AU-1)
abbrev pub id_size : ℕ
id_size = get_or au1_begins 0 0

-- LINK-LIST: the ids on a list, one behind the other from its front; fewer bytes at its end are no entry
abbrev pub callers_of : List ℕ → List ℕ
callers_of list = fields_of (replicate (length list / id_size) id_size) list 0

-- LINK-LIST: an id is one of those
abbrev pub is_one_of : ℕ → List ℕ → Bool
is_one_of id [] = false
is_one_of id (one ∷ others) = eqb one id || is_one_of id others

-- LINK-LIST: an id is on a list; no id is on an empty one
unfoldable pub listed : ℕ → List ℕ → Bool
listed id list = is_one_of id (callers_of list)

-- LINK-310: an AU1 whose caller is not on the list, or that calls another than us
unfoldable pub not_allowed : List ℕ → ℕ → List ℕ → Bool
not_allowed callers ours user_data = not (listed (caller_of user_data) callers) || not (eqb (called_of user_data) ours)
