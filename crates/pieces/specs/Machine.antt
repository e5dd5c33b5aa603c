-- A machine that takes turns on the bytes of a file and prints a text at each: what it prints for a whole file.
-- Assumes nothing.
use Rattle.std.specs.Prelude.{ℕ, zero, suc, ◌≤◌, ◌≡◌, Bool, false, List, [], ◌++◌, length, drop}
use Rattle.rules.specs.Rows.{when◌answer◌else◌}

-- A turn: what it prints, how many bytes of the file it uses up, the state after it, and what it leaves in the buffer that is lent to it,
-- by what stood there.
pub record Turn (State : Type 0) : Type 0 where
  pub text : List ℕ
  pub used : ℕ
  pub next : State
  pub lent : List ℕ → List ℕ

-- A machine on these states: the first one and what is printed before its first turn, when it has stopped, its turn on the bytes that are
-- left of a file, the most bytes that a turn looks at, and the most that it prints.
pub record Machine (State : Type 0) : Type 0 where
  pub first : State
  pub heading : List ℕ
  pub stopped : State → Bool
  pub turn : State → List ℕ → Turn State
  pub most_seen : ℕ
  pub most_text : ℕ

module _ {State : Type 0} where
  -- What is asked of a turn: it uses no more bytes than there are; it uses one at the least, or stops; it looks at no more bytes, and
  -- prints no more, than the machine says.
  pub record Lawful (m : Machine State) : Type 0 where
    pub uses_no_more : (p : State) (s : List ℕ) → (m.turn p s).used ≤ length s
    pub uses_or_stops : (p : State) (s : List ℕ) → m.stopped (m.turn p s).next ≡ false → 1 ≤ (m.turn p s).used
    pub sees_no_more : (p : State) (s rest : List ℕ) → m.most_seen ≤ length s → m.turn p (s ++ rest) ≡ m.turn p s
    pub prints_no_more : (p : State) (s : List ℕ) → length (m.turn p s).text ≤ m.most_text

  -- what is printed in so many turns at the most
  unfoldable pub prints_in : (m : Machine State) → ℕ → State → List ℕ → List ℕ
  prints_in m zero p rest = []
  prints_in m (suc turns) p rest =
      when m.stopped p answer [] else
      ((m.turn p rest).text ++ prints_in m turns (m.turn p rest).next (drop (m.turn p rest).used rest))

  -- what is printed from there on: a turn for each byte and one at the end are enough
  abbrev pub prints_from : (m : Machine State) → State → List ℕ → List ℕ
  prints_from m p rest = prints_in m (suc (length rest)) p rest

  -- They are enough: until it has stopped, the machine goes on after each turn with the bytes that the turn left.
  abbrev pub GoesOn : Machine State → Type 0
  GoesOn m = (p : State) (rest : List ℕ) → prints_from m p rest ≡ (
      when m.stopped p answer [] else
      ((m.turn p rest).text ++ prints_from m (m.turn p rest).next (drop (m.turn p rest).used rest)))

  -- what is printed for a whole file
  abbrev pub prints_for : Machine State → List ℕ → List ℕ
  prints_for m file = m.heading ++ prints_from m m.first file
