-- A machine that prints nothing before it stops: its program prints once, at the end, all that is printed for the file.
-- Assumes nothing.
use Rattle.std.specs.Prelude.{ℕ, ◌≡◌, true, false, List, [], ◌++◌}
use Rattle.window.specs.Window.{ToppedUp}
use Rattle.window.specs.declared.Window.{Window}
use Rattle.window.specs.declared.Refilled.{Refilled}
use Rattle.pieces.specs.Machine.{Machine, prints_for}
use Rattle.pieces.specs.Pieces.{AdvancedTo, Runs}

module _ {State : Type 0} where
  -- CHECKER-11: no heading, and no text of a turn that does not stop
  abbrev pub Quiet : Machine State → Type 0
  Quiet m = (m.heading ≡ []) × ((p : State) (s : List ℕ) → m.stopped (m.turn p s).next ≡ false → (m.turn p s).text ≡ [])

  -- CHECKER-15: one piece: the window topped up, and as many turns as the bytes at hand allow, with their text put into a room of so many
  -- bytes that holds none.
  pub record QuietPiece (m : Machine State) (size : ℕ) (before : List ℕ) (w : Window) (p : State) (lent after lent_after out_after : List ℕ)
      (q : State) (v : Window) : Type 0 where
    pub topped : Refilled
    pub up : ToppedUp m.most_seen before w after topped
    pub advanced : AdvancedTo m size after p topped.window lent [] lent_after out_after q v

  -- CHECKER-15: between the pieces: the bytes that were read, so that with any bytes that follow, none where the file has ended, it is the
  -- run on a file that has printed nothing.
  pub record RunningQuietly (m : Machine State) (buffer : List ℕ) (w : Window) (p : State) : Type 0 where
    pub read : List ℕ
    pub runs : (rest : List ℕ) → (w.ended ≡ true → rest ≡ []) → Runs m (read ++ rest) buffer w rest p []

  -- CHECKER-15, at the end: the text that is held is what is printed for the bytes that were read.
  pub record PrintedAtOnce (m : Machine State) (out : List ℕ) : Type 0 where
    pub read : List ℕ
    pub whole : out ≡ prints_for m read
