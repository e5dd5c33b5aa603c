-- What is said of a whole file: the turns are enough, the machine prints it, and its first line is the verdict.
-- Assumes nothing.
use Prim.Native.Nat.{ℕ, zero, suc, ◌+◌, ◌-◌, ◌/◌, ◌%◌, ◌<◌, ◌≤◌}
use mathlib.Core.Path.{◌≡◌, refl, sym, ap, ◌∙◌}
use mathlib.Core.Bool.{Bool, true, false}
use mathlib.Core.List.{List, [], ◌∷◌, ◌++◌, append-nil, append_assoc}
use native.Mathlib.Omega.{arith}
use borrow.Author.Tests.{ne_eqb}
use lib.Dec.{eqb, ltb}
use Rattle.std.specs.List.{position_or_len}
use Rattle.std.specs.Prelude.{position, Some, None}
use Rattle.std.proofs.lemmas.List.Quantifiers.{position-Some}
use Rattle.std.proofs.lemmas.List.Sums.{fails_before_first}
use Rattle.std.proofs.lemmas.Grind.{common_steps}
use lib.ListN.{length, drop, get_or, length-drop}
use lib.Seq.{drop-append_seam}
use Rattle.rules.specs.Rows.{when◌answer◌else◌}
use Rattle.text.specs.Ascii.{ascii}
use Rattle.text.specs.Text.{digit, decimal_in, decimal_of}
use Rattle.connection.specs.declared.Connection.{Connection}
use Rattle.pieces.specs.Machine.{prints_in}
use Rattle.trace.specs.Record.{record_of}
use Rattle.recorder_file.specs.Said.{line_of, first_line}
use Rattle.recorder_file.specs.Check.{
  Found,
  start_of,
  said_of,
  said_or_later,
  found_of,
  leaves_out,
  turn_by,
  turn_of,
  checker,
  checked_in,
  ChecksOn,
  PrintsWhatIsSaid,
  FirstLineIsTheVerdict,
}
use Rattle.recorder_file.specs.Check.Found.{ends, passes}
use Rattle.recorder_file.specs.declared.Progress.{Progress}
use Rattle.recorder_file.specs.declared.Verdict.{Verdict}
use Rattle.recorder_file.specs.declared.Verdict.TheVariants.{Agrees, Differs, Bad}
use Rattle.recorder_file.specs.Laws.{check_laws}

-- behind a call that passes the check goes on, with fewer bytes
module _ (p : Progress) (rest : List ℕ) where
  goes_on_lem : {used judged : ℕ} {table : List Connection} → found_of p rest ≡ passes used judged table → (turn_of p rest).next.stopped ≡ false
  goes_on_lem e = ap (λ (f : Found). (turn_by p f (leaves_out p (record_of rest) rest)).next.stopped) e

  fewer : {used judged : ℕ} {table : List Connection} → found_of p rest ≡ passes used judged table
      → length (drop (turn_of p rest).used rest) < length rest
  fewer e =
      omega (arith, check_laws.uses_or_stops p rest (goes_on_lem e), check_laws.uses_no_more p rest, length-drop (turn_of p rest).used rest)

enough : (n k : ℕ) (p : Progress) (rest : List ℕ) → length rest < n → length rest < k → checked_in n p rest ≡ checked_in k p rest
unfolding checked_in
enough zero k p rest few many = let f : ⊥ = omega (arith, few) in absurd f
enough (suc n) zero p rest few many = let f : ⊥ = omega (arith, many) in absurd f
enough (suc n) (suc k) p rest few many = by (found_of p rest) refl (enough n k (turn_of p rest).next (drop (turn_of p rest).used rest))
  where
    by : (f : Found) → found_of p rest ≡ f
        → (length (drop (turn_of p rest).used rest) < n → length (drop (turn_of p rest).used rest) < k
        → checked_in n (turn_of p rest).next (drop (turn_of p rest).used rest) ≡ checked_in k (turn_of p rest).next (drop (turn_of p rest).used rest))
        → said_or_later f (checked_in n (turn_of p rest).next (drop (turn_of p rest).used rest))
        ≡ said_or_later f (checked_in k (turn_of p rest).next (drop (turn_of p rest).used rest))
    by (ends c) e later = refl
    by (passes used judged table) e later =
        let less = fewer p rest e in
        later (omega (arith, few, less)) (omega (arith, many, less))

pub checks_on : ChecksOn
unfolding checked_in
checks_on p rest = by (found_of p rest) refl
  where
    by : (f : Found) → found_of p rest ≡ f
        → said_or_later f (checked_in (length rest) (turn_of p rest).next (drop (turn_of p rest).used rest))
        ≡ said_or_later f (checked_in (suc (length (drop (turn_of p rest).used rest))) (turn_of p rest).next (drop (turn_of p rest).used rest))
    by (ends c) e = refl
    by (passes used judged table) e =
        enough (length rest) (suc (length (drop (turn_of p rest).used rest))) (turn_of p rest).next (drop (turn_of p rest).used rest) (fewer p rest e)
        (omega arith)

-- ---- the machine prints it

silent : (n : ℕ) (p : Progress) (rest : List ℕ) → p.stopped ≡ true → prints_in checker n p rest ≡ []
unfolding prints_in
silent zero p rest e = refl
silent (suc n) p rest e = rw e

prints : (n : ℕ) (p : Progress) (rest : List ℕ) → p.stopped ≡ false → length rest < n → prints_in checker n p rest ≡ said_of (checked_in n p rest)
unfolding prints_in checked_in
prints zero p rest goes few = let f : ⊥ = omega (arith, few) in absurd f
prints (suc n) p rest goes few =
    ap
    (λ (b : Bool). when b answer [] else
    ((turn_of p rest).text ++ prints_in checker n (turn_of p rest).next (drop (turn_of p rest).used rest))) goes
    ∙ by (found_of p rest) refl (prints n (turn_of p rest).next (drop (turn_of p rest).used rest))
  where
    by : (f : Found) → found_of p rest ≡ f
        → ((turn_of p rest).next.stopped ≡ false → length (drop (turn_of p rest).used rest) < n
        → prints_in checker n (turn_of p rest).next (drop (turn_of p rest).used rest)
        ≡ said_of (checked_in n (turn_of p rest).next (drop (turn_of p rest).used rest)))
        → (turn_by p f (leaves_out p (record_of rest) rest)).text ++ prints_in checker n (turn_of p rest).next (drop (turn_of p rest).used rest)
        ≡ said_of (said_or_later f (checked_in n (turn_of p rest).next (drop (turn_of p rest).used rest)))
    by (ends c) e later =
        ap (λ (l : List ℕ). said_of c ++ l)
        (silent n (turn_of p rest).next (drop (turn_of p rest).used rest) (ap (λ (f : Found). (turn_by p f (leaves_out p (record_of rest) rest)).next.stopped) e))
        ∙ append-nil (said_of c)
    by (passes used judged table) e later = later (goes_on_lem p rest e) (omega (arith, few, fewer p rest e))

pub prints_what_is_said : PrintsWhatIsSaid
prints_what_is_said file = prints (suc (length file)) start_of file refl (omega arith)

-- ---- its first line

-- no digit ends a line
no_end : (n : ℕ) → eqb (digit n) 10 ≡ false
no_end n = by (ltb n 10)
  where
    by : (b : Bool) → eqb (when b answer 48 + n else (65 + (n - 10))) 10 ≡ false
    by true = ne_eqb (48 + n) 10 (λ e. let f : ⊥ = omega (arith, e) in f)
    by false = ne_eqb (65 + (n - 10)) 10 (λ e. let f : ⊥ = omega (arith, e) in f)

goes_in : (n : ℕ) (rest : List ℕ) → first_line (digit n ∷ rest) ≡ digit n ∷ first_line rest
goes_in n rest = ap (λ (b : Bool). when b answer (digit n ∷ []) else (digit n ∷ first_line rest)) (no_end n)

digits_in : (most n : ℕ) (rest : List ℕ) → first_line (decimal_in most n ++ rest) ≡ decimal_in most n ++ first_line rest
unfolding decimal_in
digits_in zero n rest = refl
digits_in (suc most) n rest = by (ltb n 10) (digits_in most (n / 10) (digit (n % 10) ∷ rest))
  where
    by : (b : Bool)
        → first_line (decimal_in most (n / 10) ++ (digit (n % 10) ∷ rest)) ≡ decimal_in most (n / 10) ++ first_line (digit (n % 10) ∷ rest)
        → first_line ((when b answer (digit n ∷ []) else decimal_in most (n / 10) ++ (digit (n % 10) ∷ [])) ++ rest)
        ≡ (when b answer (digit n ∷ []) else decimal_in most (n / 10) ++ (digit (n % 10) ∷ [])) ++ first_line rest
    by true tens-in = goes_in n rest
    by false tens-in =
        let tens = decimal_in most (n / 10) in
        ap first_line (append_assoc tens (digit (n % 10) ∷ []) rest)
        ∙ tens-in
        ∙ ap (λ (l : List ℕ). tens ++ l) (goes_in (n % 10) rest)
        ∙ sym (append_assoc tens (digit (n % 10) ∷ []) (first_line rest))

-- a number and the end of a line
ends_line : (n : ℕ) (told : List ℕ) → first_line (decimal_of n ++ ascii "\n" ++ told) ≡ decimal_of n ++ ascii "\n"
ends_line n told = ap first_line (append_assoc (decimal_of n) (ascii "\n") told) ∙ digits_in 20 n (ascii "\n" ++ told)

first_line_lem : (v : Verdict) (told : List ℕ) → first_line (line_of v ++ told) ≡ line_of v
first_line_lem (Agrees n) told = ap (λ (l : List ℕ). ascii "agrees" ++ ascii " " ++ l) (ends_line n told)
first_line_lem (Differs n) told = ap (λ (l : List ℕ). ascii "differs" ++ ascii " " ++ l) (ends_line n told)
first_line_lem Bad told = refl

pub first_line_is_the_verdict : FirstLineIsTheVerdict
first_line_is_the_verdict c =
    let first = first_line_lem c.verdict c.told in
    (first, ap (λ (l : List ℕ). drop (length l) (said_of c)) first ∙ drop-append_seam (line_of c.verdict) c.told)

-- the first line ends behind the first byte 10
ends_in : (s : List ℕ) (i : ℕ) → i < length s → eqb (get_or s i 0) 10 ≡ true → ((k : ℕ) → k < i → eqb (get_or s k 0) 10 ≡ false)
    → i + 1 ≡ length (first_line s)
ends_in [] i h at before = absurd (omega arith)
ends_in (b ∷ s) zero h at before = rw at refl
ends_in (b ∷ s) (suc i) h at before =
    rw (before 0 (omega arith)) (omega (arith, ends_in s i (omega arith) at (λ k l. before (suc k) (omega arith))))

never_in : (s : List ℕ) → ((k : ℕ) → k < length s → eqb (get_or s k 0) 10 ≡ false) → length s ≡ length (first_line s)
never_in [] none = refl
never_in (b ∷ s) none = rw (none 0 (omega arith)) (ap suc (never_in s (λ k l. none (suc k) (omega arith))))

pub ends_at : (s : List ℕ) (i : ℕ) → position (λ (b : ℕ). eqb b 10) s ≡ Some i
    → (i + 1 ≡ length (first_line s)) × (i + 1 ≤ length s)
ends_at s i e =
    let at = position-Some (λ (b : ℕ). eqb b 10) s i 0 e in
    (ends_in s i at.0 at.1 at.2, omega (arith, at.0))

pub never_ends : (s : List ℕ) → position (λ (b : ℕ). eqb b 10) s ≡ None → length s ≡ length (first_line s)
never_ends s e =
    let most : length s ≤ position_or_len (λ (b : ℕ). eqb b 10) s = grind (arith, common_steps) in
    never_in s (λ k l. fails_before_first (λ (b : ℕ). eqb b 10) s k 0 (omega arith))
