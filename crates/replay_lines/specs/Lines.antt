-- What is put at a turn has no more bytes than the most that are said.
-- Assumes nothing.
use Prim.Native.Nat.{ℕ, zero, suc, ◌/◌, ◌%◌, ◌≤◌}
use mathlib.Core.Bool.{Bool, true, false}
use mathlib.Core.List.{[], ◌∷◌, ◌++◌}
use native.Mathlib.Omega.{arith}
use lib.Dec.{ltb}
use lib.IntN.{pos, nat_abs}
use lib.ListN.{length, length-append}
use lib.Signed.{lt_z}
use Rattle.rules.specs.Rows.{when◌answer◌else◌}
use Rattle.clock.specs.declared.Age.{Age}
use Rattle.text.specs.Ascii.{ascii}
use Rattle.text.specs.Text.{digit, decimal_in, most_digits, decimal_of}
use Rattle.text.specs.Line.{end_of, most_end, number_word, signed_word, most_signed, age_word}
use Rattle.replay_lines.specs.Printed.{line_of, bad_of, most_line}

digits_fit : (most n : ℕ) → length (decimal_in most n) ≤ most
unfolding decimal_in
digits_fit zero n = omega arith
digits_fit (suc most) n = by (ltb n 10) (digits_fit most (n / 10))
  where
    by : (small : Bool) → length (decimal_in most (n / 10)) ≤ most
        → length (when small answer (digit n ∷ []) else decimal_in most (n / 10) ++ (digit (n % 10) ∷ [])) ≤ suc most
    by true h = omega arith
    by false h = omega (arith, h, length-append (decimal_in most (n / 10)) (digit (n % 10) ∷ []))

pub decimal_fits : (n : ℕ) → length (decimal_of n) ≤ most_digits
decimal_fits n = digits_fit most_digits n

pub signed_fits : (negative : Bool) (size : ℕ) → length (signed_word negative size) ≤ most_signed
signed_fits true size = omega (arith, decimal_fits size, length-append (ascii " -") (decimal_of size))
signed_fits false size = omega (arith, decimal_fits size, length-append (ascii " ") (decimal_of size))

pub line_fits : (slot number : ℕ) (age : Age) → length (line_of slot number age) ≤ most_line
line_fits slot number age =
    omega (
      arith,
      decimal_fits slot,
      decimal_fits number,
      signed_fits (lt_z age.0 (pos 0)) (nat_abs age.0),
      length-append (ascii " ") (decimal_of number),
      length-append (decimal_of slot) (number_word number),
      length-append (decimal_of slot ++ number_word number) (age_word age),
      length-append (decimal_of slot ++ number_word number ++ age_word age) (ascii "\n"),
    )

end_fits : (count : ℕ) → length (end_of count) ≤ most_end
end_fits count =
    omega (
      arith,
      decimal_fits count,
      length-append (ascii "end" ++ number_word count) (ascii "\n"),
      length-append (ascii "end") (number_word count),
    )

pub end_in_line : (count : ℕ) → length (end_of count) ≤ most_line
end_in_line count = omega (arith, end_fits count)

pub bad_fits : (count : ℕ) → length (bad_of count) ≤ most_line
bad_fits count = omega (arith, end_fits count, length-append (ascii "bad\n") (end_of count))
