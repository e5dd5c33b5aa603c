-- Counts, offsets and ages, over the integers.
use Rattle.std.specs.Prelude.{ℕ, suc, ◌^◌, Bool, ◌&&◌, eqb, ltb, leb, ℤ, pos, negsuc, ◌+ℤ◌, ◌-ℤ◌, neg_ℤ, int_lt, nat_le, Option, Some, None}
use Rattle.rules.specs.Modulo.{modulo}
use Rattle.rules.specs.Rows.{when◌answer◌else◌}
use Rattle.clock.specs.declared.Age.{Age}
use Rattle.clock.specs.declared.Verdict.{Verdict}
use Rattle.clock.specs.declared.Verdict.TheVariants.{Future, Late, Fresh}
use Rattle.clock.specs.declared.SignMagnitude.{SignMagnitude}
use Rattle.clock.specs.declared.Offset.{Offset}

-- TIME-1: a count wraps
unfoldable pub wrapped : ℤ → ℕ
wrapped z = modulo z (2 ^ 32)

-- KIND-3: mod 2^32, in -2^31 .. 2^31-1; KIND-6: so the negation of -2^31 is -2^31
unfoldable pub centred : ℤ → ℤ
centred z =
    when ltb (wrapped z) (2 ^ 31) answer pos (wrapped z) else
    (pos (wrapped z) -ℤ pos (2 ^ 32))

-- KIND-4: now before the remembered clock; SLIP-2: over the wrap
unfoldable pub goes_back : ℕ → ℕ → Bool
goes_back now last = int_lt (centred (pos now -ℤ pos last)) (pos 0)

-- WAIT-1: how long a wait has lasted, not centred; SLIP-2: over the wrap
unfoldable pub wait_of : ℕ → ℕ → ℕ
wait_of now since = wrapped (pos now -ℤ pos since)

-- AGE-1; AGE-6: from 2^31 on it comes out negative
unfoldable pub age_of : ℕ → ℕ → ℕ → ℤ → ℤ
age_of now stamp e min = centred (pos now -ℤ pos stamp +ℤ pos e -ℤ min)

-- AGE-8: where no age is reported, 0 stands for it
abbrev pub no_age : Age
no_age = record { 0 = pos 0 }

-- AGE-2 is Future, AGE-3 Late, AGE-4 and AGE-5 Fresh
unfoldable pub verdict_of : ℤ → ℕ → Verdict
verdict_of age t_max_lem =
    when int_lt age (pos 0) answer Future else
    when int_lt (pos t_max_lem) age answer Late else
    Fresh

-- FORM-10: the number of each verdict
abbrev pub verdict_number : Verdict → ℕ
verdict_number Future = 206
verdict_number Late = 205
verdict_number Fresh = 0

-- MSG-SIGN: an offset's sign and magnitude
unfoldable pub sign_magnitude_of : ℤ → SignMagnitude
sign_magnitude_of (pos n) = record { sign = 0; magnitude = n }
sign_magnitude_of (negsuc n) = record { sign = 1; magnitude = suc n }

-- MSG-SIGN: the offset that a pair gives; MSG-PAIR: every other pair is malformed
unfoldable pub offset_read : ℕ → ℕ → Option Offset
offset_read sign magnitude =
    when eqb sign 0 && ltb magnitude (2 ^ 31) answer Some (record { 0 = pos magnitude }) else
    when eqb sign 1 && nat_le 1 magnitude && leb magnitude (2 ^ 31) answer Some (record { 0 = neg_ℤ (pos magnitude) }) else
    None
