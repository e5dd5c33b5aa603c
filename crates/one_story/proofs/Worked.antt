-- The worked runs, by computation.
-- Assumes nothing.
use Prim.Native.Nat.{ℕ, ◌≤◌, ◌<◌}
use mathlib.Core.Path.{◌≡◌, refl, sym, ap, ◌∙◌, subst}
use mathlib.Core.Bool.{Bool, true, false, cond, false≢true}
use mathlib.Core.List.{List, [], ◌∷◌, ◌++◌, Memᴰ}
use mathlib.Core.Logic.{inl, inr, ⊎_elim}
use native.Mathlib.Omega.{arith}
use lib.Dec.{lit<, lit≤}
use lib.ListN.{length, take, drop, get_or}
use Rattle.rules.specs.Modulo.{modulo}
use Rattle.number.specs.Number.{distance_of}
use Rattle.field.specs.Field.{field_of, bytes_of}
use Rattle.packet.specs.Sizes.{most_user_data}
use Rattle.packet.specs.Check.{bit_in, bits_in, bytes_in}
use Rattle.packet_types.specs.Types.{caller_of, called_of, classes_of, least_of, in_class_d, opens, opening_fault}
use Rattle.links.specs.Callers.{listed, not_allowed}
use Rattle.links.specs.Table.{length_fault, judgeable, both_down, not_opening, not_later, too_far, link_rows, class_d_rows, taken_of, user_data_of}
use Rattle.one_story.specs.Sequence.{Packet, Gateway, Sequence, packet_on, bytes_on}
use Rattle.one_story.specs.Run.{Moment, link_of, nothing_yet, start, Drained, handed_by, Run}
use Rattle.one_story.specs.OneStory.{NotFarBehind, RunOf, BothUp}
use Rattle.one_story.specs.Losses.{no_packet, packets_at, Keeps, brought_of, furthest, passed_next, NotFarApart, NotFarNorLate, NotFarFromTold, LateIsMissing, LooseSkips}
use Rattle.one_story.specs.Met.{numbers_of}
use Rattle.one_story.proofs.Long.{looked_is}
use Rattle.one_story.specs.Worked.{responder, four_with, four, four_on, link, state_behind, with, Answers, mixed, MixedSteps, WorkedRun, keeps, three_on, lossy, LooseSteps, StrictSteps, WorkedLoss}
use Rattle.one_story.specs.Worked.{both_keep, even, EvenSteps, WorkedBothLose, AlikeIsNeeded}

with_sent_lem : (strict : Bool) (user_data : List ℕ) → length user_data ≤ most_user_data → Sequence (responder strict) (four_with user_data)
unfolding opening_fault least_of field_of not_allowed listed caller_of called_of
with_sent_lem strict user_data short = (
  record {
    version_fits = lit< tt;
    application_fits = lit< tt;
    numbered = refl;
    short = lit≤ tt;
    kinded = record { opening = refl; acceptable = refl; allowed = λ _. refl };
  },
  (
    record { version_fits = lit< tt; application_fits = lit< tt; numbered = refl; short = short; kinded = inl refl },
    (
      record { version_fits = lit< tt; application_fits = lit< tt; numbered = refl; short = lit≤ tt; kinded = inl refl },
      (record { version_fits = lit< tt; application_fits = lit< tt; numbered = refl; short = lit≤ tt; kinded = inr refl }, tt),
    ),
  ),
)

four_sent : (strict : Bool) → Sequence (responder strict) four
four_sent strict = with_sent_lem strict (65 ∷ 66 ∷ []) (lit≤ tt)

bytes_right : (bytes_on true four ≡ four_on true) × (bytes_on false four ≡ four_on false)
unfolding packet_on bytes_of bit_in bits_in bytes_in
bytes_right = (refl, refl)

three_right : (normal : Bool) → bytes_on normal (packets_at four (0 ∷ 1 ∷ 3 ∷ [])) ≡ three_on normal
unfolding packet_on bytes_of bit_in bits_in bytes_in
three_right true = refl
three_right false = refl

-- ---- the steps

-- what a step is computed by, for the lemmas that compute one: whatever they open, they open by this name
unfoldable step_opened : Unit {0}
unfolding length_fault judgeable both_down not_opening not_later too_far link_rows class_d_rows taken_of field_of in_class_d classes_of opens opening_fault least_of not_allowed listed caller_of called_of distance_of modulo bit_in bits_in bytes_in handed_by user_data_of
step_opened = tt

mixed_steps : MixedSteps
unfolding step_opened
mixed_steps = record {
  nothing_whole = (refl, refl);
  opened = (refl, refl);
  opened_again = (refl, refl);
  overtakes = (refl, refl);
  catches_up = (refl, refl);
  third = (refl, refl);
  released = (refl, refl);
  drained = (refl, refl);
}

loose_steps : LooseSteps
unfolding step_opened
loose_steps = record {
  first = (refl, refl);
  second = (refl, refl);
  skips = (refl, refl);
  first_again = (refl, refl);
  second_again = (refl, refl);
  late = (refl, refl);
}

strict_steps : StrictSteps
unfolding step_opened
strict_steps = record {
  first = (refl, refl);
  second = (refl, refl);
  waits = (refl, refl);
  first_again = (refl, refl);
  second_again = (refl, refl);
  comes = (refl, refl);
  last = (refl, refl);
}

even_steps : EvenSteps
unfolding step_opened
even_steps = record {
  first = (refl, refl);
  first_again = (refl, refl);
  second = (refl, refl);
  second_again = (refl, refl);
  skips = (refl, refl);
  skipped_again = (refl, refl);
}

-- ---- the runs

-- a step over all that has arrived, once what is supposed of it holds
goes : {gateway : Gateway} {brings : Bool → List Packet} {Near : Moment → Bool → Type 0} (m : Moment) → ((normal : Bool) → Near m normal) → (answer : ℕ) (n : Moment)
    → Answers gateway m answer n → Run gateway brings Near m → Run gateway brings Near n
goes {gateway} {brings} {Near} m near answer n a x =
    subst (Run gateway brings Near) a.1
    (Run.steps x m.normal.arrived m.normal.used m.redundant.arrived m.redundant.used refl refl (λ normal looks. near normal))

-- few packets are used
few : (m : Moment) → m.normal.packets ≤ 4 → m.redundant.packets ≤ 4 → (normal : Bool) → NotFarBehind 32768 m normal
few m a b true = omega arith
few m a b false = omega arith

-- a piece arrives; of these bytes what is left is still to come
more : {gateway : Gateway} {brings : Bool → List Packet} {Near : Moment → Bool → Type 0} (bytes : List ℕ) (normal : Bool) (n : ℕ) (m : Moment) (rest : List ℕ)
    → bytes_on normal (brings normal) ≡ bytes → ((link_of normal m).arrived ++ take n (drop (length (link_of normal m).arrived) bytes)) ++ rest ≡ bytes
    → Run gateway brings Near m → Run gateway brings Near (with bytes normal n m)
more bytes normal n m rest e f x = Run.arrives x normal (take n (drop (length (link_of normal m).arrived) bytes)) rest (f ∙ sym e)

abbrev Mixed : Moment → Type 0
Mixed m = RunOf (responder true) four 32768 m

mixed_step : (m : Moment) → m.normal.packets ≤ 4 → m.redundant.packets ≤ 4 → (answer : ℕ) (n : Moment) → Answers (responder true) m answer n → Mixed m → Mixed n
mixed_step m a b answer n s x = goes m (few m a b) answer n s x

mixed_more : (normal : Bool) (n : ℕ) (m : Moment) (rest : List ℕ)
    → ((link_of normal m).arrived ++ take n (drop (length (link_of normal m).arrived) (four_on normal))) ++ rest ≡ four_on normal → Mixed m → Mixed (with (four_on normal) normal n m)
mixed_more normal n m rest f x = more (four_on normal) normal n m rest (by normal) f x
  where
    by : (normal : Bool) → bytes_on normal four ≡ four_on normal
    by true = bytes_right.0
    by false = bytes_right.1

mixed_run : Mixed (mixed 34 31 2 52 52 4 (0 ∷ 1 ∷ 2 ∷ 3 ∷ []))
mixed_run =
    let a = mixed_step _ (lit≤ tt) (lit≤ tt) 301 _ mixed_steps.nothing_whole (mixed_more false 5 (start (responder true)) (drop 5 (four_on false)) refl Run.begun) in
    let b = mixed_step _ (lit≤ tt) (lit≤ tt) 0 _ mixed_steps.opened (mixed_more true 22 (mixed 0 0 0 5 0 0 []) (drop 22 (four_on true)) refl a) in
    let c = mixed_step _ (lit≤ tt) (lit≤ tt) 306 _ mixed_steps.opened_again (mixed_more false 29 (mixed 22 19 1 5 0 0 (0 ∷ [])) (drop 34 (four_on false)) refl b) in
    let d = mixed_step _ (lit≤ tt) (lit≤ tt) 0 _ mixed_steps.overtakes c in
    let e = mixed_step _ (lit≤ tt) (lit≤ tt) 306 _ mixed_steps.catches_up (mixed_more true 12 (mixed 22 19 1 34 31 2 (0 ∷ 1 ∷ [])) (drop 34 (four_on true)) refl d) in
    let f = mixed_step _ (lit≤ tt) (lit≤ tt) 0 _ mixed_steps.third (mixed_more false 7 (mixed 34 31 2 34 31 2 (0 ∷ 1 ∷ [])) (drop 41 (four_on false)) refl e) in
    mixed_step _ (lit≤ tt) (lit≤ tt) 0 _ mixed_steps.released (mixed_more false 11 (mixed 34 31 2 41 41 3 (0 ∷ 1 ∷ 2 ∷ [])) [] refl f)

pub worked_run : WorkedRun
worked_run = record { sequence = four_sent true; bytes = bytes_right; steps = mixed_steps; run = mixed_run }

-- ---- the links that lose a packet

both_kept : (normal : Bool) → Keeps four (keeps normal)
both_kept true = record { in_order = (lit≤ tt, lit< tt, (lit≤ tt, lit< tt, (lit≤ tt, lit< tt, tt))); opening = refl }
both_kept false = record { in_order = (lit≤ tt, lit< tt, (lit≤ tt, lit< tt, (lit≤ tt, lit< tt, (lit≤ tt, lit< tt, tt)))); opening = refl }

-- all bytes arrive on both links
arrived_on_both : (strict : Bool) {Near : Moment → Bool → Type 0} → Run (responder strict) (brought_of four keeps) Near (lossy strict 0 0 0 0 [])
arrived_on_both strict =
    more (four_on false) false 52 (with (three_on true) true 42 (start (responder strict))) [] bytes_right.1 refl
    (more (three_on true) true 42 (start (responder strict)) [] (three_right true) refl Run.begun)

-- few places are passed
record Few (m : Moment) : Type 0 where
  used : furthest keeps m ≤ 4
  told : length m.handed ≤ 4
  next_normal : passed_next keeps m true ≤ 4
  next_redundant : passed_next keeps m false ≤ 4

few_apart : (m : Moment) → Few m → (normal : Bool) → NotFarApart keeps m normal
few_apart m f true = (omega (arith, f.used, f.next_normal), omega (arith, f.next_normal))
few_apart m f false = (omega (arith, f.used, f.next_redundant), omega (arith, f.next_redundant))

few_told : (m : Moment) → Few m → (normal : Bool) → NotFarFromTold keeps m normal
few_told m f true = (omega (arith, f.told, f.next_normal), omega (arith, f.next_normal))
few_told m f false = (omega (arith, f.told, f.next_redundant), omega (arith, f.next_redundant))

-- the steps of a setting, whatever is supposed of it where few places are passed
module _ (Near : Moment → Bool → Type 0) (few-near : (m : Moment) → Few m → (normal : Bool) → Near m normal) where
  lossy_step : (strict : Bool) (m : Moment) → Few m → (answer : ℕ) (n : Moment) → Answers (responder strict) m answer n
      → Run (responder strict) (brought_of four keeps) Near m → Run (responder strict) (brought_of four keeps) Near n
  lossy_step strict m f answer n s x = goes m (few-near m f) answer n s x

  abbrev few_of : {m : Moment} → furthest keeps m ≤ 4 → length m.handed ≤ 4 → passed_next keeps m true ≤ 4 → passed_next keeps m false ≤ 4 → Few m
  few_of a b c d = record { used = a; told = b; next_normal = c; next_redundant = d }

  loose_run : Run (responder false) (brought_of four keeps) Near (lossy false 42 3 41 3 (0 ∷ 1 ∷ 3 ∷ []))
  loose_run =
      let a = lossy_step false _ (few_of (lit≤ tt) (lit≤ tt) (lit≤ tt) (lit≤ tt)) 0 _ loose_steps.first (arrived_on_both false) in
      let b = lossy_step false _ (few_of (lit≤ tt) (lit≤ tt) (lit≤ tt) (lit≤ tt)) 0 _ loose_steps.second a in
      let c = lossy_step false _ (few_of (lit≤ tt) (lit≤ tt) (lit≤ tt) (lit≤ tt)) 0 _ loose_steps.skips b in
      let d = lossy_step false _ (few_of (lit≤ tt) (lit≤ tt) (lit≤ tt) (lit≤ tt)) 306 _ loose_steps.first_again c in
      let e = lossy_step false _ (few_of (lit≤ tt) (lit≤ tt) (lit≤ tt) (lit≤ tt)) 306 _ loose_steps.second_again d in
      lossy_step false _ (few_of (lit≤ tt) (lit≤ tt) (lit≤ tt) (lit≤ tt)) 306 _ loose_steps.late e

  strict_run : Run (responder true) (brought_of four keeps) Near (lossy true 42 3 52 4 (0 ∷ 1 ∷ 2 ∷ 3 ∷ []))
  strict_run =
      let a = lossy_step true _ (few_of (lit≤ tt) (lit≤ tt) (lit≤ tt) (lit≤ tt)) 0 _ strict_steps.first (arrived_on_both true) in
      let b = lossy_step true _ (few_of (lit≤ tt) (lit≤ tt) (lit≤ tt) (lit≤ tt)) 0 _ strict_steps.second a in
      let c = lossy_step true _ (few_of (lit≤ tt) (lit≤ tt) (lit≤ tt) (lit≤ tt)) 307 _ strict_steps.waits b in
      let d = lossy_step true _ (few_of (lit≤ tt) (lit≤ tt) (lit≤ tt) (lit≤ tt)) 306 _ strict_steps.first_again c in
      let e = lossy_step true _ (few_of (lit≤ tt) (lit≤ tt) (lit≤ tt) (lit≤ tt)) 306 _ strict_steps.second_again d in
      let f = lossy_step true _ (few_of (lit≤ tt) (lit≤ tt) (lit≤ tt) (lit≤ tt)) 0 _ strict_steps.comes e in
      lossy_step true _ (few_of (lit≤ tt) (lit≤ tt) (lit≤ tt) (lit≤ tt)) 0 _ strict_steps.last f

pub worked_loss : WorkedLoss
worked_loss = record {
  kept = both_kept;
  bytes = three_right true;
  loose_steps = loose_steps;
  loose_run = loose_run (NotFarApart keeps) few_apart;
  strict_steps = strict_steps;
  strict_run = strict_run (NotFarFromTold keeps) few_told;
}

-- what was handed up third has the number 3, what was sent third 2
pub loose_skips : LooseSkips
loose_skips claim =
    let x = claim (responder false) refl four (four_sent false) keeps both_kept (lossy false 42 3 41 3 (0 ∷ 1 ∷ 3 ∷ [])) (loose_run (NotFarFromTold keeps) few_told) in
    let e : ◌≡◌ {A = ℕ} 3 2 = ap (λ (handed : List Packet). (get_or handed 2 no_packet).number) x.0 in
    omega (arith, e)

-- ---- both links lose a packet

three_kept : Keeps four (0 ∷ 1 ∷ 3 ∷ [])
three_kept = both_kept true

abbrev Even : Moment → Type 0
Even m = Run (responder false) (brought_of four both_keep) (NotFarNorLate both_keep) m

-- a piece arrives on a link, and a step takes it: of the other link nothing is left
even_step : (normal : Bool) (n : ℕ) (m : Moment) (rest : List ℕ) (answer : ℕ) (then : Moment)
    → ((link_of normal m).arrived ++ take n (drop (length (link_of normal m).arrived) (three_on normal))) ++ rest ≡ three_on normal
    → let now = with (three_on normal) normal n m in
    BothUp now.state → judgeable (link_of normal now).arrived (link_of normal now).used ≡ true → (normal ≡ false → Drained now.normal) → NotFarNorLate both_keep now normal
    → Answers (responder false) now answer then → Even m → Even then
even_step normal n m rest answer then f up holds drained near a x =
    let now = with (three_on normal) normal n m in
    subst Even a.1
    (Run.steps (more (three_on normal) normal n m rest (three_right normal) f x) now.normal.arrived now.normal.used now.redundant.arrived now.redundant.used refl refl
    (λ looked looks. subst (NotFarNorLate both_keep now) (sym (looked_is (responder false) now up normal holds drained looked looks)) near))

-- of these places one before the third is before the second
not_two : (place : ℕ) → Memᴰ place (0 ∷ 1 ∷ 3 ∷ []) → place < 3 → place < 2
not_two place (Memᴰ.head e) h = omega (arith, e)
not_two place (Memᴰ.tail (Memᴰ.head e)) h = omega (arith, e)
not_two place (Memᴰ.tail (Memᴰ.tail (Memᴰ.head e))) h = let none : ⊥ = omega (arith, e) in absurd none
not_two place (Memᴰ.tail (Memᴰ.tail (Memᴰ.tail x))) h = elim x [ ]

even_run : Even (even 42 3 42 3 (0 ∷ 1 ∷ 3 ∷ []))
unfolding judgeable length_fault field_of
even_run =
    let a = even_step true 19 (start (responder false)) (drop 19 (three_on true)) 0 _ refl (record { normal_up = refl; redundant_up = refl }) refl (λ f. absurd (false≢true (sym f)))
    ((lit< tt, lit< tt), λ _ place i h. let none : ⊥ = omega arith in absurd none) even_steps.first Run.begun in
    let b = even_step false 19 (even 19 1 0 0 (0 ∷ [])) (drop 19 (three_on false)) 306 _ refl (record { normal_up = refl; redundant_up = refl }) refl (λ _. refl)
    ((lit< tt, lit< tt), λ f. let none : ⊥ = omega arith in absurd none) even_steps.first_again a in
    let c = even_step true 12 (even 19 1 19 1 (0 ∷ [])) (drop 31 (three_on true)) 0 _ refl (record { normal_up = refl; redundant_up = refl }) refl (λ f. absurd (false≢true (sym f)))
    ((lit< tt, lit< tt), λ _ place i h. omega arith) even_steps.second b in
    let d = even_step false 12 (even 31 2 19 1 (0 ∷ 1 ∷ [])) (drop 31 (three_on false)) 306 _ refl (record { normal_up = refl; redundant_up = refl }) refl (λ _. refl)
    ((lit< tt, lit< tt), λ f. let none : ⊥ = omega arith in absurd none) even_steps.second_again c in
    let e = even_step true 11 (even 31 2 31 2 (0 ∷ 1 ∷ [])) [] 0 _ refl (record { normal_up = refl; redundant_up = refl }) refl (λ f. absurd (false≢true (sym f)))
    ((lit< tt, lit< tt), λ _ place i h. not_two place i (omega arith)) even_steps.skips d in
    even_step false 11 (even 42 3 31 2 (0 ∷ 1 ∷ 3 ∷ [])) [] 306 _ refl (record { normal_up = refl; redundant_up = refl }) refl (λ _. refl)
    ((lit< tt, lit< tt), λ f. let none : ⊥ = omega arith in absurd none) even_steps.skipped_again e

pub worked_both_lose : WorkedBothLose
worked_both_lose = record { kept = three_kept; bytes = three_right; steps = even_steps; run = even_run }

-- ---- what comes late is missing

-- the number of a packet at one of these places is among their packets' numbers
number_there : (place : ℕ) (places : List ℕ) → Memᴰ place places → Memᴰ (get_or four place no_packet).number (numbers_of (packets_at four places))
number_there place [] x = elim x [ ]
number_there place (p ∷ ps) (Memᴰ.head e) = Memᴰ.head (ap (λ (j : ℕ). (get_or four j no_packet).number) e)
number_there place (p ∷ ps) (Memᴰ.tail i) = Memᴰ.tail (number_there place ps i)

not_there : Memᴰ {A = ℕ} 2 (0 ∷ 1 ∷ 3 ∷ []) → ⊥
not_there (Memᴰ.head e) = omega (arith, e)
not_there (Memᴰ.tail (Memᴰ.head e)) = omega (arith, e)
not_there (Memᴰ.tail (Memᴰ.tail (Memᴰ.head e))) = omega (arith, e)
not_there (Memᴰ.tail (Memᴰ.tail (Memᴰ.tail x))) = elim x [ ]

pub late_is_missing : LateIsMissing
late_is_missing claim =
    let x = claim (responder false) refl four (four_sent false) keeps both_kept (lossy false 42 3 41 3 (0 ∷ 1 ∷ 3 ∷ [])) (loose_run (NotFarApart keeps) few_apart) in
    ⊎_elim (λ i. not_there (subst (λ (l : List Packet). Memᴰ {A = ℕ} 2 (numbers_of l)) (sym x.told) (number_there 2 x.places i)))
    (λ lost. lost.1 (Memᴰ.tail (Memᴰ.tail (Memᴰ.head refl)))) (x.missing 2 (lit< tt))

-- ---- the redundant link brings another user data

abbrev other_four : List Packet
other_four = four_with (67 ∷ 68 ∷ [])

-- its first two packets on the redundant link
abbrev other_on : List ℕ
other_on =
    0 ∷ 17 ∷ 1 ∷ 26 ∷ 0 ∷ 0 ∷ 0 ∷ 1 ∷ 187 ∷ 218 ∷ 0 ∷ 0 ∷ 0 ∷ 7 ∷ 0 ∷ 0 ∷ 0 ∷ 9 ∷ 3 ∷ 0 ∷ 10 ∷ 1 ∷ 27 ∷ 0 ∷ 1 ∷ 0 ∷ 3 ∷ 10 ∷ 27 ∷ 67 ∷ 68 ∷ []

other_right : other_on ++ drop 31 (four_on false) ≡ bytes_on false other_four
unfolding packet_on bytes_of bit_in bits_in bytes_in
other_right = refl

-- they have arrived, and so many are used
abbrev others : ℕ → ℕ → List ℕ → Moment
others used packets places = record {
  normal = nothing_yet;
  redundant = link other_on 31 used packets;
  state = state_behind (responder true) places;
  handed = packets_at other_four places;
}

other_steps : Answers (responder true) (others 0 0 []) 0 (others 19 1 (0 ∷ [])) × Answers (responder true) (others 19 1 (0 ∷ [])) 0 (others 31 2 (0 ∷ 1 ∷ []))
unfolding step_opened
other_steps = ((refl, refl), (refl, refl))

other_run : Run (responder true) (λ (normal : Bool). cond normal four other_four) (NotFarBehind 32768) (others 31 2 (0 ∷ 1 ∷ []))
other_run =
    goes (others 19 1 (0 ∷ [])) (few (others 19 1 (0 ∷ [])) (lit≤ tt) (lit≤ tt)) 0 (others 31 2 (0 ∷ 1 ∷ [])) other_steps.1
    (goes (others 0 0 []) (few (others 0 0 []) (lit≤ tt) (lit≤ tt)) 0 (others 19 1 (0 ∷ [])) other_steps.0
    (Run.arrives Run.begun false other_on (drop 31 (four_on false)) other_right))

-- what was handed up second begins with 67, what was sent second with 65
pub alike_is_needed : AlikeIsNeeded
alike_is_needed claim =
    let x = claim (responder true) refl four other_four (four_sent true) (with_sent_lem true (67 ∷ 68 ∷ []) (lit≤ tt)) refl (others 31 2 (0 ∷ 1 ∷ [])) other_run in
    let e : ◌≡◌ {A = ℕ} 67 65 = ap (λ (handed : List Packet). get_or (get_or handed 1 no_packet).user_data 0 0) x.told in
    omega (arith, e)
