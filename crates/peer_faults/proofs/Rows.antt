-- The rows of a fault with the age that goes with it: none with 202, 203, 208 and 209, and the time check's with 206, 205, 204 and 0.
-- Assumes nothing.
use Rattle.std.proofs.Common.{ℕ, ◌≡◌, refl, sym, Bool, true, false, ◌&&◌, eqb}
use Rattle.rules.specs.Rows.{when◌answer◌else◌}
use Rattle.clock.specs.Clock.{no_age, verdict_number}
use Rattle.clock.specs.declared.Age.{Age}
use Rattle.clock.specs.declared.Count.{Count}
use Rattle.clock.specs.declared.Verdict.{Verdict}
use Rattle.clock.specs.declared.Verdict.TheVariants.{Future, Late, Fresh}
use Rattle.number.specs.Number.{distance_of}
use Rattle.message.specs.Table.{application}
use Rattle.message.specs.declared.Header.{Header}
use Rattle.message.specs.declared.Tail.{Tail}
use Rattle.connection.specs.declared.Connection.{Connection}
use Rattle.peer_faults.specs.declared.Fault.{Fault}
use Rattle.peer_faults.specs.Faults.{not_ahead, beyond_n, gap, wrong_echo, check_failed, time_check_of, fault_with, age_fault, fault_number, reports_age, age_with, fault_of}

-- the numbers past 209, of a fault by its age
abbrev past_209 : Fault → Bool → ℕ
past_209 f gap =
    when eqb f.number 206 answer 206 else
    when eqb f.number 205 answer 205 else
    when gap answer 204 else
    0

-- a number with the age that is reported with it
abbrev told : Fault → ℕ → Fault
told f k = fault_with k (when reports_age k answer f.age else no_age)

-- the gap is told where the age finds nothing
abbrev or_gap : Fault → Bool → Fault
or_gap f gap = when eqb f.number 0 && gap answer fault_with 204 f.age else f

judged : (v : Verdict) (age : Age) (gap : Bool)
    → let f = fault_with (verdict_number v) age in told f (past_209 f gap) ≡ or_gap f gap
unfolding reports_age
judged Future age gap = refl
judged Late age gap = refl
judged Fresh age true = refl
judged Fresh age false = refl

by_age : (c : Connection) (now : Count) (h : Header) (gap : Bool) → let f = age_fault c now h in told f (past_209 f gap) ≡ or_gap f gap
unfolding age_fault
by_age c now h gap = go (eqb h.kind application)
  where
    go : (b : Bool)
        → let f = when b answer fault_with (verdict_number (time_check_of c now h).verdict) (time_check_of c now h).age else fault_with 0 no_age in
        told f (past_209 f gap) ≡ or_gap f gap
    go true = judged (time_check_of c now h).verdict (time_check_of c now h).age gap
    go false = judged Fresh no_age gap

pub fault_rows : (c : Connection) (now : Count) (h : Header) (t : Tail)
    → (when not_ahead h.kind (distance_of h.number c.peer.number) answer fault_with 202 no_age else
    when beyond_n h.kind (distance_of h.number c.peer.number) c.settings.n answer fault_with 203 no_age else
    when wrong_echo h.kind h.last_peer_stamp.0 c.wait_start.0 answer fault_with 208 no_age else
    when check_failed c h.kind t answer fault_with 209 no_age else
    or_gap (age_fault c now h) (gap h.kind (distance_of h.number c.peer.number)))
    ≡ fault_of c now h t
unfolding fault_number reports_age age_with
fault_rows c now h t =
    go (not_ahead h.kind (distance_of h.number c.peer.number)) (beyond_n h.kind (distance_of h.number c.peer.number) c.settings.n) (wrong_echo h.kind h.last_peer_stamp.0 c.wait_start.0) (check_failed c h.kind t)
  where
    go : (a b d e : Bool)
        → (when a answer fault_with 202 no_age else when b answer fault_with 203 no_age else when d answer fault_with 208 no_age else
        when e answer fault_with 209 no_age else or_gap (age_fault c now h) (gap h.kind (distance_of h.number c.peer.number)))
        ≡ told (age_fault c now h)
        (when a answer 202 else when b answer 203 else when d answer 208 else when e answer 209 else past_209 (age_fault c now h) (gap h.kind (distance_of h.number c.peer.number)))
    go true b d e = refl
    go false true d e = refl
    go false false true e = refl
    go false false false true = refl
    go false false false false = sym (by_age c now h (gap h.kind (distance_of h.number c.peer.number)))
