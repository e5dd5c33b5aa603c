-- Demand 3 at the table, from demand 3 of the slot's record.
-- Assumes nothing.
use Prim.Native.Nat.{ℕ, ◌+◌, ◌^◌, ◌<◌}
use mathlib.Core.Path.{◌≡◌, refl, sym, subst}
use mathlib.Core.Bool.{Bool, true, false}
use mathlib.Core.List.{List}
use lib.ListN.{length}
use Rattle.rules.specs.Rows.{when◌answer◌else◌}
use Rattle.clock.specs.declared.Age.{Age}
use Rattle.connection.specs.declared.Connection.{Connection}
use Rattle.calls.specs.declared.Answer.{Answer}
use Rattle.calls.specs.declared.Call.{Call}
use Rattle.calls.specs.Calls.{receive_outcome, refusal, made, delivered_of}
use Rattle.promises.specs.Promises.{delivers_to}
use Rattle.table.specs.Table.{bad_slot, record_at, LeftAt, leaves_at, stored_at, made_at}
use Rattle.table_promises.proofs.Promises.{promises}
use Rattle.true_age.specs.Clocks.{count_of}
use Rattle.true_age.specs.History.{Ours, Written}
use Rattle.true_age.specs.Claim.{transit, true_age, AgeClaim, HandsUp, Claim}
use Rattle.true_age.proofs.Delivered.{other_delivers_none, hands_up, delivers}
use Rattle.true_age.proofs.Demand3.{demand_3}
use Rattle.age_at_table.specs.Run.{SlotHistory}
use Rattle.age_at_table.specs.Claim.{HandsUpAtTable, Demand3AtTable}
use Rattle.age_at_table.proofs.Run.{slots_are_histories}

-- 101 hands nothing up
refusal_hands_up : (c : Connection) (message : List ℕ) → HandsUp c message 101 0
unfolding delivered_of
refusal_hands_up c message = record { count = rw none refl; bytes = rw none refl }
  where
    none : delivers_to c 101 ≡ false
    none = other_delivers_none c 101 refl refl

pub hands_up_at_the_table : HandsUpAtTable
unfolding made_at
hands_up_at_the_table table slot now message out = go (bad_slot (length table) slot)
  where
    left : Bool → LeftAt
    left bad = when bad answer leaves_at (refusal 101) table out else stored_at table slot (made Call.Receive (record_at table slot) now message out)

    go : (bad : Bool) → HandsUp (record_at table slot) message (left bad).answer.number (left bad).answer.delivered
    go true = refusal_hands_up (record_at table slot) message
    go false = hands_up (record_at table slot) now message (length out)

pub demand_3_at_the_table : Demand3AtTable
demand_3_at_the_table W began j slot role settings t table run log last x o u next band message out h s w m =
    let c : Connection = record_at table slot in
    let y : SlotHistory W began slot role settings t table log last = slots_are_histories W began slot role settings t table run log last x in
    let a : Answer = (made_at table slot Call.Receive (count_of (W.ours u)) message out).answer in
    let claim : Claim W began j role settings log last c u message (length out) h m =
    demand_3 W began j role settings log last c y.history o u (W.early_trans last t u y.last_before next) band message (length out) h s w m in
    let there = promises table slot Call.Receive (count_of (W.ours u)) message out in
    let r = receive_outcome c (count_of (W.ours u)) message (length out) in
    let up : HandsUp c message a.number a.delivered = hands_up_at_the_table table slot (count_of (W.ours u)) message out in
    let age : (first : Ours W) → Written W 0 first log → true_age W m.sent u + settings.e + j + transit W first < 2 ^ 31
    → AgeClaim settings (true_age W m.sent u) j (transit W first) a.age.0 c a.number =
    λ first written small. subst (λ (age : Age). AgeClaim settings (true_age W m.sent u) j (transit W first) age.0 c a.number) (sym (there.same_age y.good_slot))
    (subst (AgeClaim settings (true_age W m.sent u) j (transit W first) r.age.0 c) (sym (there.same_number y.good_slot)) (claim.age first written small)) in
    record {
      same_settings = claim.same_settings;
      own = claim.own;
      age = age;
      hands_up = up;
      byte_handed_up = λ first written small some. (age first written small).handed_up_lem (delivers c message a.number a.delivered up some);
    }
