-- Demand 3: how old a message that is judged fresh can truly be.
-- Assumes nothing.
use Prim.Native.Nat.{ℕ, ◌+◌, ◌^◌, ◌<◌}
use mathlib.Core.Path.{◌≡◌, refl, sym, ap, subst, ◌∙◌}
use mathlib.Core.Bool.{true}
use mathlib.Core.List.{List}
use lib.IntN.{ℤ}
use Rattle.clock.specs.Clock.{age_of, verdict_of}
use Rattle.clock.specs.declared.Age.{Age}
use Rattle.clock.specs.declared.Count.{Count}
use Rattle.clock.specs.declared.Verdict.TheVariants.{Future, Late, Fresh}
use Rattle.clock.specs.declared.Offset.{Offset}
use Rattle.message.specs.declared.Header.{Header}
use Rattle.std.proofs.Common.{Option}
use Rattle.message.specs.declared.Message.{Message}
use Rattle.connection.specs.declared.Settings.{Settings}
use Rattle.connection.specs.declared.Connection.{Connection}
use Rattle.connection.specs.Connection.{opened}
use Rattle.peer_faults.specs.Faults.{message_age}
use Rattle.what_follows.specs.Follows.{offset_between}
use Rattle.calls.specs.Calls.{receive_outcome}
use Rattle.promises.specs.Promises.{delivers_to, tells_age, reported_by, GoesByAge}
use Rattle.promises.proofs.Reported.{receive_reports, receive_goes_by_age}
use Rattle.true_age.specs.Clocks.{World, InBand, count_of}
use Rattle.true_age.specs.History.{Ours, Written, Judged}
use Rattle.true_age.specs.Claim.{OwnSetUp, transit, true_age, Bounds, AgeClaim, Demand3}
use Rattle.true_age.proofs.TrueAge.{age_bounds, fresh_bound, late_bound, future_bound}
use Rattle.true_age.proofs.Answers.{delivers_tells, late_tells, future_tells, fresh_verdict, late_verdict, future_verdict}
use Rattle.true_age.proofs.Delivered.{hands_up}
use Rattle.true_age.proofs.History.{one_written, open_set_up}

module _ (W : World) (began : W.Moment) (j role : ℕ) (settings : Settings) (log : List (Ours W)) (t : W.Moment) (c : Connection)
    (same : c.settings ≡ settings) (own : OwnSetUp W began role log t c) (u : W.Moment) (next : W.early t u) (band : InBand W began u j)
    (h : Header) (m : Judged W began log u h) where
  abbrev age : ℤ
  age = message_age c (count_of (W.ours u)) h

  abbrev the_true_age : ℕ
  the_true_age = true_age W m.sent u

  -- the record's age is by our count, the peer's stamp, E, and the offset that the set-up gave
  age_is : age ≡ age_of (count_of (W.ours u)).0 (count_of (W.peers m.sent)).0 settings.e
      (offset_between (count_of (W.ours own.ours.at)) (count_of (W.peers (W.arrived 0)))).0
  age_is =
      ap (λ (s : Settings). age_of (count_of (W.ours u)).0 h.stamp.0 s.e c.offsets.min.0) same
      ∙ ap (λ (stamp : Count). age_of (count_of (W.ours u)).0 stamp.0 settings.e c.offsets.min.0) m.stamped
      ∙ ap (λ (min : Offset). age_of (count_of (W.ours u)).0 (count_of (W.peers m.sent)).0 settings.e min.0)
      (own.gave ∙ ap (λ (stamp : Count). offset_between stamp (count_of (W.peers (W.arrived 0)))) own.stamped)

  bounds : the_true_age + settings.e + j + transit W own.ours < 2 ^ 31 → Bounds the_true_age settings.e j (transit W own.ours) age
  bounds small =
      subst (Bounds the_true_age settings.e j (transit W own.ours)) (sym age_is)
      (age_bounds W began j settings.e own.ours.at (W.arrived 0) m.sent u band own.since
      (W.early_trans own.ours.at t u own.before next) own.onward m.since m.onward small)

  -- the age that is reported with the answer k
  module _ (k : ℕ) (told : ℤ) (opens : c.phase ≡ opened) (is : tells_age c k ≡ true → told ≡ age)
      (goes : tells_age c k ≡ true → GoesByAge settings.t_max told k) where
    own_claim : the_true_age + settings.e + j + transit W own.ours < 2 ^ 31 → AgeClaim settings the_true_age j (transit W own.ours) told c k
    own_claim small =
        let d : ℕ = transit W own.ours in
        let b : tells_age c k ≡ true → Bounds the_true_age settings.e j d told =
        λ e. subst (Bounds the_true_age settings.e j d) (sym (is e)) (bounds small) in
        let fresh : delivers_to c k ≡ true → verdict_of told settings.t_max ≡ Fresh =
        λ e. fresh_verdict settings.t_max told k (goes (delivers_tells c k e)) c e in
        let late : k ≡ 205 → verdict_of told settings.t_max ≡ Late = λ e. late_verdict settings.t_max told k (goes (late_tells c opens k e)) e in
        let future : k ≡ 206 → verdict_of told settings.t_max ≡ Future =
        λ e. future_verdict settings.t_max told k (goes (future_tells c opens k e)) e in
        record {
          bounds = b;
          fresh_by_age = fresh;
          late_by_age = late;
          future_by_age = future;
          handed_up_lem = λ e. fresh_bound the_true_age settings.e j d told (b (delivers_tells c k e)) settings.t_max (fresh e);
          late = λ e. late_bound the_true_age settings.e j d told (b (late_tells c opens k e)) settings.t_max (late e);
          future = λ e. future_bound the_true_age settings.e j d told (b (future_tells c opens k e)) settings.t_max (future e);
        }

    -- the first that we wrote is one
    age_claim : (first : Ours W) → Written W 0 first log → the_true_age + settings.e + j + transit W first < 2 ^ 31
        → AgeClaim settings the_true_age j (transit W first) told c k
    age_claim first w =
        subst (λ (x : Ours W). the_true_age + settings.e + j + transit W x < 2 ^ 31 → AgeClaim settings the_true_age j (transit W x) told c k)
        (one_written W own.first w refl) own_claim

pub demand_3 : Demand3
demand_3 W began j role settings log t c x o u next band message room h s w m =
    let k = open_set_up W began role settings x o in
    let now = count_of (W.ours u) in
    let r = receive_outcome c now message room in
    record {
      same_settings = k.0;
      own = k.1;
      age =
          age_claim W began j role settings log t c k.0 k.1 u next band h m r.number r.age.0 o
          (λ e. ap (λ (a : Age). a.0) (receive_reports c now message room ∙ ap (λ (p : Option Message). reported_by c now p r.number) w ∙ rw e refl))
          (λ e. subst (λ (s : Settings). GoesByAge s.t_max r.age.0 r.number) k.0 (receive_goes_by_age c now message room e));
      hands_up = hands_up c now message room;
    }
