-- Worlds for the worked histories: a moment is a number of ticks of a third clock, and each of the two clocks is a function of it.
use Rattle.std.specs.Prelude.{ℕ, ◌+◌, ◌-◌, ◌≤◌, eqb}
use Rattle.std.proofs.Common.{le_refl, le_trans}
use Rattle.rules.specs.Rows.{when◌answer◌else◌}
use Rattle.true_age.specs.Clocks.{World, InBand}

-- a clock that does not run back
abbrev pub DoesNotRunBack : (ℕ → ℕ) → Type 0
DoesNotRunBack clock = (t u : ℕ) → t ≤ u → clock t ≤ clock u

-- the moments at which the first, the second and the third message that we write arrive at the peer
abbrev pub arrivals : ℕ → ℕ → ℕ → ℕ → ℕ
arrivals first second third n =
    when eqb n 0 answer first else
    when eqb n 1 answer second else
    third

-- its moments are numbers
abbrev pub world_of : (ours peers arrived : ℕ → ℕ) → DoesNotRunBack ours → DoesNotRunBack peers → World
world_of ours peers arrived ours_runs peers_runs =
    record {
      Moment = ℕ;
      early = ◌≤◌;
      early_refl = λ t. le_refl t;
      early_trans = λ t u v h k. le_trans h k;
      ours = ours;
      peers = peers;
      ours_runs = ours_runs;
      peers_runs = peers_runs;
      arrived = arrived;
    }

-- a band that is never left, whenever a message is judged
abbrev pub StaysInBand : (W : World) → W.Moment → ℕ → Type 0
StaysInBand W began j = (judged : W.Moment) → InBand W began judged j

-- The true offset is NUM-1's, 850: the initiator's clock reads the moment itself and the responder's 850 less, or as a world says:
abbrev pub initiators : ℕ → ℕ
initiators t = t

abbrev pub responders : ℕ → ℕ
responders t = t - 850

-- how many ticks of from .. to are past at t
abbrev pub past : ℕ → ℕ → ℕ → ℕ
past from to t = t - from - (t - to)

-- a clock that gains from .. to: it runs two ticks in each
abbrev pub gaining : ℕ → ℕ → (ℕ → ℕ) → ℕ → ℕ
gaining from to clock t = clock t + past from to t

-- a clock that stands still from .. to
abbrev pub standing : ℕ → ℕ → (ℕ → ℕ) → ℕ → ℕ
standing from to clock t = clock t - past from to t

-- the responder's clock, but before 1000 it stands still at 150
abbrev pub standing_before : ℕ → ℕ
standing_before t = 150 + (t - 1000)
