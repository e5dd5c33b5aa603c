-- DEMAND-3 at the table: of a receive on a slot, as the host calls it, and of the bytes that the host gets.
use Rattle.std.specs.Prelude.{ℕ, ◌+◌, ◌^◌, ◌<◌, ◌≡◌, List, pos, ◌+ℤ◌, ◌-ℤ◌, ◌≤ℤ◌, Some}
use Rattle.clock.specs.declared.Count.{Count}
use Rattle.message.specs.Read.{parsed_of}
use Rattle.message.specs.declared.Header.{Header}
use Rattle.message.specs.declared.Tail.{Tail}
use Rattle.message.specs.Layout.{whole}
use Rattle.connection.specs.declared.Settings.{Settings}
use Rattle.connection.specs.declared.Connection.{Connection}
use Rattle.connection.specs.Connection.{opened}
use Rattle.calls.specs.declared.Call.{Call}
use Rattle.calls.specs.declared.Answer.{Answer}
use Rattle.table.specs.Table.{record_at, made_at}
use Rattle.true_age.specs.Clocks.{World, InBand, count_of}
use Rattle.true_age.specs.History.{Ours, Written, Judged}
use Rattle.true_age.specs.Claim.{OwnSetUp, transit, true_age, AgeClaim, HandsUp}
use Rattle.age_at_table.specs.Run.{Run, Since}

-- of a receive on any slot of any table, with any bytes: what its answer hands up
abbrev pub HandsUpAtTable : Type 0
HandsUpAtTable =
    (table : List Connection) (slot : ℕ) (now : Count) (message out : List ℕ)
    → HandsUp (record_at table slot) message
    (made_at table slot Call.Receive now message out).answer.number (made_at table slot Call.Receive now message out).answer.delivered

-- DEMAND-3 of one such receive with our count as its now, where a is the answer that the host gets
pub record ClaimAtTable (W : World) (began : W.Moment) (j role : ℕ) (settings : Settings)
    (log : List (Ours W)) (last : W.Moment) (c : Connection)
    (u : W.Moment) (message : List ℕ) (a : Answer) (h : Header) (m : Judged W began log u h) : Type 0 where
  pub same_settings : c.settings ≡ settings
  pub own : OwnSetUp W began role log last c
  pub age : (first : Ours W) → Written W 0 first log → true_age W m.sent u + settings.e + j + transit W first < 2 ^ 31
      → AgeClaim settings (true_age W m.sent u) j (transit W first) a.age.0 c a.number
  pub hands_up : HandsUp c message a.number a.delivered
  -- where a byte goes up, the message is truly no older than T_max - E + J - d
  pub byte_handed_up : (first : Ours W) → Written W 0 first log → true_age W m.sent u + settings.e + j + transit W first < 2 ^ 31
      → 0 < a.delivered → pos (true_age W m.sent u) ≤ℤ (pos settings.t_max -ℤ pos settings.e +ℤ pos j -ℤ pos (transit W first))

-- DEMAND-3: the next call of a run is a receive on an open slot; any out buffer, and any bytes that are a message
abbrev pub Demand3AtTable : Type 1
Demand3AtTable =
    (W : World) (began : W.Moment) (j slot role : ℕ) (settings : Settings) (t : W.Moment) (table : List Connection) (run : Run W t table)
    (log : List (Ours W)) (last : W.Moment) → Since W began slot role settings t table run log last
    → (record_at table slot).phase ≡ opened
    → (u : W.Moment) → W.early t u → InBand W began u j
    → (message out : List ℕ) (h : Header) (s : Tail) → parsed_of message ≡ Some (whole h s)
    → (m : Judged W began log u h)
    → ClaimAtTable W began j role settings log last (record_at table slot) u message
    (made_at table slot Call.Receive (count_of (W.ours u)) message out).answer h m
