-- DEMAND-3: what the age of a judged message says of how old it truly is.
use Rattle.std.specs.Prelude.{ℕ, ◌+◌, ◌-◌, ◌^◌, ◌<◌, ◌≡◌, true, List, [], eqb, length, ℤ, pos, ◌+ℤ◌, ◌-ℤ◌, ◌≤ℤ◌, Some}
use Rattle.rules.specs.Rows.{when◌answer◌else◌}
use Rattle.clock.specs.Clock.{verdict_of}
use Rattle.clock.specs.declared.Verdict.TheVariants.{Future, Late, Fresh}
use Rattle.message.specs.Table.{offset_start, offset_answ1}
use Rattle.message.specs.Read.{parsed_of, data_of}
use Rattle.message.specs.declared.Header.{Header}
use Rattle.message.specs.declared.Tail.{Tail}
use Rattle.message.specs.Layout.{whole}
use Rattle.connection.specs.declared.Settings.{Settings}
use Rattle.connection.specs.declared.Connection.{Connection}
use Rattle.connection.specs.Connection.{opened}
use Rattle.what_follows.specs.Follows.{offset_between}
use Rattle.calls.specs.Calls.{initiator, receive_outcome, delivered_of}
use Rattle.promises.specs.Promises.{delivers_to, tells_age}
use Rattle.true_age.specs.Clocks.{World, InBand, count_of}
use Rattle.true_age.specs.History.{Ours, Written, Judged, History}

-- the first message that a role writes: OffsetStart of an initiator, OffsetAnsw1 of a responder
abbrev pub own_type : ℕ → ℕ
own_type role = when eqb role initiator answer offset_start else offset_answ1

-- the message of ours that gave the offset: the first that we wrote on this connection
pub record OwnSetUp (W : World) (began : W.Moment) (role : ℕ) (log : List (Ours W)) (t : W.Moment) (c : Connection) : Type 0 where
  pub ours : Ours W
  pub first : Written W 0 ours log
  pub type : ours.header.kind ≡ own_type role
  pub since : W.early began ours.at
  pub before : W.early ours.at t
  pub onward : W.early ours.at (W.arrived 0)
  pub stamped : ours.header.stamp ≡ count_of (W.ours ours.at)
  pub gave : c.offsets.min ≡ offset_between ours.header.stamp (count_of (W.peers (W.arrived 0)))

-- d: how long it took to arrive, on the peer's count
abbrev pub transit : (W : World) → Ours W → ℕ
transit W ours = W.peers (W.arrived 0) - W.peers ours.at

-- the true age: our count, from where the peer sent the message to where we judge it
abbrev pub true_age : (W : World) (sent taken : W.Moment) → ℕ
true_age W sent taken = W.ours taken - W.ours sent

-- DEMAND-3: how far the age can lie from the true age. SHUT-2: a box to which every message is fresh or of age 0 misses the lower bound
pub record Bounds (the_true_age e j d : ℕ) (age : ℤ) : Type 0 where
  pub least : (pos the_true_age +ℤ pos e -ℤ pos j +ℤ pos d) ≤ℤ age
  pub most : age ≤ℤ (pos the_true_age +ℤ pos e +ℤ pos j +ℤ pos d)

-- DEMAND-3, of one judged message, with E and T_max of the settings: k is what receive answers at the record c, and age what it reports
pub record AgeClaim (settings : Settings) (the_true_age j d : ℕ) (age : ℤ) (c : Connection) (k : ℕ) : Type 0 where
  -- AGE-7: with a 0, 204, 205 or 206
  pub bounds : tells_age c k ≡ true → Bounds the_true_age settings.e j d age
  -- the answer goes by this age
  pub fresh_by_age : delivers_to c k ≡ true → verdict_of age settings.t_max ≡ Fresh
  pub late_by_age : k ≡ 205 → verdict_of age settings.t_max ≡ Late
  pub future_by_age : k ≡ 206 → verdict_of age settings.t_max ≡ Future
  -- the oldest that is handed up
  pub handed_up_lem : delivers_to c k ≡ true → pos the_true_age ≤ℤ (pos settings.t_max -ℤ pos settings.e +ℤ pos j -ℤ pos d)
  -- where 205 can be given
  pub late : k ≡ 205 → settings.t_max < the_true_age + settings.e + j + d
  -- where 206 can be given
  pub future : k ≡ 206 → the_true_age + settings.e + d < j

-- What the caller gets of a message that the record c answers with k and so many delivered bytes: with a 0 or a 204 of an open record all
-- its bytes from 15 on, with any other answer none.
pub record HandsUp (c : Connection) (message : List ℕ) (k delivered : ℕ) : Type 0 where
  pub count : delivered ≡ (when delivers_to c k answer length (data_of message) else 0)
  pub bytes : delivered_of message delivered ≡ (when delivers_to c k answer data_of message else [])

-- DEMAND-3, of the next receive on an open record, at a moment u: m is what is supposed of its message. OPEN-3: the age is the one that
-- receive reports, by which it judges
pub record Claim (W : World) (began : W.Moment) (j role : ℕ) (settings : Settings) (log : List (Ours W)) (t : W.Moment) (c : Connection)
    (u : W.Moment) (message : List ℕ) (room : ℕ) (h : Header) (m : Judged W began log u h) : Type 0 where
  -- E and T_max are the ones configured at begin
  pub same_settings : c.settings ≡ settings
  pub own : OwnSetUp W began role log t c
  -- AGE-6: up to 2^31
  pub age : (first : Ours W) → Written W 0 first log → true_age W m.sent u + settings.e + j + transit W first < 2 ^ 31
      → AgeClaim settings (true_age W m.sent u) j (transit W first) (receive_outcome c (count_of (W.ours u)) message room).age.0
      c (receive_outcome c (count_of (W.ours u)) message room).number
  -- bytes go up with no other answer
  pub hands_up : HandsUp c message
      (receive_outcome c (count_of (W.ours u)) message room).number (receive_outcome c (count_of (W.ours u)) message room).delivered

-- DEMAND-3: the next receive gets our count as its now, at a moment no earlier than the last call; any room, and any bytes that are a
-- message
abbrev pub Demand3 : Type 1
Demand3 =
    (W : World) (began : W.Moment) (j role : ℕ) (settings : Settings) (log : List (Ours W)) (t : W.Moment) (c : Connection)
    → History W began role settings log t c
    → c.phase ≡ opened
    → (u : W.Moment) → W.early t u → InBand W began u j
    → (message : List ℕ) (room : ℕ) (h : Header) (s : Tail) → parsed_of message ≡ Some (whole h s)
    → (m : Judged W began log u h) → Claim W began j role settings log t c u message room h m
