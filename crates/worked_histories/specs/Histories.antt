-- A history, call by call, and what is shown of one message that its next receive takes.
use Rattle.std.specs.Prelude.{ℕ, ◌+◌, ◌^◌, ◌<◌, ◌≡◌, List, [], ℤ, pos, ◌+ℤ◌, ◌-ℤ◌, Some}
use Rattle.message.specs.Read.{parsed_of}
use Rattle.message.specs.declared.Header.{Header}
use Rattle.message.specs.declared.Tail.{Tail}
use Rattle.message.specs.Layout.{whole}
use Rattle.connection.specs.declared.Settings.{Settings}
use Rattle.connection.specs.declared.Connection.{Connection}
use Rattle.connection.specs.Connection.{opened, all_zero}
use Rattle.what_follows.specs.declared.Outcome.{Outcome}
use Rattle.calls.specs.declared.Call.{Call}
use Rattle.calls.specs.Calls.{given, outcome_of}
use Rattle.true_age.specs.Clocks.{World, InBand, count_of}
use Rattle.true_age.specs.History.{Ours, with_written, Written, Judged, History}
use Rattle.true_age.specs.Claim.{transit, true_age, AgeClaim}

-- the out buffer's size, as in TRACE-6
abbrev pub room : ℕ
room = 1000

module _ (W : World) where
  -- where a history has come to: what we wrote, the newest first, the moment of the last call, and the record that it left
  pub record Place : Type 0 where
    pub log : List (Ours W)
    pub last : W.Moment
    pub c : Connection

  -- after a call that came to o at a moment
  abbrev pub place_after : List (Ours W) → W.Moment → Outcome → Place
  place_after log u o = record { log = with_written W u o.reply log; last = u; c = o.next }

  -- begin, on a released slot; each call gets our count as its now
  abbrev pub begin : ℕ → Settings → ℕ → ℕ → W.Moment → Place
  begin role settings first period t =
      place_after [] t (outcome_of (Call.Begin (given role settings first period)) all_zero (count_of (W.ours t)) [] room)

  -- any other call, on the record that the call before left; it is lent these bytes
  abbrev pub calling : Call → Place → W.Moment → List ℕ → Place
  calling call p u lent = place_after p.log u (outcome_of call p.c (count_of (W.ours u)) lent room)

  -- receive, send and tick, which is lent nothing:
  abbrev pub receive : Place → W.Moment → List ℕ → Place
  receive p u message = calling Call.Receive p u message

  abbrev pub send : Place → W.Moment → List ℕ → Place
  send p u lent = calling Call.Send p u lent

  abbrev pub tick : Place → W.Moment → Place
  tick p u = calling Call.Tick p u []

-- what the messages of one history have in common: E, T_max, J and d, and T_max - E + J - d, which none handed up is truly older than
pub record Common : Type 0 where
  pub e : ℕ
  pub t_max_lem : ℕ
  pub j : ℕ
  pub d : ℕ
  pub oldest : ℤ

-- first is the first message that we wrote
abbrev pub common_of : (W : World) → Settings → ℕ → Ours W → Common
common_of W settings j first =
    record {
      e = settings.e;
      t_max_lem = settings.t_max;
      j = j;
      d = transit W first;
      oldest = pos settings.t_max -ℤ pos settings.e +ℤ pos j -ℤ pos (transit W first);
    }

-- one message's true age, the age that receive reports, its answer, and true age + E - J + d and true age + E + J + d
pub record Numbers : Type 0 where
  pub the_true_age : ℕ
  pub age : ℤ
  pub answers : ℕ
  pub least : ℤ
  pub most : ℤ

infix 1 truly◌tells◌answers◌between◌and◌
-- the same, in words
abbrev pub truly◌tells◌answers◌between◌and◌ : ℕ → ℤ → ℕ → ℤ → ℤ → Numbers
truly the_true_age tells age answers k between least and most =
    record { the_true_age = the_true_age; age = age; answers = k; least = least; most = most }

-- sent at one moment, taken at another by a receive on the record c
abbrev pub numbers_of : (W : World) → Common → Connection → (sent taken : W.Moment) → List ℕ → Numbers
numbers_of W k c sent taken message =
    record {
      the_true_age = true_age W sent taken;
      age = (outcome_of Call.Receive c (count_of (W.ours taken)) message room).age.0;
      answers = (outcome_of Call.Receive c (count_of (W.ours taken)) message room).number;
      least = pos (true_age W sent taken) +ℤ pos k.e -ℤ pos k.j +ℤ pos k.d;
      most = pos (true_age W sent taken) +ℤ pos k.e +ℤ pos k.j +ℤ pos k.d;
    }

-- What demand 3 supposes of the message that the next receive takes, the band and the bound 2^31 aside, and the numbers that it speaks of.
-- It supposes that the message was sent since the set-up began: `since` is `began`, but where that premise is missed.
pub record Judges (W : World) (began since : W.Moment) (role : ℕ) (settings : Settings) (p : Place W)
    (sent taken : W.Moment) (message : List ℕ) (k : Common) (n : Numbers) : Type 0 where
  pub history : History W began role settings p.log p.last p.c
  pub is_open : p.c.phase ≡ opened
  pub onward : W.early p.last taken
  pub header : Header
  pub tail : Tail
  pub whole : parsed_of message ≡ Some (whole header tail)
  pub judged : Judged W since p.log taken header
  pub then_sent : judged.sent ≡ sent
  pub first : Ours W
  pub written : Written W 0 first p.log
  pub common_is : common_of W settings k.j first ≡ k
  pub numbers_are : numbers_of W k p.c sent taken message ≡ n

-- what demand 3 claims of such a message
abbrev pub Claimed : Settings → Connection → Common → Numbers → Type 0
Claimed settings c k n = AgeClaim settings n.the_true_age k.j k.d n.age c n.answers

-- and nothing else is supposed of it but the band and the bound
abbrev pub SaidByDemand3 : Type 1
SaidByDemand3 =
    (W : World) (began : W.Moment) (role : ℕ) (settings : Settings) (p : Place W)
    (sent taken : W.Moment) (message : List ℕ) (k : Common) (n : Numbers)
    → Judges W began began role settings p sent taken message k n
    → InBand W began taken k.j → n.the_true_age + k.e + k.j + k.d < 2 ^ 31
    → Claimed settings p.c k n
