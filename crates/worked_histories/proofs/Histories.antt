-- How a history goes on, what is to be computed of the message that its next receive takes, and what demand 3 says of it.
-- Assumes nothing.
use Prim.Native.Nat.{ℕ, ◌+◌, ◌^◌, ◌<◌}
use mathlib.Core.Path.{◌≡◌, refl, sym, ap, ◌∙◌, subst}
use mathlib.Core.Bool.{false, true≢false}
use mathlib.Core.List.{List, []}
use mathlib.Core.Logic.{◌⊎◌, ⊎_elim}
use native.Mathlib.Omega.{arith}
use lib.Dec.{eqb}
use lib.ListN.{length}
use lib.IntN.{ℤ}
use Rattle.message.specs.Table.{offset_answ1, offset_answ2}
use Rattle.message.specs.Read.{message_header_of, parsed_of}
use Rattle.message.specs.declared.Tail.{Tail}
use Rattle.std.proofs.Common.{Some}
use Rattle.message.specs.Layout.{whole}
use Rattle.connection.specs.declared.Settings.{Settings}
use Rattle.connection.specs.declared.Connection.{Connection}
use Rattle.connection.specs.Connection.{opened}
use Rattle.calls.specs.declared.Call.{Call}
use Rattle.calls.specs.Calls.{receive_outcome, send_outcome, tick_outcome}
use Rattle.true_age.specs.Clocks.{World, count_of}
use Rattle.true_age.specs.History.{Ours, with_written, Written, JudgedBytes, History, called}
use Rattle.true_age.specs.Claim.{transit, true_age, AgeClaim}
use Rattle.true_age.proofs.Demand3.{demand_3}
use Rattle.worked_histories.specs.Histories.{room, Place, receive, Common, common_of, Numbers, numbers_of, Judges, Claimed, SaidByDemand3}

-- only OffsetAnsw1 and OffsetAnsw2 report an arrival that is asked for
pub type_1 : {A : Type 0} (k : ℕ) → k < offset_answ1 → (k ≡ offset_answ1) ⊎ (k ≡ offset_answ2) → A
type_1 k h = ⊎_elim (λ e. let z : ⊥ = omega arith in absurd z) (λ e. let z : ⊥ = omega arith in absurd z)

pub type_4_on : {A : Type 0} (k : ℕ) → offset_answ2 < k → (k ≡ offset_answ1) ⊎ (k ≡ offset_answ2) → A
type_4_on k h = ⊎_elim (λ e. let z : ⊥ = omega arith in absurd z) (λ e. let z : ⊥ = omega arith in absurd z)

-- where a history has come to
abbrev pub Reaches : (W : World) → W.Moment → ℕ → Settings → Place W → Type 0
Reaches W began role settings p = History W began role settings p.log p.last p.c

-- a receive, a send and a tick in a history: none of them begins, and only the receive takes a message
module _ {W : World} {began : W.Moment} {role : ℕ} {settings : Settings} {log : List (Ours W)} {t : W.Moment} {c : Connection}
    (history : History W began role settings log t c) (u : W.Moment) (h : W.early t u) where
  pub received : (message : List ℕ) (room : ℕ)
      → (eqb c.phase opened ≡ false → (receive_outcome c (count_of (W.ours u)) message room).number ≡ 0
      → JudgedBytes W began log u (parsed_of message))
      → History W began role settings
      (with_written W u (receive_outcome c (count_of (W.ours u)) message room).reply log)
      u
      (receive_outcome c (count_of (W.ours u)) message room).next
  received message room judged = called history u h Call.Receive message room (λ e. absurd (true≢false (sym e))) judged

  pub sent : (lent : List ℕ) (room : ℕ)
      → History W began role settings
      (with_written W u (send_outcome c (count_of (W.ours u)) (length lent) room).reply log)
      u
      (send_outcome c (count_of (W.ours u)) (length lent) room).next
  sent lent room = called history u h Call.Send lent room (λ e. absurd (true≢false (sym e))) (λ _ _. tt)

  pub ticked : History W began role settings
      (with_written W u (tick_outcome c (count_of (W.ours u))).reply log)
      u
      (tick_outcome c (count_of (W.ours u))).next
  ticked = called history u h Call.Tick [] 0 (λ e. absurd (true≢false (sym e))) (λ _ _. tt)

-- any receive on an open record
pub goes_on_lem : {W : World} {began : W.Moment} {role : ℕ} {settings : Settings} (p : Place W) → Reaches W began role settings p
    → p.c.phase ≡ opened → (u : W.Moment) → W.early p.last u → (message : List ℕ) → Reaches W began role settings (receive W p u message)
goes_on_lem p history is_open u h message =
    received history u h message room (λ f _. absurd (true≢false (sym (ap (λ (x : ℕ). eqb x opened) is_open) ∙ f)))

-- a message of type 6
pub judges : {W : World} {began since : W.Moment} {role : ℕ} {settings : Settings} {p : Place W}
    {sent taken : W.Moment} {message : List ℕ} {k : Common} {n : Numbers}
    → Reaches W began role settings p → p.c.phase ≡ opened
    → W.early p.last taken → W.early since sent → W.early sent taken
    → (tail : Tail) → parsed_of message ≡ Some (whole (message_header_of message) tail) → offset_answ2 < (message_header_of message).kind
    → (message_header_of message).stamp ≡ count_of (W.peers sent)
    → (first : Ours W) → Written W 0 first p.log
    → common_of W settings k.j first ≡ k → numbers_of W k p.c sent taken message ≡ n
    → Judges W began since role settings p sent taken message k n
judges {sent} {message} history is_open onward since-it on_it tail whole type stamped first written common numbers =
    record {
      history = history;
      is_open = is_open;
      onward = onward;
      header = message_header_of message;
      tail = tail;
      whole = whole;
      judged = record { sent = sent; since = since-it; onward = on_it; stamped = stamped; reports = type_4_on (message_header_of message).kind type };
      then_sent = refl;
      first = first;
      written = written;
      common_is = common;
      numbers_are = numbers;
    }

pub said_by_demand3 : SaidByDemand3
said_by_demand3 W began role settings p sent taken message k n m band bound =
    subst (λ (x : Numbers). Claimed settings p.c k x) m.numbers_are
    (subst (λ (x : ℕ). AgeClaim settings (true_age W sent taken) k.j x age p.c answers) same_d
    (subst (λ (x : W.Moment). AgeClaim settings (true_age W x taken) k.j (transit W m.first) age p.c answers) m.then_sent
    ((demand_3 W began k.j role settings p.log p.last p.c m.history m.is_open taken m.onward band message room
    m.header m.tail m.whole m.judged).age m.first m.written bound_then)))
  where
    age : ℤ
    age = (receive_outcome p.c (count_of (W.ours taken)) message room).age.0

    answers : ℕ
    answers = (receive_outcome p.c (count_of (W.ours taken)) message room).number

    same_d : transit W m.first ≡ k.d
    same_d = ap (λ (x : Common). x.d) m.common_is

    same_e : settings.e ≡ k.e
    same_e = ap (λ (x : Common). x.e) m.common_is

    same_true_age : true_age W m.judged.sent taken ≡ n.the_true_age
    same_true_age = ap (λ (x : W.Moment). true_age W x taken) m.then_sent ∙ ap (λ (x : Numbers). x.the_true_age) m.numbers_are

    bound_then : true_age W m.judged.sent taken + settings.e + k.j + transit W m.first < 2 ^ 31
    bound_then = rw (same_true_age, same_e, same_d) bound
