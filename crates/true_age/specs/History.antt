-- The calls on one record since its begin, in a world of two clocks, and what is supposed of the peer's messages that they take.
use Rattle.std.specs.Prelude.{ℕ, ◌≡◌, true, false, List, [], ◌∷◌, ◌⊎◌, eqb, length, Option, Some, None}
use Rattle.message.specs.Table.{offset_answ1, offset_answ2}
use Rattle.message.specs.declared.Header.{Header}
use Rattle.message.specs.declared.Message.{Message}
use Rattle.connection.specs.declared.Settings.{Settings}
use Rattle.connection.specs.declared.Connection.{Connection}
use Rattle.connection.specs.Connection.{opened}
use Rattle.what_follows.specs.declared.Outcome.{Outcome}
use Rattle.calls.specs.declared.Call.{Call}
use Rattle.calls.specs.Calls.{initiator, rule_of, outcome_of, given}
use Rattle.true_age.specs.Clocks.{World, count_of}

module _ (W : World) where
  -- a message that we wrote, and when
  pub record Ours : Type 0 where
    pub at : W.Moment
    pub header : Header

  -- what we wrote on this connection, the newest first: a call that sends adds one
  abbrev pub with_written : W.Moment → Option Message → List Ours → List Ours
  with_written u None log = log
  with_written u (Some m) log = record { at = u; header = m.header } ∷ log

  -- x is the n-th that we wrote, counted from 0
  pub data Written : ℕ → Ours → List Ours → Type 0 where
    newest : {x : Ours} {log : List Ours} → Written (length log) x (x ∷ log)
    earlier : {n : ℕ} {x y : Ours} {log : List Ours} → Written n x log → Written n x (y ∷ log)

  -- a true report: the arrival is that of a message that we wrote on this connection, whose stamp is echoed
  pub record Reports (log : List Ours) (h : Header) : Type 0 where
    pub which : ℕ
    pub ours : Ours
    pub of_ours : Written which ours log
    -- it arrived no earlier than we wrote it
    pub onward : W.early ours.at (W.arrived which)
    pub echoes : h.last_peer_stamp ≡ ours.header.stamp
    pub reported : h.arrival ≡ count_of (W.peers (W.arrived which))

  -- what a call comes to at a moment: our count is its now
  abbrev pub outcome_at : W.Moment → Call → Connection → List ℕ → ℕ → Outcome
  outcome_at u call c lent room = outcome_of call c (count_of (W.ours u)) lent room

  -- and begin, of what it is given
  abbrev pub begun_at : W.Moment → ℕ → Settings → ℕ → ℕ → Connection → List ℕ → ℕ → Outcome
  begun_at t role settings first period = outcome_at t (Call.Begin (given role settings first period))

  module _ (began : W.Moment) where
    -- a message of the peer's, taken at a moment
    pub record Judged (log : List Ours) (taken : W.Moment) (h : Header) : Type 0 where
      pub sent : W.Moment
      -- on this connection, since its set-up began
      pub since : W.early began sent
      -- it is taken no earlier than it was sent; the tick may be the same
      pub onward : W.early sent taken
      -- its stamp is true
      pub stamped : h.stamp ≡ count_of (W.peers sent)
      -- and its report, which is asked of OffsetAnsw1 and OffsetAnsw2 alone
      pub reports : (h.kind ≡ offset_answ1) ⊎ (h.kind ≡ offset_answ2) → Reports log h

    -- the same of bytes; of bytes that are no message nothing is supposed
    abbrev pub JudgedBytes : List Ours → W.Moment → Option Message → Type 0
    JudgedBytes log taken None = Unit {0}
    JudgedBytes log taken (Some m) = Judged log taken m.header

    -- DEMAND-3: from begin on each call gets our count as its now and the record that the one before left. Any calls in any order, any
    -- bytes and rooms, refusals included. What we wrote, the moment of the last call, and the record that it left.
    pub data History (role : ℕ) (settings : Settings) : List Ours → W.Moment → Connection → Type 0 where
      -- an initiator's set-up has begun when begin writes OffsetStart; a responder's may begin later, with the peer's
      begun : (c : Connection) (first period : ℕ) (t : W.Moment) (lent : List ℕ) (room : ℕ)
          → (role ≡ initiator → W.early began t)
          → (begun_at t role settings first period c lent room).number ≡ 0
          → History role settings (with_written t (begun_at t role settings first period c lent room).reply []) t
          (begun_at t role settings first period c lent room).next
      -- Another begin is refused: one that answers 0 begins another history. The peer is truthful in the message that set-up takes, by a
      -- call that answers 0; of other bytes nothing is supposed here.
      called : {log : List Ours} {t : W.Moment} {c : Connection} → History role settings log t c
          → (u : W.Moment) → W.early t u → (call : Call) (lent : List ℕ) (room : ℕ)
          → ((rule_of call).begins ≡ true → eqb (outcome_at u call c lent room).number 0 ≡ false)
          → (eqb c.phase opened ≡ false → (outcome_at u call c lent room).number ≡ 0 → JudgedBytes log u ((rule_of call).message lent))
          → History role settings (with_written u (outcome_at u call c lent room).reply log) u (outcome_at u call c lent room).next
