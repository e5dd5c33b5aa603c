-- A run of calls on a table of two slots that meets the premises of demand 3 on slot 1.
-- Calls on the other slot, on a bad one, and refusals lie between.
use Rattle.std.specs.Prelude.{ℕ, ◌≡◌, false, List, [], ◌∷◌, pos, replicate}
use Rattle.std.proofs.Common.{lit≤}
use Rattle.message.specs.Table.{est_size}
use Rattle.connection.specs.declared.Connection.{Connection}
use Rattle.connection.specs.Connection.{opened, all_zero}
use Rattle.calls.specs.declared.Call.{Call}
use Rattle.calls.specs.declared.Answer.{Answer}
use Rattle.calls.specs.Calls.{initiator, responder, given, says, delivered_of}
use Rattle.table.specs.Left.{LeftAt}
use Rattle.table.specs.Table.{record_at}
use Rattle.true_age.specs.Clocks.{World}
use Rattle.true_age.specs.History.{Ours}
use Rattle.age_at_table.specs.Run.{what_it_leaves, Run, none, called, Since}
use Rattle.worked_histories.specs.Worlds.{DoesNotRunBack, StaysInBand, responders}
use Rattle.worked_histories.specs.SetUp.{answ1, est, to_initiator, at_initiator}
use Rattle.worked_histories.specs.Initiator.{settings200}

-- an out buffer
abbrev pub out : List ℕ
out = replicate est_size 0

-- two released slots
abbrev pub table0 : List Connection
table0 = all_zero ∷ all_zero ∷ []

-- the begins, as an initiator and as a responder:
abbrev pub as_initiator : Call
as_initiator = Call.Begin (given initiator settings200 7 50)

abbrev pub as_responder : Call
as_responder = Call.Begin (given responder settings200 9 50)

-- stamp 302, sent at 1152
abbrev pub message : List ℕ
message = to_initiator 22 0x01 0x2E

module _ (runs : DoesNotRunBack responders) where
  -- the initiator's world, in which the clocks do not drift
  abbrev pub world : World
  world = at_initiator responders runs

  -- what each call leaves, on the table that the one before left:
  abbrev pub begins_slot1 : LeftAt
  begins_slot1 = what_it_leaves world table0 1 1000 as_initiator [] out

  abbrev pub ticks_slot0 : LeftAt
  ticks_slot0 = what_it_leaves world begins_slot1.table 0 1010 Call.Tick [] []

  abbrev pub takes_answ1 : LeftAt
  takes_answ1 = what_it_leaves world ticks_slot0.table 1 1080 Call.Receive answ1 out

  abbrev pub takes_on_slot7 : LeftAt
  takes_on_slot7 = what_it_leaves world takes_answ1.table 7 1090 Call.Receive est out

  abbrev pub takes_est : LeftAt
  takes_est = what_it_leaves world takes_on_slot7.table 1 1110 Call.Receive est out

  abbrev pub begins_again : LeftAt
  begins_again = what_it_leaves world takes_est.table 1 1115 as_responder [] out

  abbrev pub begins_slot0 : LeftAt
  begins_slot0 = what_it_leaves world begins_again.table 0 1120 as_responder [] out

  -- the message is taken at 1172: the answer
  abbrev pub taken : Answer
  taken = (what_it_leaves world begins_slot0.table 1 1172 Call.Receive message out).answer

  -- the seven calls as a run:
  abbrev pub run1 : Run world 1000 begins_slot1.table
  run1 = called (none 900 table0) 1000 (lit≤ tt) 1 as_initiator [] out

  abbrev pub run4 : Run world 1090 takes_on_slot7.table
  run4 =
      called (called (called run1 1010 (lit≤ tt) 0 Call.Tick [] []) 1080 (lit≤ tt) 1 Call.Receive answ1 out)
      1090 (lit≤ tt) 7 Call.Receive est out

  abbrev pub run7 : Run world 1120 begins_slot0.table
  run7 =
      called (called (called run4 1110 (lit≤ tt) 1 Call.Receive est out) 1115 (lit≤ tt) 1 as_responder [] out)
      1120 (lit≤ tt) 0 as_responder [] out

  -- the numbers that they answer
  abbrev pub numbers : List ℕ
  numbers =
      begins_slot1.answer.number
      ∷ ticks_slot0.answer.number
      ∷ takes_answ1.answer.number
      ∷ takes_on_slot7.answer.number
      ∷ takes_est.answer.number
      ∷ begins_again.answer.number
      ∷ begins_slot0.answer.number
      ∷ []

-- DEMAND-3: the premises are met on slot 1, and what the host gets of the message
pub record TableMeets : Type 0 where
  pub runs : DoesNotRunBack responders
  pub band : StaysInBand (world runs) 1000 0
  pub numbers_are : numbers runs ≡ 0 ∷ 102 ∷ 0 ∷ 101 ∷ 0 ∷ 103 ∷ 0 ∷ []
  pub log : List (Ours (world runs))
  -- the slot's last call is the begin that was refused
  pub since : Since (world runs) 1000 1 initiator settings200 1120 (begins_slot0 runs).table (run7 runs) log 1115
  pub is_open : (record_at (begins_slot0 runs).table 1).phase ≡ opened
  pub answers : taken runs ≡ says 0 false 0 1 (record { 0 = pos 50 })
  pub bytes : delivered_of message (taken runs).delivered ≡ 0x55 ∷ []
