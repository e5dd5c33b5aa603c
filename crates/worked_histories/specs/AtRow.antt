-- A run of calls over a row that meets the premises of demand 3, with calls that are refused between.
use Rattle.std.specs.Prelude.{ℕ, ◌≡◌, List, [], ◌∷◌, replicate, take, drop, pos}
use Rattle.connection.specs.Connection.{opened}
use Rattle.connection_row.specs.Row.{row_size, stands_for}
use Rattle.calls.specs.declared.Call.{Call}
use Rattle.calls.specs.Calls.{initiator}
use Rattle.row_calls.specs.Answer.{answer_size}
use Rattle.row_calls.specs.RowCalls.{LeftIn}
use Rattle.true_age.specs.Clocks.{World}
use Rattle.true_age.specs.History.{Ours}
use Rattle.age_at_row.specs.Run.{what_it_leaves, Run}
use Rattle.age_at_row.specs.Claim.{place_in, length_in, age_in}
use Rattle.worked_histories.specs.Worlds.{DoesNotRunBack, StaysInBand, responders}
use Rattle.worked_histories.specs.SetUp.{answ1, est, at_initiator}
use Rattle.worked_histories.specs.Initiator.{settings200}
use Rattle.worked_histories.specs.AtTable.{out, as_initiator, as_responder, message}

-- a row that is all zero, as the host makes it
abbrev pub row0 : List ℕ
row0 = replicate row_size 0

-- an answer row, and one with a byte too many:
abbrev pub answer_row : List ℕ
answer_row = replicate answer_size 0

abbrev pub longer : List ℕ
longer = 0 ∷ answer_row

module _ (runs : DoesNotRunBack responders) where
  -- the initiator's world, in which the clocks do not drift
  abbrev pub world : World
  world = at_initiator responders runs

  -- what each call leaves, on the row that the one before left:
  abbrev pub begins : LeftIn
  begins = what_it_leaves world row0 1000 as_initiator [] out answer_row

  abbrev pub takes_answ1 : LeftIn
  takes_answ1 = what_it_leaves world begins.said.row 1080 Call.Receive answ1 out answer_row

  abbrev pub refused_with109 : LeftIn
  refused_with109 = what_it_leaves world takes_answ1.said.row 1090 Call.Receive est out longer

  abbrev pub takes_est : LeftIn
  takes_est = what_it_leaves world refused_with109.said.row 1110 Call.Receive est out answer_row

  abbrev pub begins_again : LeftIn
  begins_again = what_it_leaves world takes_est.said.row 1115 as_responder [] out answer_row

  -- the message is taken at 1172: what C gets
  abbrev pub taken : LeftIn
  taken = what_it_leaves world begins_again.said.row 1172 Call.Receive message out answer_row

  -- the numbers that the five calls answer
  abbrev pub numbers : List ℕ
  numbers =
      begins.said.number
      ∷ takes_answ1.said.number
      ∷ refused_with109.said.number
      ∷ takes_est.said.number
      ∷ begins_again.said.number
      ∷ []

-- ROW-12, DEMAND-3: the premises are met, and what C gets of the message
pub record RowMeets : Type 0 where
  pub runs : DoesNotRunBack responders
  pub band : StaysInBand (world runs) 1000 0
  pub numbers_are : numbers runs ≡ 0 ∷ 0 ∷ 109 ∷ 0 ∷ 103 ∷ []
  pub log : List (Ours (world runs))
  pub run : Run (world runs) 1000 initiator settings200 1115 (begins_again runs).said.row log 1115
  pub is_open : (stands_for (begins_again runs).said.row).phase ≡ opened
  pub number : (taken runs).said.number ≡ 0
  pub age : age_in (taken runs).said.answer ≡ pos 50
  pub bytes : take (length_in (taken runs).said.answer) (drop (place_in (taken runs).said.answer) message) ≡ 0x55 ∷ []
