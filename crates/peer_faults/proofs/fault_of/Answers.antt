-- `peer_faults::fault_of` meets its contract: each return is a row. Assumes nothing.
use Rattle.std.proofs.Common.{rules, ◌∙◌}
use Rattle.peer_faults.proofs.Rows.{fault_rows}
use Rattle.peer_faults.proofs.fault_of.Goals as goal

pub returns-then-not_ahead : goal.returns-then-not_ahead
returns-then-not_ahead c = let a = c.args in search rules ∙ fault_rows a.c a.now a.message.header a.message.tail

pub returns-then-beyond_n : goal.returns-then-beyond_n
returns-then-beyond_n c = let a = c.args in search rules ∙ fault_rows a.c a.now a.message.header a.message.tail

pub returns-then-wrong_echo : goal.returns-then-wrong_echo
returns-then-wrong_echo c = let a = c.args in search rules ∙ fault_rows a.c a.now a.message.header a.message.tail

pub returns-then-check_failed : goal.returns-then-check_failed
returns-then-check_failed c = let a = c.args in search rules ∙ fault_rows a.c a.now a.message.header a.message.tail

pub returns-then-gap : goal.returns-then-gap
returns-then-gap c = let a = c.args in search rules ∙ fault_rows a.c a.now a.message.header a.message.tail

pub returns-else-by_age-eq0 : goal.returns-else-by_age-eq0
returns-else-by_age-eq0 c = let a = c.args in search rules ∙ fault_rows a.c a.now a.message.header a.message.tail
