-- `packet_writing::refusal_of` meets its contract: each return is a row of the rule.
-- Assumes nothing.
use Rattle.rules.proofs.Tests.{tests}
use Rattle.packet_writing.specs.Writing.{write_answer}
use Rattle.packet_writing.proofs.refusal_of.Goals as goal

pub returns-then-not_class_d : goal.returns-then-not_class_d
unfolding write_answer
returns-then-not_class_d c = search (tests, c.if-not_class_d.true, ← c.not_class_d.ensures)

pub returns-then-data-gt-MOST_USER_DATA : goal.returns-then-data-gt-MOST_USER_DATA
unfolding write_answer
returns-then-data-gt-MOST_USER_DATA c = search (tests, c.if-not_class_d.false, ← c.not_class_d.ensures)

pub returns-then-room-data : goal.returns-then-room-data
unfolding write_answer
returns-then-room-data c = search (tests, c.if-not_class_d.false, ← c.not_class_d.ensures)

pub returns-else-room-data : goal.returns-else-room-data
unfolding write_answer
returns-else-room-data c = search (tests, c.if-not_class_d.false, ← c.not_class_d.ensures)
