-- `replay_lines::put_heading` meets its contract: the room holds the heading behind its text. Assumes nothing.
use Rattle.text.proofs.Puts.{text_after}
use Rattle.replay_lines.specs.Printed.{heading}
use Rattle.replay_lines.proofs.put_heading.Goals as goal

pub returns-clause-text : goal.returns-clause-text
returns-clause-text g c = text_after (g.O.Holds.held c.args.out.now) (g.O.Holds.held c.put.new.out) heading c.put.ensures.put
