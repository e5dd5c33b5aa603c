-- `recorder_file::put_place` meets its contract: the record, then the offset. Assumes nothing.
use Rattle.std.proofs.Common.{◌++◌}
use Rattle.text.specs.Ascii.{ascii}
use Rattle.text.specs.Line.{number_word}
use Rattle.text.proofs.Puts.{held_and_then}
use Rattle.recorder_file.proofs.put_place.Goals as goal

pub returns-clause-put : goal.returns-clause-put
returns-clause-put g c =
    let out = g.O.Holds.held c.args.out.now in
    let nth = ascii "record" ++ number_word c.args.nth in
    held_and_then out (nth ++ ascii ", byte offset") (number_word c.args.offset)
    (held_and_then out nth (ascii ", byte offset") (held_and_then out (ascii "record") (number_word c.args.nth) c.put.ensures.put c.put_number.ensures.put) c.put-2.ensures.put)
    c.put_number-2.ensures.put
