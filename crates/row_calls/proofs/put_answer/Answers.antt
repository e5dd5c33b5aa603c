-- `row_calls::put_answer` meets its contract: the five fields, one after the other, are the answer row. Assumes nothing.
use Rattle.row_calls.proofs.Leaves.{answer_row_lem}
use Rattle.row_calls.proofs.put_answer.Goals as goal

pub returns : goal.returns
returns c =
    let a = c.args in
    answer_row_lem a.said a.row.now c.write.ensures c.write-2.ensures c.write-3.ensures c.place_of.ensures c.write-4.ensures c.write-5.ensures c.bits.ensures
