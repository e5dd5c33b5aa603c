-- `text::put_digits` meets its contract: so many bytes have their digits put, and at the end of the last digits those of the bytes that are left.
-- Assumes nothing.
use Rattle.std.proofs.Common.{ℕ, ◌*◌, List, ap, ◌∙◌, ◌++◌, length, take, arith}
use Rattle.text.specs.Text.{put}
use Rattle.text.specs.Line.{digits_of}
use Rattle.text.proofs.Line.{digits_cut, digits_of_front}
use Rattle.text.proofs.Puts.{put_put}
use Rattle.text.proofs.put_digits.Goals as goal

pub loop-part-preserved : goal.loop-part-preserved
loop-part-preserved g c =
    let l = c.loop-part in
    let held = g.O.Holds.held l.out in
    let part = c.in-Some.part.now in
    let behind = c.in-Some.behind.now in
    let cut = c.in-Some.ensures.cases in
    record {
      room = omega (arith, l.invariant.room, c.put.ensures.left, ap (λ (l : List ℕ). length l) cut.1);
      text = omega (arith, l.invariant.text, c.put.ensures.len, ap (λ (l : List ℕ). length l) cut.1);
      put =
          ap (put (digits_of behind)) c.put.ensures.put
          ∙ put_put c.digits_of.result (digits_of behind) held
          ∙ ap (λ (digits : List ℕ). put (digits ++ digits_of behind) held) c.digits_of.ensures
          ∙ ap (λ (digits : List ℕ). put digits held) (digits_cut 32 l.rest.now part behind cut.0 cut.1)
          ∙ l.invariant.put;
      same = c.put.ensures.same ∙ l.invariant.same;
    }

pub returns-clause-put : goal.returns-clause-put
returns-clause-put g c =
    let l = c.loop-part in
    let held = g.O.Holds.held l.out in
    c.put-2.ensures.put
    ∙ ap (λ (digits : List ℕ). put (take (2 * length l.rest.now) digits) held) c.digits_of-2.ensures
    ∙ ap (λ (digits : List ℕ). put digits held) (digits_of_front l.rest.now c.copy_from_slice.new.self _ c.copy_from_slice.ensures.after)
    ∙ l.invariant.put
