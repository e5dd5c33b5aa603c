-- `text::put_number` meets its contract: a number of one digit is put with its space. Assumes nothing.
use Rattle.std.proofs.Common.{ℕ, List, [], ◌∷◌, ◌++◌, ap, sym, ◌∙◌, arith}
use Rattle.text.specs.Ascii.{ascii}
use Rattle.text.specs.Text.{put}
use Rattle.text.proofs.Decimal.{one_digit}
use Rattle.text.proofs.put_number.Goals as goal

pub returns-then-n-lt10-clause-put : goal.returns-then-n-lt10-clause-put
returns-then-n-lt10-clause-put g c =
    let held = g.O.Holds.held c.args.out.now in
    c.put.ensures.put ∙ ap (λ (d : ℕ). put (ascii " " ++ d ∷ []) held) c.digit.ensures
    ∙ ap (λ (l : List ℕ). put (ascii " " ++ l) held) (sym (one_digit 20 c.args.n (λ e. omega (arith, e)) c.if-n-lt10.true))
