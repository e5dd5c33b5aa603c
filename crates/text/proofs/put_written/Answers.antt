-- `text::put_written` meets its contract: where another byte changed, the word for that comes behind the bytes. Assumes nothing.
use Rattle.std.proofs.Common.{ℕ, ◌≡◌, List, ◌++◌, take, drop, ap, sym, ◌∙◌}
use Rattle.std.proofs.lemmas.List.{take_min, drop_min}
use Rattle.text.specs.Ascii.{ascii}
use Rattle.text.specs.Text.{put}
use Rattle.text.specs.Line.{bytes_word, all_before}
use Rattle.text.proofs.Line.{written_words_lem}
use Rattle.text.proofs.Puts.{put_put}
use Rattle.text.proofs.put_written.Goals as goal

pub returns-then-not-all_before-clause-put : goal.returns-then-not-all_before-clause-put
returns-then-not-all_before-clause-put g c =
    let held = g.O.Holds.held c.args.out.now in
    let lent = c.args.lent.now in
    let written = c.args.written in
    let front : c.split_at.result.0.now ≡ take written lent =
    c.split_at.ensures.front ∙ ap (λ (n : ℕ). take n lent) c.min.ensures ∙ take_min written lent in
    let rest : c.split_at.result.1.now ≡ drop written lent =
    c.split_at.ensures.back ∙ ap (λ (n : ℕ). drop n lent) c.min.ensures ∙ drop_min written lent in
    let stayed = sym c.if-not-all_before.true ∙ c.all_before.ensures ∙ ap all_before rest in
    let first = bytes_word c.split_at.result.0.now in
    c.put.ensures.put ∙ ap (put (ascii " changed")) c.put_bytes.ensures.put ∙ put_put first (ascii " changed") held
    ∙ ap (λ (words : List ℕ). put words held) (written_words_lem lent written _ _ front stayed)
