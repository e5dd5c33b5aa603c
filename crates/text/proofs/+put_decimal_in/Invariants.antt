use Rattle.text.proofs.+put_decimal_in.Given as goal

-- proposed from what the function passes where it calls itself
abbrev pub decreases-put_decimal_in : goal.decreases-put_decimal_in
decreases-put_decimal_in g l = l.n
