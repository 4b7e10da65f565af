use Rattle.std.proofs.Common.{◌++◌, List, ℕ, ap, sym, ◌∙◌}
use Rattle.std.proofs.lemmas.Fmt.{decimal_digit}
use Rattle.tracer.proofs.put.put_digit.Goals as goal

pub returns-clause-text : goal.returns-clause-text
returns-clause-text g c =
    c.put.ensures.text ∙ ap (λ (ds : List ℕ). g.P.Put.text c.args.into.now ++ ds) (sym (decimal_digit c.args.n c.requires.digit))
