use Rattle.std.proofs.Common.{◌++◌, List, ℕ, ap, sym, ◌∙◌}
use Rattle.tracer.proofs.Digits.{two_digits}
use Rattle.tracer.proofs.put.put_two_digits.Goals as goal

pub returns-clause-text : goal.returns-clause-text
returns-clause-text g c =
    c.put.ensures.text ∙ ap (λ (ds : List ℕ). g.P.Put.text c.args.into.now ++ ds) (sym (two_digits c.args.n c.requires.digits.0 c.requires.digits.1))
