-- The last digits of all.
use Rattle.std.proofs.Common.{◌-◌, ◌++◌, ◌≤◌, List, ℕ, length, take, drop, ap, ◌∙◌, arith}
use Rattle.std.proofs.lemmas.List.{take_all}
use Rattle.tracer.specs.EventText.{hex_digits}
use Rattle.tracer.proofs.HexDigits.{hex_digits-last, length-hex_digits}
use Rattle.tracer.proofs.put.put_digits.Goals as goal

pub returns-clause-text : goal.returns-clause-text
returns-clause-text g c =
    let count = c.args.count in
    let from = 16 - count in
    let was = g.P.Put.text c.args.into.now in
    let short : length (hex_digits count c.args.n) ≤ 16 - from = omega (arith, length-hex_digits count c.args.n, c.requires.count) in
    c.put.ensures.text
    ∙ ap (λ (ds : List ℕ). was ++ take (16 - from) (drop from ds)) c.digits_of.ensures
    ∙ ap (λ (ds : List ℕ). was ++ take (16 - from) ds) (hex_digits-last count c.args.n c.requires.count)
    ∙ ap (λ (ds : List ℕ). was ++ ds) (take_all (16 - from) (hex_digits count c.args.n) short)
