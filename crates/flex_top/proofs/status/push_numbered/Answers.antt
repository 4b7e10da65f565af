use Rattle.std.proofs.Common.{List, ℕ, ◌++◌, ap, ◌∙◌}
use Rattle.std.proofs.lemmas.List.{append_assoc}
use Rattle.flex_top.proofs.status.push_numbered.Goals as goal

pub returns-clause-text : goal.returns-clause-text
returns-clause-text c =
    let line = c.args.line.now in
    let text = c.args.text.now in
    c.push-2.ensures ∙ ap (λ (t : List ℕ). t ++ c.as_bytes.result.now) c.push.ensures ∙ append_assoc line text c.as_bytes.result.now
    ∙ ap (λ (t : List ℕ). line ++ (text ++ t)) (c.as_bytes.ensures.value ∙ c.format.ensures.text)
