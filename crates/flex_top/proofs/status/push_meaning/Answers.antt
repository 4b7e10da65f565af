-- A status with a number says its text and then the number.
use Rattle.std.proofs.Common.{ℕ, ◌++◌, ap, sym, ◌∙◌}
use Rattle.std.specs.Prelude.{codes, decimal}
use Rattle.flex_top.specs.Status.{meaning}
use Rattle.flex_top.specs.declared.status.Status.{Status}
use Rattle.flex_top.proofs.status.push_meaning.Goals as goal

pub returns-in-ImageRefused-clause-text : goal.returns-in-ImageRefused-clause-text
returns-in-ImageRefused-clause-text c =
    c.push_numbered.ensures.text
    ∙ ap (λ (n : ℕ). c.args.line.now ++ (codes "image refused " ++ decimal n)) (c.into.ensures ∙ c.number.ensures)
    ∙ ap (λ (s : Status). c.args.line.now ++ meaning s) (sym c.in-ImageRefused.is)

pub returns-in-PlanRefused-clause-text : goal.returns-in-PlanRefused-clause-text
returns-in-PlanRefused-clause-text c =
    c.push_numbered-in-PlanRefused.ensures.text
    ∙ ap (λ (n : ℕ). c.args.line.now ++ (codes "plan refused " ++ decimal n)) (c.into-in-PlanRefused.ensures ∙ c.number-in-PlanRefused.ensures)
    ∙ ap (λ (s : Status). c.args.line.now ++ meaning s) (sym c.in-PlanRefused.is)

pub returns-in-InputTooLong-clause-text : goal.returns-in-InputTooLong-clause-text
returns-in-InputTooLong-clause-text c =
    c.push_numbered-in-InputTooLong.ensures.text
    ∙ ap (λ (s : Status). c.args.line.now ++ meaning s) (sym c.in-InputTooLong.is)
