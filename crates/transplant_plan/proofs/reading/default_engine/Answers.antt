use Rattle.std.proofs.Common.{ap, ◌∙◌}
use Rattle.transplant_plan.specs.Assignment.{Assignment}
use Rattle.transplant_plan.proofs.reading.default_engine.Goals as goal

pub returns-clause-value : goal.returns-clause-value
returns-clause-value c = c.engine_for.ensures.engine 0 ∙ ap (λ (a : Assignment). a.engines 0 c.args.class) c.default_plan.ensures
