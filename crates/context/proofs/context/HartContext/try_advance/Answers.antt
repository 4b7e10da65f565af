-- What another engine does, isn't made here.
use Rattle.context.specs.Runs.{WantsElsewhere}
use Rattle.context.proofs.context.HartContext.try_advance.Goals as goal

pub returns-in-Elsewhere-clause-advanced : goal.returns-in-Elsewhere-clause-advanced
returns-in-Elsewhere-clause-advanced g c = (WantsElsewhere _ c.in-Elsewhere.ensures.went.0, c.in-Elsewhere.ensures.went.1)
