-- Both counts are 0, and stay so.
use Rattle.std.proofs.Common.{refl, arith}
use Rattle.flex_top.specs.Answer.{IsOutcome}
use Rattle.flex_top.proofs.Told.{completes_told}
use Rattle.flex_top.proofs.tests.run_steadily.Goals as goal

pub returns : goal.returns
returns c = λ r reads expects. completes_told (IsOutcome r) r _ _ _ (c.flex_top.ensures.does r reads) expects (refl, omega arith) (refl, omega arith)
