-- A hart makes no more ends than its budget.
use Rattle.context.proofs.Keeping.{left_some}
use Rattle.context.proofs.context.HartContext.round_left.Goals as goal

pub returns-clause-some : goal.returns-clause-some
returns-clause-some c = left_some _ c.self.invariant
