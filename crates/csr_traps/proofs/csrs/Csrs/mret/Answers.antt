use Rattle.std.proofs.Common.{rules}
use Rattle.flex_base.specs.Traps.{mret}
use Rattle.csr_traps.proofs.Fitting.{as_fit, as_address, mret_fit, mret_address}
use Rattle.csr_traps.proofs.csrs.Csrs.mret.Goals as goal

pub returns-clause-aligned : goal.returns-clause-aligned
unfolding mret
returns-clause-aligned c harts fit = as_address (mret c.args.self.now).pc _ (mret_address harts c.args.self.now fit) (search rules)

pub returns-clause-fit : goal.returns-clause-fit
unfolding mret
returns-clause-fit c harts fit = as_fit harts (mret c.args.self.now).stores _ (mret_fit harts c.args.self.now fit) (search rules)
