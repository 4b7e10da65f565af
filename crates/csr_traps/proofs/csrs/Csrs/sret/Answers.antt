use Rattle.std.proofs.Common.{rules}
use Rattle.flex_base.specs.Traps.{sret}
use Rattle.csr_traps.proofs.Fitting.{as_fit, as_address, sret_fit, sret_address}
use Rattle.csr_traps.proofs.csrs.Csrs.sret.Goals as goal

pub returns-clause-aligned : goal.returns-clause-aligned
unfolding sret
returns-clause-aligned c harts fit = as_address (sret c.args.self.now).pc _ (sret_address harts c.args.self.now fit) (search rules)

pub returns-clause-fit : goal.returns-clause-fit
unfolding sret
returns-clause-fit c harts fit = as_fit harts (sret c.args.self.now).stores _ (sret_fit harts c.args.self.now fit) (search rules)
