use Rattle.std.proofs.Common.{rules}
use Rattle.flex_base.specs.Traps.{count}
use Rattle.csr_traps.proofs.Fitting.{as_fit, count_fit}
use Rattle.csr_traps.proofs.csrs.Csrs.count.Goals as goal

pub returns-then-instret-clause-fit : goal.returns-then-instret-clause-fit
unfolding count
returns-then-instret-clause-fit c harts fit =
    as_fit harts (count c.args.self.now c.args.cycle c.args.instret) _ (count_fit harts c.args.self.now c.args.cycle c.args.instret fit) (search rules)

pub returns-else-instret-clause-fit : goal.returns-else-instret-clause-fit
unfolding count
returns-else-instret-clause-fit c harts fit =
    as_fit harts (count c.args.self.now c.args.cycle c.args.instret) _ (count_fit harts c.args.self.now c.args.cycle c.args.instret fit) (search rules)
