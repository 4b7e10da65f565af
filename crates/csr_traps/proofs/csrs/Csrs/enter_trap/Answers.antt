use Rattle.std.proofs.Common.{rules, arith}
use Rattle.flex_base.specs.Traps.{trap}
use Rattle.csr_traps.proofs.Fitting.{as_fit, trap_fit}
use Rattle.csr_traps.proofs.csrs.Csrs.enter_trap.Goals as goal

pub returns-then-goes_to_s-clause-fit : goal.returns-then-goes_to_s-clause-fit
unfolding trap
returns-then-goes_to_s-clause-fit c harts fit multiple good =
    as_fit harts (trap c.args.self.now c.args.pc c.args.mode c.args.cause c.args.tval).stores _
    (trap_fit harts c.args.self.now c.args.pc c.args.mode c.args.cause c.args.tval (omega (arith, c.ranges.pc)) (omega (arith, c.ranges.tval)) fit multiple good) (search rules)

pub returns-else-goes_to_s-clause-fit : goal.returns-else-goes_to_s-clause-fit
unfolding trap
returns-else-goes_to_s-clause-fit c harts fit multiple good =
    as_fit harts (trap c.args.self.now c.args.pc c.args.mode c.args.cause c.args.tval).stores _
    (trap_fit harts c.args.self.now c.args.pc c.args.mode c.args.cause c.args.tval (omega (arith, c.ranges.pc)) (omega (arith, c.ranges.tval)) fit multiple good) (search rules)
