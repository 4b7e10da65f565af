-- Nothing goes on where no later event is due.
use Rattle.pipeline.proofs.Working.{none_later, none_at_all}
use Rattle.pipeline.proofs.latches.goes_on.Goals as goal

pub returns-then-due-latch : goal.returns-then-due-latch
returns-then-due-latch c = record { on = none_later c.args.context.now c.in-Some.due c.args.latch c.in-Some.ensures.due c.if-due-latch.true }

pub returns-in-None : goal.returns-in-None
returns-in-None c = record { on = none_at_all c.args.context.now c.args.latch c.in-None.ensures.due }
