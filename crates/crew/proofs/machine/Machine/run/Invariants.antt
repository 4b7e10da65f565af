-- The crew has all harts, and its plan stays.
use Rattle.std.proofs.Common.{◌≡◌}
use Rattle.crew.specs.Crews.{IsCrew}
use Rattle.crew.proofs.machine.Machine.run.Given as goal

abbrev pub invariant-loop : goal.invariant-loop
invariant-loop g l = IsCrew g.N.RunName.run l.crew × (l.crew.plan ≡ l.fn.self.plan)
