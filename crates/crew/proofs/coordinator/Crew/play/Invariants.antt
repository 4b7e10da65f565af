-- It is a crew.
use Rattle.std.proofs.Common.{◌≡◌}
use Rattle.crew.specs.Crews.{IsCrew}
use Rattle.crew.proofs.coordinator.Crew.play.Given as goal

abbrev pub invariant-loop : goal.invariant-loop
invariant-loop g l = IsCrew g.N.RunName.run l.self × (l.self.plan ≡ l.initial.self.plan)
