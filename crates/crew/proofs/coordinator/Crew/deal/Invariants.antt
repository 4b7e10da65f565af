-- It is a crew.
use Rattle.std.proofs.Common.{◌≡◌}
use Rattle.crew.specs.Crews.{IsCrew}
use Rattle.crew.proofs.coordinator.Crew.deal.Given as goal

abbrev pub invariant-loop-hart : goal.invariant-loop-hart
invariant-loop-hart g l = IsCrew (g.B.Bus.run l.initial.bus) l.self
    × (l.self.plan ≡ l.initial.self.plan)
    × (g.B.Bus.run l.bus ≡ g.B.Bus.run l.initial.bus)
