use Rattle.std.proofs.Common.{◌≡◌}
use Rattle.context.specs.Contexts.{IsOn, IsSame}
use Rattle.context.proofs.tests.play.Given as goal

abbrev pub invariant-loop-did : goal.invariant-loop-did
invariant-loop-did g l = IsOn (g.B.Bus.run l.bus) l.context × IsSame l.initial.context l.context × (g.B.Bus.run l.bus ≡ g.B.Bus.run l.initial.bus)
