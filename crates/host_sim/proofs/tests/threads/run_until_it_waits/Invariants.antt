use Rattle.std.proofs.Common.{◌≡◌}
use Rattle.context.specs.Contexts.{IsOn}
use Rattle.host_sim.proofs.tests.threads.run_until_it_waits.Given as goal

abbrev pub invariant-loop : goal.invariant-loop
invariant-loop g l = IsOn (g.B.Bus.run l.bus) l.context × (g.B.Bus.run l.bus ≡ g.B.Bus.run l.initial.bus)
