use Rattle.std.proofs.Common.{◌≡◌}
use Rattle.pipeline.specs.Pipes.{AreOn}
use Rattle.pipeline.specs.Tried.{harts_in}
use Rattle.pipeline.proofs.tests.play.Given as goal

abbrev pub invariant-loop-wanted : goal.invariant-loop-wanted
invariant-loop-wanted g l = AreOn (g.B.Bus.run l.initial.bus) l.pipe.held × (harts_in l.pipe.held ≡ harts_in l.initial.pipe.held)
    × (g.B.Bus.run l.bus ≡ g.B.Bus.run l.initial.bus)
