-- The harts stay the same.
use Rattle.pipeline.specs.Pipes.{moved_places}
use Rattle.pipeline.proofs.Trying.{harts_passed}
use Rattle.pipeline.proofs.tests.turn.Goals as goal

pub returns-clause-same : goal.returns-clause-same
returns-clause-same g c =
    harts_passed (g.B.Bus.run c.args.bus.now) (g.B.Bus.history c.args.bus.now) (g.B.Bus.history c.cycle.new.bus) c.cycle.new.self.made
    (moved_places c.args.pipe.now) c.args.pipe.now.held c.cycle.new.self.held c.cycle.ensures.passes
