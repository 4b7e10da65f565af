-- The latches have moved on.
use Rattle.crew.proofs.Passing.{moved_on}
use Rattle.crew.proofs.pipe.advance.Goals as goal

pub returns-clause-passing : goal.returns-clause-passing
returns-clause-passing g c = λ place start passing.
    let made = c.advance-made in
    moved_on (g.B.Bus.run c.args.bus.now) (g.B.Bus.history c.args.bus.now) (g.B.Bus.history made.new.bus) made.result place start c.args.contexts.now made.new.held
    c.args.latches.now made.new.self passing made.ensures.advanced made.ensures.flights made.ensures.on (made.ensures.here passing.here)
