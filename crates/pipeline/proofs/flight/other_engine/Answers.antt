-- What is wanted, is wanted of the engine that the plan gives it to.
use Rattle.std.proofs.Common.{rules, ◌≡◌, ◌≢◌, ◌<◌}
use Rattle.pipeline.proofs.Working.{stays_here, goes_there}
use Rattle.pipeline.proofs.flight.other_engine.Goals as goal

pub returns-then-eq : goal.returns-then-eq
returns-then-eq c =
    let here : c.wanted_engine-engine.result ≡ c.args.context.now.engine = search rules in
    record { other = λ to. stays_here c.args.context.now c.wanted_engine-engine.result to c.wanted_engine-engine.ensures here }

pub returns : goal.returns
returns c =
    let other : c.wanted_engine-engine.result ≢ c.args.context.now.engine = search rules in
    let some : 0 < c.args.context.now.left = search rules in
    record { other = goes_there c.args.context.now c.wanted_engine-engine.result c.wants-wants.result c.wants-wants.ensures c.wanted_engine-engine.ensures other some }
