-- The hart in hand stays the same while it is made ready.
use Rattle.crew.proofs.Moving.{kept}
use Rattle.crew.proofs.coordinator.Crew.deal_one.Goals as goal

pub returns-in_default-clause-crew : goal.returns-in_default-clause-crew
returns-in_default-clause-crew g c = c.in_default.ensures.crew (g.B.Bus.run c.args.bus.now) c.requires.crew

pub make_ready-requires : goal.make_ready-requires
make_ready-requires g c = record { on = (c.in-Some.ensures.crew (g.B.Bus.run c.args.bus.now) c.requires.crew).hand.on }

pub send-requires-clause-crew : goal.send-requires-clause-crew
send-requires-clause-crew g c =
    let run = g.B.Bus.run c.args.bus.now in
    (run, kept run c.take.new.self c.in-Some.context c.make_ready.new.context (c.in-Some.ensures.crew run c.requires.crew) c.make_ready.ensures.same c.make_ready.ensures.on)

pub rest-requires : goal.rest-requires
rest-requires g c =
    let run = g.B.Bus.run c.args.bus.now in
    record { crew = (run, kept run c.take.new.self c.in-Some.context c.make_ready.new.context (c.in-Some.ensures.crew run c.requires.crew) c.make_ready.ensures.same c.make_ready.ensures.on) }

pub returns-in-Some-make_ready-clause-crew : goal.returns-in-Some-make_ready-clause-crew
returns-in-Some-make_ready-clause-crew g c =
    let run = g.B.Bus.run c.args.bus.now in
    c.send.ensures.crew run (kept run c.take.new.self c.in-Some.context c.make_ready.new.context (c.in-Some.ensures.crew run c.requires.crew) c.make_ready.ensures.same c.make_ready.ensures.on)

pub returns-in-None-clause-crew : goal.returns-in-None-clause-crew
returns-in-None-clause-crew g c =
    let run = g.B.Bus.run c.args.bus.now in
    c.rest.ensures.crew run (kept run c.take.new.self c.in-Some.context c.make_ready.new.context (c.in-Some.ensures.crew run c.requires.crew) c.make_ready.ensures.same c.make_ready.ensures.on)
