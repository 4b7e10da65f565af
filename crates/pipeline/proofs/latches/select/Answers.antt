-- Those from the place on and those before it are all.
use Rattle.std.proofs.Common.{◌<◌, ◌≤◌, length}
use Rattle.pipeline.specs.Pipes.{NoneMayStart, NoneBefore, flights_in}
use Rattle.pipeline.proofs.Selecting.{none_joined, none_follows, some_follows}
use Rattle.pipeline.proofs.Turns.{before_on, before_round}
use Rattle.pipeline.proofs.latches.select.Goals as goal

pub returns-in-None-clause-none : goal.returns-in-None-clause-none
returns-in-None-clause-none c =
    let held = c.args.held.now in
    let latches = flights_in c.args.slots.now in
    none_follows c.first_due-in-None.result (NoneMayStart held latches 0 c.min-next.result) (NoneMayStart held latches 0 (length held))
    (λ before. none_joined held latches 0 c.min-next.result (length held) before c.in-None.ensures.none) c.first_due-in-None.ensures.none

pub returns-in-Some-clause-turn : goal.returns-in-Some-clause-turn
returns-in-Some-clause-turn c =
    before_on c.args.held.now (flights_in c.args.slots.now) c.args.next c.min-next.result c.in-Some.flight.place c.min-next.ensures c.in-Some.ensures.first

pub returns-in-None-clause-turn : goal.returns-in-None-clause-turn
returns-in-None-clause-turn c =
    let held = c.args.held.now in
    let latches = flights_in c.args.slots.now in
    some_follows c.first_due-in-None.result (λ f. (0 ≤ f.place) × (f.place < c.min-next.result) × NoneMayStart held latches 0 f.place)
    (λ f. NoneBefore held latches c.args.next f.place)
    (λ f first. before_round held latches c.args.next c.min-next.result f.place c.min-next.ensures c.in-None.ensures.none first) c.first_due-in-None.ensures.first
