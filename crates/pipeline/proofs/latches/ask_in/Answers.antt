-- What is due makes its access, and goes on or leaves.
use Rattle.std.proofs.Common.{◌≡◌, ◌<◌, ℕ, List, length, slice_set, Option, Some, refl, sym, ap, subst, ◌∙◌, arith}
use Rattle.std.proofs.lemmas.List.Elements.{All-set}
use Rattle.flex_base.specs.declared.engine.Engine.TheVariants as engine
use Rattle.context.specs.declared.wants.Wants.TheVariants as wants
use Rattle.context.specs.Contexts.{Context, IsOn}
use Rattle.pipeline.specs.declared.flight.Flight.{Flight}
use Rattle.pipeline.specs.Pipes.{flight_in, flights_in, HasWorked, IsAt, IsLeft, AreMoving}
use Rattle.pipeline.proofs.Flying.{read_set, read_at, six_slots, read_again, due_ask, within, due_read, moving_after, left_on}
use Rattle.pipeline.proofs.latches.ask_in.Goals as goal

pub bounds-held-from : goal.bounds-held-from
bounds-held-from g c =
    let at : IsAt (flights_in c.args.slots.now) c.args.latch (record { place = c.in-Some.place; due = c.args.latch }) = read_at c.args.slots.now c.from.result c.args.latch c.from.ensures (omega (arith, c.requires.latch, six_slots c.args.held.now c.args.slots.now c.requires.moving)) ∙ c.in-Some.ensures in
    omega (arith, within c.args.held.now (flights_in c.args.slots.now) c.requires.moving c.args.latch _ at, c.from-2.ensures)

pub ask-requires-clause-on : goal.ask-requires-clause-on
ask-requires-clause-on g c =
    let at : IsAt (flights_in c.args.slots.now) c.args.latch (record { place = c.in-Some.place; due = c.args.latch }) = read_at c.args.slots.now c.from.result c.args.latch c.from.ensures (omega (arith, c.requires.latch, six_slots c.args.held.now c.args.slots.now c.requires.moving)) ∙ c.in-Some.ensures in
    c.requires.on c.from-2.result c.index-held-from.result (omega (arith, within c.args.held.now (flights_in c.args.slots.now) c.requires.moving c.args.latch _ at, c.from-2.ensures))

pub ask-requires-clause-wanted : goal.ask-requires-clause-wanted
ask-requires-clause-wanted g c =
    let at : IsAt (flights_in c.args.slots.now) c.args.latch (record { place = c.in-Some.place; due = c.args.latch }) = read_at c.args.slots.now c.from.result c.args.latch c.from.ensures (omega (arith, c.requires.latch, six_slots c.args.held.now c.args.slots.now c.requires.moving)) ∙ c.in-Some.ensures in
    due_ask _ c.args.latch c.requires.latch (due_read c.args.held.now (flights_in c.args.slots.now) c.requires.moving c.args.latch _ at c.from-2.result c.index-held-from.result c.from-2.ensures)

pub returns-clause-worked : goal.returns-clause-worked
returns-clause-worked g c =
    let at : IsAt (flights_in c.args.slots.now) c.args.latch (record { place = c.in-Some.place; due = c.args.latch }) = read_at c.args.slots.now c.from.result c.args.latch c.from.ensures (omega (arith, c.requires.latch, six_slots c.args.held.now c.args.slots.now c.requires.moving)) ∙ c.in-Some.ensures in
    let new = slice_set c.args.held.now c.from-2.result c.ask.new.self in
    let Worked : Option Flight → Type 0 = λ o.
    HasWorked (g.B.Bus.run c.args.bus.now) (g.B.Bus.history c.args.bus.now) (g.B.Bus.history c.ask.new.bus) wants.Ask c.args.latch 1 o c.args.held.now new in
    let Set : ℕ → List Context = λ n. slice_set c.args.held.now n c.ask.new.self in
    subst Worked (sym at) (
      refl,
      record {
        was = _;
        next = c.ask.new.self;
        there = within c.args.held.now (flights_in c.args.slots.now) c.requires.moving c.args.latch _ at;
        was_is = read_again c.args.held.now c.from-2.result c.in-Some.place c.index-held-from.result c.from-2.ensures (within c.args.held.now (flights_in c.args.slots.now) c.requires.moving c.args.latch _ at);
        goes = c.ask.ensures.goes;
        same = c.ask.ensures.same;
        held = ap Set c.from-2.ensures;
      },
    )

pub returns-clause-left : goal.returns-clause-left
returns-clause-left g c =
    let at : IsAt (flights_in c.args.slots.now) c.args.latch (record { place = c.in-Some.place; due = c.args.latch }) = read_at c.args.slots.now c.from.result c.args.latch c.from.ensures (omega (arith, c.requires.latch, six_slots c.args.held.now c.args.slots.now c.requires.moving)) ∙ c.in-Some.ensures in
    let next = c.ask.new.self in
    let left = left_on c.args.held.now next c.in-Some.place c.args.latch (flight_in c.goes_on.result) (within c.args.held.now (flights_in c.args.slots.now) c.requires.moving c.args.latch _ at) c.goes_on.ensures.on in
    let Left : Option Flight → Type 0 = λ o. IsLeft (slice_set c.args.held.now c.from-2.result next) c.args.latch 1 o (flight_in c.goes_on.result) in
    let OfHeld : ℕ → Type 0 = λ n. IsLeft (slice_set c.args.held.now n next) c.args.latch 1 (Some (record { place = c.in-Some.place; due = c.args.latch })) (flight_in c.goes_on.result) in
    (flight_in c.goes_on.result, read_set c.args.slots.now c.from-3.result c.args.latch c.goes_on.result c.from-3.ensures, subst Left (sym at) (subst OfHeld (sym c.from-2.ensures) left))

pub returns-clause-moving : goal.returns-clause-moving
returns-clause-moving g c =
    let at : IsAt (flights_in c.args.slots.now) c.args.latch (record { place = c.in-Some.place; due = c.args.latch }) = read_at c.args.slots.now c.from.result c.args.latch c.from.ensures (omega (arith, c.requires.latch, six_slots c.args.held.now c.args.slots.now c.requires.moving)) ∙ c.in-Some.ensures in
    let next = c.ask.new.self in
    let there = within c.args.held.now (flights_in c.args.slots.now) c.requires.moving c.args.latch _ at in
    let left = left_on c.args.held.now next c.in-Some.place c.args.latch (flight_in c.goes_on.result) there c.goes_on.ensures.on in
    let after : AreMoving (slice_set c.args.held.now c.in-Some.place next) (slice_set (flights_in c.args.slots.now) c.args.latch (flight_in c.goes_on.result)) =
    moving_after c.args.held.now (flights_in c.args.slots.now) c.requires.moving c.args.latch _ at next (flight_in c.goes_on.result) left (omega (arith, c.requires.latch)) in
    let OfHeld : ℕ → Type 0 = λ n. AreMoving (slice_set c.args.held.now n next) (slice_set (flights_in c.args.slots.now) c.args.latch (flight_in c.goes_on.result)) in
    let OfLatches : List (Option Flight) → Type 0 = λ l. AreMoving (slice_set c.args.held.now c.from-2.result next) l in
    subst OfLatches (sym (read_set c.args.slots.now c.from-3.result c.args.latch c.goes_on.result c.from-3.ensures)) (subst OfHeld (sym c.from-2.ensures) after)

pub returns-clause-on : goal.returns-clause-on
returns-clause-on g c =
    All-set (λ k. IsOn (g.B.Bus.run c.args.bus.now) k) c.args.held.now c.from-2.result c.ask.new.self c.ask.ensures.on c.requires.on

pub returns-clause-here : goal.returns-clause-here
returns-clause-here g c = λ here.
    let at : IsAt (flights_in c.args.slots.now) c.args.latch (record { place = c.in-Some.place; due = c.args.latch }) = read_at c.args.slots.now c.from.result c.args.latch c.from.ensures (omega (arith, c.requires.latch, six_slots c.args.held.now c.args.slots.now c.requires.moving)) ∙ c.in-Some.ensures in
    let inside : c.from-2.result < length c.args.held.now = omega (arith, within c.args.held.now (flights_in c.args.slots.now) c.requires.moving c.args.latch _ at, c.from-2.ensures) in
    All-set (λ k. k.engine ≡ engine.Pipe) c.args.held.now c.from-2.result c.ask.new.self (c.ask.ensures.goes.steps.engine ∙ here c.from-2.result _ inside) here
