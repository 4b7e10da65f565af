-- What is due in end makes its end, and leaves.
use Rattle.std.proofs.Common.{◌≡◌, ◌<◌, ℕ, List, length, slice_set, Option, None, refl, sym, ap, subst, ◌∙◌, arith}
use Rattle.std.proofs.lemmas.List.Elements.{All-set}
use Rattle.flex_base.specs.declared.engine.Engine.TheVariants as engine
use Rattle.context.specs.declared.wants.Wants.TheVariants as wants
use Rattle.context.specs.Contexts.{Context, IsOn}
use Rattle.pipeline.specs.declared.flight.Flight.{Flight}
use Rattle.pipeline.specs.Pipes.{flights_in, HasWorked, IsAt, AreMoving}
use Rattle.pipeline.proofs.Flying.{read_set, read_at, six_slots, end_is_none, read_again, due_finish, within, due_read, moving_after, left_on}
use Rattle.pipeline.proofs.Working.{none_after_end}
use Rattle.pipeline.proofs.latches.end_in.Goals as goal

pub returns-in_default-clause-left : goal.returns-in_default-clause-left
returns-in_default-clause-left g c =
    end_is_none c.args.held.now (flights_in c.args.slots.now) _ c.requires.moving
    (read_at c.args.slots.now c.from.result 5 c.from.ensures (omega (arith, six_slots c.args.held.now c.args.slots.now c.requires.moving))) c.in_default.ensures

pub bounds-held-from : goal.bounds-held-from
bounds-held-from g c =
    let at : IsAt (flights_in c.args.slots.now) 5 (record { place = c.in-Some.place; due = 5 }) = read_at c.args.slots.now c.from.result 5 c.from.ensures (omega (arith, six_slots c.args.held.now c.args.slots.now c.requires.moving)) ∙ c.in-Some.ensures in
    omega (arith, within c.args.held.now (flights_in c.args.slots.now) c.requires.moving 5 _ at, c.from-2.ensures)

pub finish-requires-clause-on : goal.finish-requires-clause-on
finish-requires-clause-on g c =
    let at : IsAt (flights_in c.args.slots.now) 5 (record { place = c.in-Some.place; due = 5 }) = read_at c.args.slots.now c.from.result 5 c.from.ensures (omega (arith, six_slots c.args.held.now c.args.slots.now c.requires.moving)) ∙ c.in-Some.ensures in
    c.requires.on c.from-2.result c.index-held-from.result (omega (arith, within c.args.held.now (flights_in c.args.slots.now) c.requires.moving 5 _ at, c.from-2.ensures))

pub finish-requires-clause-wanted : goal.finish-requires-clause-wanted
finish-requires-clause-wanted g c =
    let at : IsAt (flights_in c.args.slots.now) 5 (record { place = c.in-Some.place; due = 5 }) = read_at c.args.slots.now c.from.result 5 c.from.ensures (omega (arith, six_slots c.args.held.now c.args.slots.now c.requires.moving)) ∙ c.in-Some.ensures in
    due_finish _ (due_read c.args.held.now (flights_in c.args.slots.now) c.requires.moving 5 _ at c.from-2.result c.index-held-from.result c.from-2.ensures)

pub returns-clause-worked : goal.returns-clause-worked
returns-clause-worked g c =
    let at : IsAt (flights_in c.args.slots.now) 5 (record { place = c.in-Some.place; due = 5 }) = read_at c.args.slots.now c.from.result 5 c.from.ensures (omega (arith, six_slots c.args.held.now c.args.slots.now c.requires.moving)) ∙ c.in-Some.ensures in
    let new = slice_set c.args.held.now c.from-2.result c.finish.new.self in
    let Worked : Option Flight → Type 0 = λ o.
    HasWorked (g.B.Bus.run c.args.bus.now) (g.B.Bus.history c.args.bus.now) (g.B.Bus.history c.finish.new.bus) wants.Finish 5 1 o c.args.held.now new in
    let Set : ℕ → List Context = λ n. slice_set c.args.held.now n c.finish.new.self in
    subst Worked (sym at) (
      refl,
      record {
        was = _;
        next = c.finish.new.self;
        there = within c.args.held.now (flights_in c.args.slots.now) c.requires.moving 5 _ at;
        was_is = read_again c.args.held.now c.from-2.result c.in-Some.place c.index-held-from.result c.from-2.ensures (within c.args.held.now (flights_in c.args.slots.now) c.requires.moving 5 _ at);
        goes = c.finish.ensures.goes;
        same = c.finish.ensures.same;
        held = ap Set c.from-2.ensures;
      },
    )

pub returns-clause-left : goal.returns-clause-left
returns-clause-left g c = read_set c.args.slots.now c.from-3.result 5 255 c.from-3.ensures

pub returns-clause-moving : goal.returns-clause-moving
returns-clause-moving g c =
    let at : IsAt (flights_in c.args.slots.now) 5 (record { place = c.in-Some.place; due = 5 }) = read_at c.args.slots.now c.from.result 5 c.from.ensures (omega (arith, six_slots c.args.held.now c.args.slots.now c.requires.moving)) ∙ c.in-Some.ensures in
    let next = c.finish.new.self in
    let after : AreMoving (slice_set c.args.held.now c.in-Some.place next) (slice_set (flights_in c.args.slots.now) 5 None) =
    moving_after c.args.held.now (flights_in c.args.slots.now) c.requires.moving 5 _ at next None
    (left_on c.args.held.now next c.in-Some.place 5 None (within c.args.held.now (flights_in c.args.slots.now) c.requires.moving 5 _ at) (none_after_end next)) (search arith) in
    let OfHeld : ℕ → Type 0 = λ n. AreMoving (slice_set c.args.held.now n next) (slice_set (flights_in c.args.slots.now) 5 None) in
    let OfLatches : List (Option Flight) → Type 0 = λ l. AreMoving (slice_set c.args.held.now c.from-2.result next) l in
    subst OfLatches (sym (read_set c.args.slots.now c.from-3.result 5 255 c.from-3.ensures)) (subst OfHeld (sym c.from-2.ensures) after)

pub returns-clause-on : goal.returns-clause-on
returns-clause-on g c =
    All-set (λ k. IsOn (g.B.Bus.run c.args.bus.now) k) c.args.held.now c.from-2.result c.finish.new.self c.finish.ensures.on c.requires.on

pub returns-clause-here : goal.returns-clause-here
returns-clause-here g c = λ here.
    let at : IsAt (flights_in c.args.slots.now) 5 (record { place = c.in-Some.place; due = 5 }) = read_at c.args.slots.now c.from.result 5 c.from.ensures (omega (arith, six_slots c.args.held.now c.args.slots.now c.requires.moving)) ∙ c.in-Some.ensures in
    let inside : c.from-2.result < length c.args.held.now = omega (arith, within c.args.held.now (flights_in c.args.slots.now) c.requires.moving 5 _ at, c.from-2.ensures) in
    All-set (λ k. k.engine ≡ engine.Pipe) c.args.held.now c.from-2.result c.finish.new.self (c.finish.ensures.goes.steps.engine ∙ here c.from-2.result _ inside) here
