-- The latches move on, and the events that are due are made, one latch after another.
use Rattle.std.proofs.Common.{rules, ◌≡◌, ◌+◌, List, Option, None, refl, sym, ap, subst, ◌∙◌, slice_index_or, slice_set}
use Rattle.access_record.specs.Buses.{Run}
use Rattle.context.specs.declared.wants.Wants.TheVariants as Wants
use Rattle.pipeline.specs.declared.flight.Flight.{Flight}
use Rattle.pipeline.specs.declared.flight.Made.{Made}
use Rattle.pipeline.specs.Pipes.{flights_in, moved, AreOn, AreMoving, HasWorked}
use Rattle.pipeline.proofs.Advancing.{flights_moved, moving_on, Turn, advanced, in_flight_again}
use Rattle.pipeline.proofs.latches.Latches.advance.Goals as goal

pub end_in-ends-requires-clause-moving : goal.end_in-ends-requires-clause-moving
end_in-ends-requires-clause-moving g c =
    let start : flights_in c.move_on.new.slots ≡ moved c.args.self.now = ap flights_in c.move_on.ensures ∙ flights_moved c.self.inside.slots ∙ ap moved c.self.view_is in
    let Moving : List (Option Flight) → Type 0 = λ l. AreMoving c.args.held.now l in
    subst Moving (sym start) (moving_on c.args.held.now c.args.self.now c.requires.flights)

pub ask_in-fetch-requires-clause-on : goal.ask_in-fetch-requires-clause-on
ask_in-fetch-requires-clause-on g c =
    let On : Run → Type 0 = λ r. AreOn r c.ask_in-memory.new.held in
    subst On (sym c.ask_in-memory.ensures.bus) c.ask_in-memory.ensures.on

pub returns : goal.returns
returns g c =
    let run = g.B.Bus.run c.args.bus.now in
    let start : flights_in c.move_on.new.slots ≡ moved c.args.self.now = ap flights_in c.move_on.ensures ∙ flights_moved c.self.inside.slots ∙ ap moved c.self.view_is in
    let same_end : g.B.Bus.run c.end_in-ends.new.bus ≡ run = c.end_in-ends.ensures.bus in
    let same_memory : g.B.Bus.run c.ask_in-memory.new.bus ≡ run = c.ask_in-memory.ensures.bus ∙ same_end in
    let (m, asked_is, left_memory) = c.ask_in-memory.ensures.left in
    let (f, last_is, left_fetch) = c.ask_in-fetch.ensures.left in
    let InEnd : List (Option Flight) → Type 0 = λ l.
    HasWorked run (g.B.Bus.history c.args.bus.now) (g.B.Bus.history c.end_in-ends.new.bus) Wants.Finish 5 c.end_in-ends.result (slice_index_or l 5 None) c.args.held.now c.end_in-ends.new.held in
    let InMemory : Run → Type 0 = λ r.
    HasWorked r (g.B.Bus.history c.end_in-ends.new.bus) (g.B.Bus.history c.ask_in-memory.new.bus) Wants.Ask 4 c.ask_in-memory.result (slice_index_or (flights_in c.end_in-ends.new.slots) 4 None)
    c.end_in-ends.new.held c.ask_in-memory.new.held in
    let InFetch : Run → Type 0 = λ r.
    HasWorked r (g.B.Bus.history c.ask_in-memory.new.bus) (g.B.Bus.history c.ask_in-fetch.new.bus) Wants.Ask 1 c.ask_in-fetch.result (slice_index_or (flights_in c.ask_in-memory.new.slots) 1 None)
    c.ask_in-memory.new.held c.ask_in-fetch.new.held in
    let WithoutEnd : List (Option Flight) → List (Option Flight) = λ l. slice_set l 5 None in
    let On : Run → Type 0 = λ r. AreOn r c.ask_in-fetch.new.held in
    let made : Made = record { accesses = c.ask_in-memory.result + c.ask_in-fetch.result; ends = c.end_in-ends.result } in
    let turn : Turn run (g.B.Bus.history c.args.bus.now) (g.B.Bus.history c.ask_in-fetch.new.bus) made c.args.self.now (flights_in c.ask_in-fetch.new.slots) c.args.held.now c.ask_in-fetch.new.held =
    record {
      flights = c.requires.flights;
      memory = c.ask_in-memory.result;
      fetch = c.ask_in-fetch.result;
      accesses = refl;
      after_end = g.B.Bus.history c.end_in-ends.new.bus;
      after_memory = g.B.Bus.history c.ask_in-memory.new.bus;
      held_end = c.end_in-ends.new.held;
      held_memory = c.ask_in-memory.new.held;
      ended = flights_in c.end_in-ends.new.slots;
      asked = flights_in c.ask_in-memory.new.slots;
      m = m;
      f = f;
      ended_is = c.end_in-ends.ensures.left ∙ ap WithoutEnd start;
      asked_is = asked_is;
      last_is = last_is;
      in_end = subst InEnd start c.end_in-ends.ensures.worked;
      in_memory = subst InMemory same_end c.ask_in-memory.ensures.worked;
      in_fetch = subst InFetch same_memory c.ask_in-fetch.ensures.worked;
      left_memory = left_memory;
      left_fetch = left_fetch;
    } in
    record {
      advanced = advanced _ _ _ _ _ _ _ _ turn;
      flights = in_flight_again _ _ _ _ _ _ _ _ turn c.ask_in-fetch.ensures.moving;
      free = search rules;
      on = subst On same_memory c.ask_in-fetch.ensures.on;
      here = λ here. c.ask_in-fetch.ensures.here (c.ask_in-memory.ensures.here (c.end_in-ends.ensures.here here));
      bus = c.ask_in-fetch.ensures.bus ∙ same_memory;
    }
