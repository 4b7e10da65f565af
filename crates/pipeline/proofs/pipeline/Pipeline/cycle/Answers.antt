-- The latches move on over all harts, and select takes one.
use Rattle.std.proofs.Common.{ℕ, ◌+◌, List, ◌++◌, take, drop, length, sym, subst}
use Rattle.context.specs.Contexts.{Context}
use Rattle.pipeline.specs.Pipes.{Pipe, pipe_of, Passes, moved_places, IsNearer, IsTurn, AreNearerToStart, AreMovedOn, HaveGoneOn, AreOn}
use Rattle.pipeline.proofs.Cycling.{held_is, passes_is, total_is}
use Rattle.pipeline.proofs.Nearing.{nearer_is, keeps}
use Rattle.pipeline.proofs.Moving.{cycle_moves, cycle_goes_on}
use Rattle.pipeline.proofs.Turns.{cycle_turn, cycle_fair}
use Rattle.pipeline.proofs.pipeline.Pipeline.cycle.Goals as goal

pub advance-made-requires-clause-on : goal.advance-made-requires-clause-on
advance-made-requires-clause-on g c =
    let On : Pipe → Type 0 = λ p. AreOn (g.B.Bus.run c.args.bus.now) p.held in
    let Held : List Context → Type 0 = λ held. AreOn (g.B.Bus.run c.args.bus.now) held in
    subst Held (sym c.deref_mut.ensures.value) (subst On (sym c.self.view_is) c.requires.on)

pub invariant_of-self : goal.invariant_of-self
invariant_of-self g c =
    keeps (g.B.Bus.run c.args.bus.now) _ _ _ _ _ _ _ _ _ c.deref_mut.ensures.value c.deref_mut.ensures.len c.advance-made.ensures.advanced _ _ c.self.invariant
    c.advance-made.ensures.here c.advance-made.ensures.flights _ c.deref.ensures.value _ _ c.select-selected.ensures.found c.select-selected.ensures.none _ c.turn_after-next.ensures

pub returns-clause-passes : goal.returns-clause-passes
returns-clause-passes g c =
    let total = total_is c.from.ensures c.from-2.ensures in
    let Done : ℕ × Pipe → Type 0 = λ p. Passes (g.B.Bus.run c.args.bus.now) (g.B.Bus.history c.args.bus.now) (g.B.Bus.history c.advance-made.new.bus) p.0 (moved_places p.1) p.1.held
    (take c.self.inside.held.len (c.advance-made.new.held ++ drop (length c.advance-made.new.held) c.self.inside.held.items)) in
    subst Done (λ i. (sym total i, c.self.view_is i))
    (passes_is (g.B.Bus.run c.args.bus.now) _ _ _ _ _ _ _ _ _ c.deref_mut.ensures.value c.deref_mut.ensures.len c.advance-made.ensures.advanced c.self.invariant.flights.six)

pub returns-clause-nearer : goal.returns-clause-nearer
returns-clause-nearer g c =
    let total = total_is c.from.ensures c.from-2.ensures in
    let Nearer : Pipe → Type 0 = λ p. IsNearer p (pipe_of (take c.self.inside.held.len (c.advance-made.new.held ++ drop (length c.advance-made.new.held) c.self.inside.held.items)) c.select-selected.new.self (c.turn_after-next.result) (c.from.result + c.from-2.result)) in
    subst Nearer c.self.view_is (nearer_is (g.B.Bus.run c.args.bus.now) _ _ _ _ _ _ _ _ _ _ _ c.deref_mut.ensures.value c.deref_mut.ensures.len c.advance-made.ensures.advanced
    c.self.invariant.flights c.advance-made.ensures.flights c.self.invariant.here c.deref.ensures.value total _ _ c.select-selected.ensures.found c.select-selected.ensures.none)

pub returns-clause-on : goal.returns-clause-on
returns-clause-on g c =
    let Held : List Context → Type 0 = λ held. AreOn (g.B.Bus.run c.args.bus.now) held in
    subst Held (sym (held_is (g.B.Bus.run c.args.bus.now) _ _ _ _ _ _ _ _ _ c.deref_mut.ensures.value c.deref_mut.ensures.len c.advance-made.ensures.advanced)) c.advance-made.ensures.on

pub returns-clause-turn : goal.returns-clause-turn
returns-clause-turn g c =
    let Turn : Pipe → Type 0 = λ p. IsTurn (take c.self.inside.held.len (c.advance-made.new.held ++ drop (length c.advance-made.new.held) c.self.inside.held.items)) c.select-selected.new.self p.next c.turn_after-next.result in
    subst Turn c.self.view_is (cycle_turn (g.B.Bus.run c.args.bus.now) _ _ _ _ _ _ _ _ _ _ c.deref_mut.ensures.value c.deref_mut.ensures.len c.advance-made.ensures.advanced
    c.advance-made.ensures.flights.six c.advance-made.ensures.free c.advance-made.ensures.here c.self.invariant.here c.deref.ensures.value _ _ c.select-selected.ensures.found _ _
    c.select-selected.ensures.turn c.select-selected.ensures.none c.turn_after-next.ensures)

pub returns-clause-fair : goal.returns-clause-fair
returns-clause-fair g c =
    let Fair : Pipe → Type 0 = λ p. AreNearerToStart p (pipe_of (take c.self.inside.held.len (c.advance-made.new.held ++ drop (length c.advance-made.new.held) c.self.inside.held.items)) c.select-selected.new.self c.turn_after-next.result 0) in
    subst Fair c.self.view_is (cycle_fair (g.B.Bus.run c.args.bus.now) _ _ _ _ _ _ _ _ _ _ c.deref_mut.ensures.value c.deref_mut.ensures.len c.advance-made.ensures.advanced
    c.advance-made.ensures.flights.six c.advance-made.ensures.free c.advance-made.ensures.here c.self.invariant.here c.deref.ensures.value _ _ c.select-selected.ensures.found _ _
    c.select-selected.ensures.turn c.select-selected.ensures.none c.turn_after-next.ensures c.self.invariant.turn)

pub returns-clause-moves : goal.returns-clause-moves
returns-clause-moves g c =
    let Moved : Pipe → Type 0 = λ p. AreMovedOn p.latches c.select-selected.new.self in
    subst Moved c.self.view_is (cycle_moves (g.B.Bus.run c.args.bus.now) _ _ _ _ _ _ _ _ _ _ c.deref_mut.ensures.value c.deref_mut.ensures.len c.advance-made.ensures.advanced
    c.self.invariant.flights c.advance-made.ensures.flights _ _ c.select-selected.ensures.found c.select-selected.ensures.none)

pub returns-clause-goes_on : goal.returns-clause-goes_on
returns-clause-goes_on g c =
    let Gone : Pipe → Type 0 = λ p.
    HaveGoneOn (take c.self.inside.held.len (c.advance-made.new.held ++ drop (length c.advance-made.new.held) c.self.inside.held.items)) p.latches c.select-selected.new.self in
    subst Gone c.self.view_is (cycle_goes_on (g.B.Bus.run c.args.bus.now) _ _ _ _ _ _ _ _ _ _ c.deref_mut.ensures.value c.deref_mut.ensures.len c.advance-made.ensures.advanced
    c.self.invariant.flights c.advance-made.ensures.flights _ _ c.select-selected.ensures.found c.select-selected.ensures.none)
