-- One hart less is held, and what is in the latches stays in flight.
use Rattle.std.proofs.Common.{◌≡◌, ◌<◌, ◌≤◌, ◌+◌, ℕ, List, Option, length, arith, ap, sym, subst, ◌∙◌}
use Rattle.std.proofs.lemmas.List.Edits.{length-remove}
use Rattle.flex_base.specs.declared.engine.Engine.TheVariants as engine
use Rattle.context.specs.Contexts.{Context}
use Rattle.pipeline.specs.declared.flight.Flight.{Flight}
use Rattle.pipeline.specs.Pipes.{Pipe, AreInFlight}
use Rattle.pipeline.proofs.Holding.{flying_taken, all_taken}
use Rattle.pipeline.proofs.Turns.{turn_without}
use Rattle.pipeline.proofs.pipeline.Pipeline.take_out.Goals as goal

pub invariant_of-self : goal.invariant_of-self
invariant_of-self c =
    let held = c.self.inside.held.items in
    let new = c.remove-context.new.self.items in
    let by_index = c.remove-context.ensures.by_index in
    let Length : Pipe → ℕ = λ p. length p.held in
    let inside : c.args.place < length held = omega (arith, ap Length c.self.view_is, c.requires.place) in
    let More : List Context → ℕ = λ l. length l + 1 in
    let fewer : length new + 1 ≡ length held = ap More c.remove-context.ensures.items ∙ length-remove held c.args.place inside in
    let Flying : List (Option Flight) → Type 0 = λ l. AreInFlight new l in
    let Within : ℕ → Type 0 = λ n. n ≤ length new in
    record {
      turn = subst Within (sym c.next_without-next.ensures) (turn_without c.self.inside.next c.args.place (length held) (length new) c.self.invariant.turn inside fewer);
      few = omega (arith, c.self.invariant.few, fewer);
      here = all_taken held new c.args.place by_index.0 by_index.1 fewer (λ k. k.engine ≡ engine.Pipe) c.self.invariant.here;
      flights = subst Flying (sym c.take_out.ensures) (flying_taken held new c.args.place by_index.0 by_index.1 fewer c.self.inside.latches inside c.self.invariant.flights);
      room = c.remove-context.ensures.capacity ∙ c.self.invariant.room;
    }
