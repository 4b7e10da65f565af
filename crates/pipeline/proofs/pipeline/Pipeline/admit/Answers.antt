-- One hart more is held, and what is in the latches stays in flight.
use Rattle.std.proofs.Common.{◌≡◌, ◌<◌, ◌+◌, [], ◌∷◌, ◌++◌, ℕ, zero, suc, List, length, arith, ap, sym, subst, ◌∙◌}
use Rattle.std.proofs.lemmas.List.{length-append}
use Rattle.std.proofs.lemmas.List.Elements.{All-append}
use Rattle.flex_base.specs.declared.engine.Engine.TheVariants as engine
use Rattle.context.specs.Contexts.{Context}
use Rattle.pipeline.specs.Pipes.{Pipe, AreInFlight, AreHere, HasLaid}
use Rattle.pipeline.proofs.Holding.{flying_admitted}
use Rattle.pipeline.proofs.pipeline.Pipeline.admit.Goals as goal

one_here : (c : Context) → c.engine ≡ engine.Pipe → AreHere (c ∷ [])
one_here c here zero d inside = here
one_here c here (suc k) d inside = absurd (omega (arith, inside))

pub invariant_of-self : goal.invariant_of-self
invariant_of-self c =
    let held = c.self.inside.held.items in
    let ctx = c.args.ctx in
    let all : c.push_reserved.new.self.items ≡ held ++ ctx ∷ [] = c.push_reserved.ensures.items in
    let Length : Pipe → ℕ = λ p. length p.held in
    let count : c.count-place.result ≡ length held = c.count-place.ensures ∙ sym (ap Length c.self.view_is) in
    let Laid : ℕ → Type 0 = λ n. HasLaid n ctx c.self.inside.latches c.lay.new.self c.lay.result in
    let Flying : List Context → Type 0 = λ l. AreInFlight l c.lay.new.self in
    let few : length held < 32 = omega (arith, ap Length c.self.view_is, c.requires.room) in
    let more : length c.push_reserved.new.self.items ≡ length held + 1 = ap length all ∙ length-append held (ctx ∷ []) in
    record {
      turn = omega (arith, c.self.invariant.turn, more);
      few = omega (arith, few, more);
      here = subst AreHere (sym all) (All-append (λ k. k.engine ≡ engine.Pipe) held (ctx ∷ []) c.self.invariant.here (one_here ctx c.requires.here));
      flights = subst Flying (sym all) (flying_admitted held ctx c.self.inside.latches c.lay.new.self c.lay.result c.self.invariant.flights (subst Laid count c.lay.ensures.laid));
      room = c.push_reserved.ensures.capacity ∙ c.self.invariant.room;
    }
