-- The hart that was found stands between those before it and those after it.
use Rattle.std.proofs.Common.{◌≡◌, ◌<◌, ℕ, suc, List, Option, min, length, take, drop, sym, ap, subst, ◌∙◌, arith}
use Rattle.std.proofs.Math.Nat.{min-eq_left}
use Rattle.std.proofs.lemmas.List.{length-take}
use Rattle.context.specs.Contexts.{Context}
use Rattle.pipeline.specs.declared.flight.Flight.{Flight}
use Rattle.pipeline.specs.Pipes.{Pipe, NoneElsewhere, without_in, next_without}
use Rattle.pipeline.proofs.Holding.{parted}
use Rattle.pipeline.proofs.pipeline.Pipeline.leave.Goals as goal

pub returns-in-Some-clause-out : goal.returns-in-Some-clause-out
returns-in-Some-clause-out c =
    let held = c.args.self.now.held in
    let place = c.in-Some.place in
    let out = c.take_out.ensures.out in
    let Held : Pipe → List Context = λ p. p.held in
    let Within : List Context → Type 0 = λ l. place < length l in
    let inside : place < length held = subst Within (c.deref.ensures.value ∙ ap Held c.self.view_is) c.in-Some.ensures.found.1 in
    let first : min place (length held) ≡ place = min-eq_left (omega (arith, inside)) in
    let before : length (take place held) ≡ place = length-take place held ∙ first in
    let Latches : ℕ → List (Option Flight) = λ n. without_in n c.args.self.now.latches in
    let Next : ℕ → ℕ = λ n. next_without n c.args.self.now.next in
    record {
      before = take place held;
      after = drop (suc place) held;
      was = parted held place c.take_out.result inside out.was;
      left = out.left;
      latches = out.latches ∙ ap Latches (sym before);
      next = out.next ∙ ap Next (sym before);
      made = out.made;
    }

pub returns-in-None-clause-none : goal.returns-in-None-clause-none
returns-in-None-clause-none c =
    let Held : Pipe → List Context = λ p. p.held in
    subst NoneElsewhere (c.deref.ensures.value ∙ ap Held c.self.view_is) c.in-None.ensures.none
