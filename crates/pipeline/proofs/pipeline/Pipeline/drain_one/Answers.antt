-- The last hart is taken out.
use Rattle.std.proofs.Common.{rules, ◌≡◌, ◌+◌, ◌-◌, ℕ, List, Option, [], ◌∷◌, length, arith, ap, ◌∙◌}
use Rattle.std.proofs.lemmas.List.{length-append}
use Rattle.context.specs.Contexts.{Context}
use Rattle.pipeline.specs.declared.flight.Flight.{Flight}
use Rattle.pipeline.specs.Pipes.{Pipe, without_in, next_without}
use Rattle.pipeline.proofs.Holding.{last_out}
use Rattle.pipeline.proofs.pipeline.Pipeline.drain_one.Goals as goal

pub returns-clause-out : goal.returns-clause-out
returns-clause-out c =
    let out = c.take_out.ensures.out in
    let Length : Pipe → ℕ = λ p. length p.held in
    let count : c.len-count.result ≡ length c.args.self.now.held = search rules in
    let last : c.len-count.result - 1 + 1 ≡ length c.args.self.now.held = omega (arith, count, c.if-count-eq0.false) in
    last_out c.args.self.now.held c.take_out.new.self.held (c.len-count.result - 1) c.take_out.result last out.was out.left

place_is : (c : goal.After-take_out) → c.len-count.result - 1 ≡ length c.take_out.new.self.held
place_is c =
    let out = c.take_out.ensures.out in
    let Length : List Context → ℕ = λ l. length l in
    let count : c.len-count.result ≡ length c.args.self.now.held = search rules in
    let last : c.len-count.result - 1 + 1 ≡ length c.args.self.now.held = omega (arith, count, c.if-count-eq0.false) in
    let is = last_out c.args.self.now.held c.take_out.new.self.held (c.len-count.result - 1) c.take_out.result last out.was out.left in
    omega (arith, last, ap Length is, length-append c.take_out.new.self.held (c.take_out.result ∷ []))

pub returns-clause-latches : goal.returns-clause-latches
returns-clause-latches c =
    let Latches : ℕ → List (Option Flight) = λ n. without_in n c.args.self.now.latches in
    c.take_out.ensures.out.latches ∙ ap Latches (place_is c)

pub returns-clause-turn : goal.returns-clause-turn
returns-clause-turn c =
    let Next : ℕ → ℕ = λ n. next_without n c.args.self.now.next in
    c.take_out.ensures.out.next ∙ ap Next (place_is c)
