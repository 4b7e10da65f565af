-- What it wants in its engine, it wants in this one.
use Rattle.std.proofs.Common.{rules, ◌≡◌, subst}
use Rattle.flex_base.specs.declared.engine.Engine.{Engine}
use Rattle.flex_base.specs.declared.engine.Engine.TheVariants as engine
use Rattle.context.specs.Obeying.{IsFor}
use Rattle.context.specs.Contexts.{plan_of}
use Rattle.host_sim.proofs.tests.one.Goals as goal

pub one-context-requires-clause-wanted : goal.one-context-requires-clause-wanted
one-context-requires-clause-wanted g c =
    let here : c.args.context.engine ≡ engine.Host = search rules in
    let At : Engine → Type 0 = λ e. IsFor (plan_of c.args.context) c.in-Some._wanted e in
    (c.in-Some._wanted, c.in-Some.ensures.0, subst At here c.in-Some.ensures.1)
