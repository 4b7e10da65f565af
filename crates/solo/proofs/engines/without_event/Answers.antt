-- What it wants is another engine's work.
use Rattle.std.proofs.Common.{subst}
use Rattle.context.specs.declared.wants.Wants.{Wants}
use Rattle.context.specs.Contexts.{IsWanting}
use Rattle.solo.proofs.Going.{asks_elsewhere, ends_elsewhere}
use Rattle.solo.proofs.engines.without_event.Goals as goal

pub returns-in-Ask : goal.returns-in-Ask
returns-in-Ask c =
    let Is : Wants → Type 0 = λ w. IsWanting c.args.context.now w in
    asks_elsewhere c.args.context.now c.wanted_engine.result c.wanted_engine.ensures c.in-Ask.field-0 (subst Is c.in-Ask.is c.wants.ensures) c.requires

pub returns-in-Finish : goal.returns-in-Finish
returns-in-Finish c =
    let Is : Wants → Type 0 = λ w. IsWanting c.args.context.now w in
    ends_elsewhere c.args.context.now c.wanted_engine-in-Finish.result c.wanted_engine-in-Finish.ensures c.in-Finish.field-0 (subst Is c.in-Finish.is c.wants.ensures) c.requires
