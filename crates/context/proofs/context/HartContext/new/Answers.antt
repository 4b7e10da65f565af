-- A hart at its start, with an empty log.
use Rattle.std.proofs.Common.{sym, subst}
use Rattle.context.specs.Contexts.{Context, IsContext}
use Rattle.context.proofs.Starting.{begins, begins_on, new_is}
use Rattle.context.proofs.context.HartContext.new.Goals as goal

pub invariant_of-result : goal.invariant_of-result
invariant_of-result c =
    let image = c.requires.image in
    let is = new_is c.args.hart _ _ c.args.pass c.args.log c.args.plan c.args.settings.now _ c.begin.ensures c.new-pass.ensures (c.engine_for-engine.ensures.engine 0) in
    subst (λ (k : Context). IsContext k) (sym is)
    (begins c.args.hart c.args.pass c.args.log c.args.plan c.args.settings.now image.0 c.requires.lawful image.1 image.2 c.requires.below c.requires.none c.requires.log)

pub returns-clause-context : goal.returns-clause-context
returns-clause-context c =
    new_is c.args.hart _ _ c.args.pass c.args.log c.args.plan c.args.settings.now _ c.begin.ensures c.new-pass.ensures (c.engine_for-engine.ensures.engine 0)

pub returns-clause-on : goal.returns-clause-on
returns-clause-on c = λ run book setup limit.
    let is = new_is c.args.hart _ _ c.args.pass c.args.log c.args.plan c.args.settings.now _ c.begin.ensures c.new-pass.ensures (c.engine_for-engine.ensures.engine 0) in
    begins_on c.args.hart c.args.pass c.args.log c.args.plan c.args.settings.now _ run is c.requires.none book setup limit
