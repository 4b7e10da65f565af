-- What is needed tells what is wanted, and the test of the engine whether it is made here.
use Rattle.std.proofs.Common.{rules, ◌≡◌, ◌≢◌, sym}
use Rattle.context.specs.declared.wants.Wants.TheVariants as wants
use Rattle.context.specs.Runs.{WantsElsewhere, Waits, IsOver}
use Rattle.context.proofs.Keeping.{wanting_by, is_here, is_elsewhere}
use Rattle.context.proofs.context.HartContext.wants_here.Goals as goal

pub returns-then-ne : goal.returns-then-ne
returns-then-ne c =
    let wanting = wanting_by c.args.self.now c.need.result _ c.in-Ask.is c.need.ensures.told in
    let other : c.engine_for-engine.result ≢ c.self.inside.engine = search rules in
    WantsElsewhere _ (is_elsewhere _ _ (wants.Ask c.in-Ask.class) _ c.self.view_is c.self.invariant wanting (sym (c.engine_for-engine.ensures.engine 0)) other)

pub returns-else-ne : goal.returns-else-ne
returns-else-ne c =
    let wanting = wanting_by c.args.self.now c.need.result _ c.in-Ask.is c.need.ensures.told in
    let same : c.engine_for-engine.result ≡ c.self.inside.engine = search rules in
    (wanting, is_here _ _ (wants.Ask c.in-Ask.class) _ c.self.view_is (sym (c.engine_for-engine.ensures.engine 0)) same)

pub returns-then-ne-2 : goal.returns-then-ne-2
returns-then-ne-2 c =
    let wanting = wanting_by c.args.self.now c.need.result _ c.in-Finish.is c.need.ensures.told in
    let other : c.engine_for-engine-in-Finish.result ≢ c.self.inside.engine = search rules in
    WantsElsewhere _ (is_elsewhere _ _ (wants.Finish c.in-Finish.class) _ c.self.view_is c.self.invariant wanting (sym (c.engine_for-engine-in-Finish.ensures.engine 0)) other)

pub returns-else-ne-2 : goal.returns-else-ne-2
returns-else-ne-2 c =
    let wanting = wanting_by c.args.self.now c.need.result _ c.in-Finish.is c.need.ensures.told in
    let same : c.engine_for-engine-in-Finish.result ≡ c.self.inside.engine = search rules in
    (wanting, is_here _ _ (wants.Finish c.in-Finish.class) _ c.self.view_is (sym (c.engine_for-engine-in-Finish.ensures.engine 0)) same)

pub returns-in-Parked : goal.returns-in-Parked
returns-in-Parked c = Waits (wanting_by c.args.self.now c.need.result _ c.in-Parked.is c.need.ensures.told)

pub returns-in-Over : goal.returns-in-Over
returns-in-Over c = IsOver (wanting_by c.args.self.now c.need.result _ c.in-Over.is c.need.ensures.told)
