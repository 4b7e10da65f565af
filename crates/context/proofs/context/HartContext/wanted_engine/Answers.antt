-- What is wanted is one thing, and so is its engine.
use Rattle.std.proofs.Common.{refl, ◌∙◌}
use Rattle.context.specs.declared.wants.Wants.TheVariants as wants
use Rattle.context.proofs.Keeping.{wanted_engine_is}
use Rattle.context.proofs.context.HartContext.wanted_engine.Goals as goal

pub returns-in-Ask : goal.returns-in-Ask
returns-in-Ask c =
    wanted_engine_is _ _ (wants.Ask c.in-Ask.class) _ c.self.view_is (λ setup of. c.wants.ensures setup of ∙ c.in-Ask.is) (c.engine_for.ensures.engine 0)

pub returns-in-Finish : goal.returns-in-Finish
returns-in-Finish c =
    wanted_engine_is _ _ (wants.Finish c.in-Finish.class) _ c.self.view_is (λ setup of. c.wants.ensures setup of ∙ c.in-Finish.is) (c.engine_for-in-Finish.ensures.engine 0)

pub returns-in-Parked : goal.returns-in-Parked
returns-in-Parked c = wanted_engine_is _ _ wants.Parked _ c.self.view_is (λ setup of. c.wants.ensures setup of ∙ c.in-Parked.is) refl

pub returns-in-Over : goal.returns-in-Over
returns-in-Over c = wanted_engine_is _ _ wants.Over _ c.self.view_is (λ setup of. c.wants.ensures setup of ∙ c.in-Over.is) refl
