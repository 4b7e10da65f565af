-- The last context goes to the end of what is laid. Turned round, all lie as they stood.
use Rattle.std.proofs.Common.{rules, ◌≡◌, [], Some, refl}
use Rattle.context.specs.Contexts.{Context}
use Rattle.solo.proofs.Taking.{taken_more, taken_all}
use Rattle.crew.proofs.machine.lay_all.Goals as goal

pub loop-context-preserved : goal.loop-context-preserved
loop-context-preserved c = (
  search rules,
  taken_more (λ (k : Context). Some k) _ c.pop.new.self.items c.in-Some.context c.in-Some.ensures.items _ _ _ _ c.push_reserved.ensures.items refl c.loop-context.invariant.1,
  search rules,
)

pub returns-clause-resting : goal.returns-clause-resting
returns-clause-resting c =
    let none : c.loop-context.contexts.items ≡ [] = search rules in
    taken_all (λ (k : Context). Some k) _ _ _ _ none c.reverse.ensures.items c.loop-context.invariant.1
