-- The last place's context goes to the end of what is taken. Turned round, all stand as they stood.
use Rattle.std.proofs.Common.{rules, ◌≡◌, ◌∷◌, ◌++◌, [], Some, ap, ◌∙◌}
use Rattle.std.specs.Prelude.{Option}
use Rattle.context.specs.Contexts.{Context}
use Rattle.crew.proofs.Gathered.{held_more, held_all, held_before}
use Rattle.crew.proofs.ending.all_resting.Goals as goal

pub loop-place-preserved : goal.loop-place-preserved
loop-place-preserved c =
    let x = c.in-Some-place.context in
    let last : c.loop-place.resting.items ≡ c.pop.new.self.items ++ Some x ∷ [] =
    c.in-Some.ensures.items ∙ ap (λ (o : Option Context). c.pop.new.self.items ++ o ∷ []) c.in-Some-place.is in (
      search rules,
      held_before _ _ _ last c.loop-place.invariant.1,
      held_more _ _ x last _ _ _ c.push_reserved.ensures.items c.loop-place.invariant.2,
    )

pub returns : goal.returns
returns c =
    let none : c.loop-place.resting.items ≡ [] = search rules in
    held_all _ _ _ _ none c.reverse.ensures.items c.loop-place.invariant.2
