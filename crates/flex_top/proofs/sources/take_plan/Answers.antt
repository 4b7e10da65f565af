-- Where no file is named, the plan is the default one.
use Rattle.std.proofs.Common.{ℕ, List, Option, Bor, option_map, sym, subst}
use Rattle.transplant_plan.specs.Assignment.{Assignment}
use Rattle.transplant_plan.specs.Shown.{shown}
use Rattle.flex_top.specs.Answer.{plan_by}
use Rattle.flex_top.specs.Taking.{Gives}
use Rattle.flex_top.proofs.Plans.{default_given}
use Rattle.flex_top.proofs.sources.take_plan.Goals as goal

abbrev text_of : Option (Bor (List ℕ)) → Option (List ℕ)
text_of name = option_map (λ text. text.now) name

pub returns-in-None-clause-gives : goal.returns-in-None-clause-gives
returns-in-None-clause-gives g c =
    let held = (g.O.Outer.outside c.args.outer.now).held in
    let plan = shown c.default_plan.result in
    let At : Option (Bor (List ℕ)) → Type 0 = λ o. Gives Assignment held (text_of o) (plan_by (text_of o)) plan in
    subst At (sym c.in-None.is) (default_given held plan c.default_plan.ensures)
