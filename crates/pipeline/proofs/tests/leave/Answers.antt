-- The hart that is taken out has its pass among those that are kept.
use Rattle.std.proofs.Common.{sym, subst, List, ◌∷◌, [], ◌++◌}
use Rattle.access_record.specs.Passes.{PassOfHart}
use Rattle.context.specs.Contexts.{Context}
use Rattle.pipeline.specs.Tried.{AreKept}
use Rattle.pipeline.proofs.Trying.{kept_out}
use Rattle.pipeline.proofs.tests.leave.Goals as goal

pub returns-in-Some-clause-kept : goal.returns-in-Some-clause-kept
returns-in-Some-clause-kept c = λ run harts kept.
    let out = c.in-Some.ensures.out in
    let context = c.in-Some.context in
    let passes = c.args.passes.now.items in
    let Was : List Context → Type 0 = λ held. AreKept run harts held passes in
    let Held : List Context → Type 0 = λ held. AreKept run harts held (passes ++ context.pass ∷ []) in
    let Passes : List PassOfHart → Type 0 = λ ps. AreKept run harts c.leave.new.self.held ps in
    subst Passes (sym c.take_apart.ensures.passes) (subst Held (sym out.left) (kept_out run harts out.before out.after context passes (subst Was out.was kept)))
