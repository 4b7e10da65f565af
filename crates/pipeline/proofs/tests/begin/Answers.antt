-- One hart more is kept.
use Rattle.std.proofs.Common.{sym, subst, List, ◌∷◌, [], ◌++◌}
use Rattle.flex_base.specs.declared.hart.HartId.{HartId}
use Rattle.access_record.specs.Buses.{Run}
use Rattle.context.specs.Contexts.{Context}
use Rattle.pipeline.specs.Tried.{AreKept}
use Rattle.pipeline.proofs.Trying.{kept_more}
use Rattle.pipeline.proofs.tests.begin.Goals as goal

pub returns-clause-kept : goal.returns-clause-kept
returns-clause-kept c = λ harts passes kept.
    let run = c.start-founder.new.bus.run in
    let context = c.start-founder.result.1 in
    let held = c.args.pipe.now.held in
    let Of : Run → Type 0 = λ r. AreKept r harts held passes in
    let Hart : HartId → Type 0 = λ h. AreKept run (h.0 ∷ harts) (held ++ context ∷ []) passes in
    let Held : List Context → Type 0 = λ l. AreKept run (c.args.id.0 ∷ harts) l passes in
    subst Held (sym c.admit.ensures.held)
    (subst Hart c.start-founder.ensures.hart (kept_more run harts held context passes c.start-founder.ensures.on (subst Of (sym c.start-founder.ensures.same) kept)))
