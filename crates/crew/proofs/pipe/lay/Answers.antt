-- The hart has been laid.
use Rattle.std.proofs.Common.{Bool, sym, subst}
use Rattle.pipeline.specs.Pipes.{HasLaid}
use Rattle.crew.proofs.Passing.{laid_in}
use Rattle.crew.proofs.pipe.lay.Goals as goal

pub returns-clause-laid : goal.returns-clause-laid
returns-clause-laid c = λ run start passing is_laid.
    let context = c.index-contexts-place.result in
    let Laid : Bool → Type 0 = λ b. HasLaid c.args.place context c.args.latches.now c.lay.new.self b in
    laid_in run c.args.place start c.args.contexts.now c.args.latches.now c.lay.new.self context passing c.requires.place (sym c.index-contexts-place.is)
    (subst Laid is_laid c.lay.ensures.laid)
