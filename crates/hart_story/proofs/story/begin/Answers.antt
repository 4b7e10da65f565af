-- With no interrupt to take the instruction begins with the fetch.
use Rattle.std.proofs.Common.{ap, sym, ◌∙◌}
use Rattle.flex_base.specs.State.{State}
use Rattle.flex_base.specs.Translating.{translates}
use Rattle.flex_base.specs.Story.{interrupted_by, fetches_at}
use Rattle.flex_base.specs.Traps.{takeable}
use Rattle.flex_base.specs.declared.translation.Kind.TheVariants as kind
use Rattle.hart_story.specs.Stage.{stage_of}
use Rattle.hart_story.specs.Translated.{translated_of}
use Rattle.hart_story.proofs.Seeing.{shows, sees_none, state_none, node_begun}
use Rattle.hart_story.proofs.story.begin.Goals as goal

pub returns-in-None-clause-node : goal.returns-in-None-clause-node
returns-in-None-clause-node c = λ setup budget a of stands fit.
    let hart = c.args.hart.now in
    let found = c.clear.new.self in
    let here = c.set_fetch_stage.new.stage in
    let now : State = record a { lines = c.args.lines } in
    let none = sym (ap (λ s. takeable s c.args.lines a.mode) stands.csrs) ∙ sym (ap (λ m. takeable hart.csrs c.args.lines m) stands.regs.mode)
    ∙ sym c.takeable.ensures.first ∙ c.in-None.is in
    let pc = stands.regs.pc in
    ap (interrupted_by setup now) none
    ∙ ap (λ va. translates setup.ram now kind.Fetch va (fetches_at setup)) (sym pc)
    ∙ c.translate-came.ensures.translates setup budget now (fetches_at setup) of (sees_none hart a c.args.lines found stands fit.leaves c.clear.ensures)
    ∙ ap (λ va. translated_of setup.ram now kind.Fetch va (fetches_at setup) c.translate-came.result) pc
    ∙ c.set_fetch_stage.ensures.goes setup budget now of (shows hart a c.args.lines a.leaves stands)
    ∙ ap (λ b. stage_of setup b here) (c.translate-came.ensures.same now ∙ sym (state_none a c.args.lines found c.clear.ensures))
    ∙ sym (node_begun setup a c.args.lines found here c.set_fetch_stage.ensures.begun)
