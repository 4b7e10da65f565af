-- The word leads on by one in the story.
use Rattle.std.proofs.Common.{◌≤◌, ap, sym, subst, ◌∙◌}
use Rattle.flex_base.specs.StoryTree.{after_one}
use Rattle.flex_base.specs.Forms.{IsAlignedRam}
use Rattle.hart_story.specs.Found.{state_at}
use Rattle.hart_story.specs.Progress.{node_at}
use Rattle.hart_story.specs.Stage.{IsSoundStage}
use Rattle.hart_story.specs.declared.stage.Stage.{Stage}
use Rattle.hart_story.proofs.Seeing.{sees, node_begun}
use Rattle.hart_story.proofs.replies.after_fetch.Goals as goal

-- The fetch.

pub returns-clause-node : goal.returns-clause-node
returns-clause-node c = λ setup a budget here.
    let old = c.args.progress.now in
    ap (λ s. after_one s c.args.reply) (ap (node_at setup a old.lines old.found) c.in-Fetch.is)
    ∙ c.work.ensures.works setup budget (state_at a old.lines old.found) here.of
    (sees c.args.hart.now a old.lines old.found here.stands here.fit.leaves here.sound.found)
    ∙ sym (node_begun setup a old.lines old.found c.work.new.stage c.work.ensures.begun)

pub returns-clause-sound : goal.returns-clause-sound
returns-clause-sound c =
    let old = c.args.progress.now in
    let here = c.requires.here.3 in
    let Sound : Stage → Type 0 = λ s. IsSoundStage c.args.layout.now c.args.hart.now old.found.count s in
    let sound : IsAlignedRam c.args.layout.now.ram c.in-Fetch.field-0 4 × (old.found.count ≤ 1) = subst Sound c.in-Fetch.is here.sound.stage in
    record { stage = c.work.ensures.sound old.found.count sound.1; found = here.sound.found }
