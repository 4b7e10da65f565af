-- Each reply leads on by one in the story.
use Rattle.std.proofs.Common.{sym, subst}
use Rattle.flex_base.specs.Translation.{AreLeaves}
use Rattle.hart_story.specs.Found.{leaves_of}
use Rattle.hart_story.specs.Stage.{IsSoundStage}
use Rattle.hart_story.specs.declared.found.Found.{Found}
use Rattle.hart_story.specs.declared.stage.Stage.{Stage}
use Rattle.hart_story.proofs.replies.go_on.Goals as goal

pub after_outcome-requires-clause-sound : goal.after_outcome-requires-clause-sound
after_outcome-requires-clause-sound c =
    let old = c.args.progress.now in
    let Sound : Stage → Type 0 = λ s. IsSoundStage c.args.layout.now c.args.hart.now old.found.count s in
    (c.args.layout.now, subst Sound c.in-Working.is c.requires.here.4.sound.stage)

pub returns-in-Device-clause-node : goal.returns-in-Device-clause-node
returns-in-Device-clause-node c = λ setup a access budget here asks. c.after_access-in-Device.ensures.node setup a budget here

-- The access that the instruction has come to.

pub returns-in-Working-clause-sound : goal.returns-in-Working-clause-sound
returns-in-Working-clause-sound c =
    let Are : Found → Type 0 = λ f. AreLeaves (leaves_of f) in
    record {
      stage = c.after_outcome.ensures.sound c.args.layout.now c.after_outcome.new.progress.found.count;
      found = subst Are (sym c.after_outcome.ensures.found) c.requires.here.4.sound.found;
    }
