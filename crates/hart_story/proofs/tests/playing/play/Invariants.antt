use Rattle.flex_base.specs.Setup.{Setup}
use Rattle.flex_base.specs.Unsplit.{Instruction}
use Rattle.hart_story.specs.Progress.{IsIn}
use Rattle.hart_story.proofs.tests.playing.play.Given as goal

abbrev pub invariant-replies : goal.invariant-replies
invariant-replies g l = (setup : Setup) × (i : Instruction) × IsIn setup i l.hart l.progress l.layout 100
