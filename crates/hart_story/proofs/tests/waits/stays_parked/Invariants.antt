use Rattle.flex_base.specs.Setup.{Setup}
use Rattle.flex_base.specs.Unsplit.{Instruction}
use Rattle.hart_story.specs.Progress.{IsIn}
use Rattle.hart_story.proofs.tests.waits.stays_parked.Given as goal

abbrev pub invariant-told : goal.invariant-told
invariant-told g l = (setup : Setup) × (i : Instruction) × IsIn setup i l.hart l.progress l.layout 100
