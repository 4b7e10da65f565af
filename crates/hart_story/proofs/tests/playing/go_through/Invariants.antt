use Rattle.flex_base.specs.Setup.{Setup}
use Rattle.flex_base.specs.Unsplit.{Instruction}
use Rattle.hart_story.specs.Progress.{IsIn}
use Rattle.hart_story.proofs.tests.playing.go_through.Given as goal

abbrev pub invariant-accesses : goal.invariant-accesses
invariant-accesses g l = (setup : Setup) × (i : Instruction) × IsIn setup i l.hart l.progress l.layout 100
