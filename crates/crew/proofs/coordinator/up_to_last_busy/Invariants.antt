-- The workers from there on hold no hart.
use Rattle.crew.specs.Crews.{AreIdleFrom}
use Rattle.crew.proofs.coordinator.up_to_last_busy.Given as goal

abbrev pub invariant-loop-number : goal.invariant-loop-number
invariant-loop-number l = AreIdleFrom l.number l.workers
