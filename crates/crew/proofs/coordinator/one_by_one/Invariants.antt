-- The workers so far have worked.
use Rattle.std.proofs.Common.{◌≤◌, length}
use Rattle.crew.specs.Crews.{WorkerHasWorked}
use Rattle.crew.proofs.Counting.{HasChanged}
use Rattle.crew.proofs.coordinator.one_by_one.Given as goal

abbrev pub invariant-loop-number : goal.invariant-loop-number
invariant-loop-number g l = HasChanged (WorkerHasWorked g.N.RunName.run) l.number l.initial.workers l.workers
    × (l.number ≤ length l.initial.workers)
