-- No more are busy than there were so far.
use Rattle.std.proofs.Common.{◌≤◌}
use Rattle.crew.proofs.coordinator.Crew.busy.Given as goal

abbrev pub invariant-loop-worker : goal.invariant-loop-worker
invariant-loop-worker l = l.busy ≤ l.worker-index
