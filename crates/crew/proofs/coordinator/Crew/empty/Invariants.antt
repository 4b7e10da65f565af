-- It is a crew, and the other workers are as they were. Each turn leaves one hart less with the workers.
use Rattle.std.proofs.Common.{◌≡◌, ◌≢◌, ℕ, length, slice_index_or}
use Rattle.access_record.specs.Buses.{Run}
use Rattle.crew.specs.Crews.{Berth, IsCrew, count_among}
use Rattle.crew.proofs.coordinator.Crew.empty.Given as goal

abbrev pub invariant-loop-context : goal.invariant-loop-context
invariant-loop-context l = ((run : Run) → IsCrew run l.fn.self → IsCrew run l.self)
    × (l.self.plan ≡ l.fn.self.plan)
    × (length l.self.workers ≡ length l.fn.self.workers)
    × ((k : ℕ) (other : Berth) → k ≢ l.number → slice_index_or l.self.workers k other ≡ slice_index_or l.fn.self.workers k other)

abbrev pub decreases-loop-context : goal.decreases-loop-context
decreases-loop-context l = count_among l.self.workers
