-- It is a crew, and the workers so far hold no hart.
use Rattle.std.proofs.Common.{◌≡◌, ◌<◌, ℕ, [], length, slice_index_or}
use Rattle.access_record.specs.Buses.{Run}
use Rattle.crew.specs.Crews.{Berth, IsCrew}
use Rattle.crew.proofs.coordinator.Crew.collect.Given as goal

abbrev pub invariant-loop-number : goal.invariant-loop-number
invariant-loop-number l = ((run : Run) → IsCrew run l.fn.self → IsCrew run l.self)
    × (l.self.plan ≡ l.fn.self.plan)
    × (length l.self.workers ≡ length l.fn.self.workers)
    × ((k : ℕ) (other : Berth) → k < l.number → (slice_index_or l.self.workers k other).contexts ≡ [])
