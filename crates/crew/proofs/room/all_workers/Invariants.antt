-- The workers so far are the first of the plan's.
use Rattle.std.proofs.Common.{◌≡◌, ◌≤◌}
use Rattle.std.specs.Prelude.{vec_capacity}
use Rattle.crew.specs.Crews.{count_by}
use Rattle.crew.proofs.Manning.{AreFirst}
use Rattle.crew.proofs.room.all_workers.Given as goal

abbrev pub invariant-loop-number : goal.invariant-loop-number
invariant-loop-number l = AreFirst l.plan l.room l.number l.workers.items × (l.count ≤ vec_capacity l.workers) × (l.number ≤ l.count)
    × (l.count ≡ count_by l.plan)
