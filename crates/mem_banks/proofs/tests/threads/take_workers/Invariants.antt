use Rattle.std.proofs.Common.{◌≡◌, ◌+◌, ◌++◌, ◌≤◌}
use Rattle.std.specs.Prelude.{vec_len, vec_capacity}
use Rattle.std.specs.List.{All}
use Rattle.access_record.specs.Passes.{PassOfHart}
use Rattle.mem_banks.specs.Plain.{numbers_below}
use Rattle.mem_banks.specs.Tried.{harts_of}
use Rattle.mem_banks.proofs.tests.threads.take_workers.Given as goal

abbrev pub invariant-loop-worker : goal.invariant-loop-worker
invariant-loop-worker g l = All (λ (p : PassOfHart). p.id ≡ g.N.RunName.run.book.id) l.passes.items
    × (harts_of l.passes.items ++ numbers_below (vec_len l.workers) ≡ numbers_below 8)
    × (vec_len l.passes + vec_len l.workers ≡ 8) × (8 ≤ vec_capacity l.passes)

abbrev pub decreases-loop-worker : goal.decreases-loop-worker
decreases-loop-worker g l = goal.left-loop-worker g l
