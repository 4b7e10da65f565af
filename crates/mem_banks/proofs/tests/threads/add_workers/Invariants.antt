use Rattle.std.proofs.Common.{◌≡◌, ◌≤◌}
use Rattle.std.specs.Prelude.{vec_len, vec_capacity}
use Rattle.mem_banks.specs.Plain.{numbers_below}
use Rattle.mem_banks.proofs.tests.threads.add_workers.Given as goal

abbrev pub invariant-loop-hart : goal.invariant-loop-hart
invariant-loop-hart g l = (l.plain ≡ l.initial.plain) × (l.founder.id ≡ l.initial.founder.id) × (l.founder.banks ≡ l.initial.founder.banks)
    × (l.founder.harts ≡ numbers_below l.hart) × (vec_len l.workers ≡ l.hart) × (8 ≤ vec_capacity l.workers)
