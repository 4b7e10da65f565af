use Rattle.std.proofs.Common.{◌≡◌, ◌+◌, ◌≤◌}
use Rattle.std.specs.Prelude.{vec_len, vec_capacity}
use Rattle.access_record.specs.Buses.{ram_banks}
use Rattle.mem_banks.specs.Locked.{AreInOrder}
use Rattle.mem_banks.proofs.banks.Banks.renew.Given as goal

abbrev pub invariant-loop-bank : goal.invariant-loop-bank
invariant-loop-bank g l = AreInOrder g.N.RunName.run l.lines.items l.passes.items
    × (vec_len l.passes ≡ vec_len l.lines)
    × (vec_len l.cells + vec_len l.lines ≡ ram_banks g.N.RunName.run)
    × (ram_banks g.N.RunName.run ≤ vec_capacity l.cells)
    × (ram_banks g.N.RunName.run ≤ vec_capacity l.lines)
    × (g.N.RunName.run.book.limits.banks ≤ vec_capacity l.passes)

abbrev pub decreases-loop-bank : goal.decreases-loop-bank
decreases-loop-bank g l = vec_len l.lines
