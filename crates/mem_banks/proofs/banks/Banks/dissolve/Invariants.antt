use Rattle.std.proofs.Common.{◌≡◌, ◌+◌, ◌≤◌}
use Rattle.std.specs.Prelude.{vec_len, vec_capacity}
use Rattle.access_record.specs.Buses.{ram_banks}
use Rattle.mem_banks.specs.Locked.{AreInOrder}
use Rattle.mem_banks.proofs.banks.Banks.dissolve.Given as goal

abbrev pub invariant-loop-cell : goal.invariant-loop-cell
invariant-loop-cell g l = AreInOrder g.N.RunName.run l.lines.items l.passes.items
    × (vec_len l.passes ≡ vec_len l.lines)
    × (vec_len l.cells + vec_len l.lines ≡ ram_banks g.N.RunName.run)
    × (ram_banks g.N.RunName.run ≤ vec_capacity l.cells)
    × (ram_banks g.N.RunName.run ≤ vec_capacity l.lines)
    × (g.N.RunName.run.book.limits.banks ≤ vec_capacity l.passes)

abbrev pub decreases-loop-cell : goal.decreases-loop-cell
decreases-loop-cell g l = goal.left-loop-cell g l
