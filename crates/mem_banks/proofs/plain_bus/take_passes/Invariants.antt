use Rattle.std.proofs.Common.{◌≡◌, ◌+◌, ◌≤◌, ◌++◌}
use Rattle.std.specs.Prelude.{vec_len, vec_capacity}
use Rattle.mem_banks.specs.End.{AreHeld, passes_down}
use Rattle.mem_banks.proofs.plain_bus.take_passes.Given as goal

abbrev pub invariant-loop-slot : goal.invariant-loop-slot
invariant-loop-slot l = AreHeld l.slots.items × (vec_len l.slots + vec_len l.room ≤ vec_capacity l.room)
    × (l.room.items ++ passes_down l.slots.items (vec_len l.slots)
    ≡ passes_down l.initial.slots.items (vec_len l.initial.slots))

abbrev pub decreases-loop-slot : goal.decreases-loop-slot
decreases-loop-slot l = goal.left-loop-slot l
