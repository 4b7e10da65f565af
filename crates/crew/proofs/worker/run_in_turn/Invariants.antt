-- The harts so far have worked.
use Rattle.std.proofs.Common.{◌≡◌, ◌≤◌, length, vec_capacity}
use Rattle.crew.specs.Crews.{HasWorked, most_ends}
use Rattle.crew.proofs.Counting.{HasChanged}
use Rattle.crew.proofs.worker.run_in_turn.Given as goal

abbrev pub invariant-loop-place : goal.invariant-loop-place
invariant-loop-place g l = HasChanged (HasWorked (g.B.Bus.run l.initial.bus) (most_ends l.engine)) l.place l.initial.contexts.items l.contexts.items
    × (l.place ≤ length l.initial.contexts.items)
    × (vec_capacity l.contexts ≡ vec_capacity l.initial.contexts)
    × (g.B.Bus.run l.bus ≡ g.B.Bus.run l.initial.bus)
