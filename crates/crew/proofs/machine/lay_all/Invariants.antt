-- What lies at its place and what is left are all, the last one first.
use Rattle.std.proofs.Common.{◌≡◌, ◌+◌, ◌≤◌, ◌++◌, map, Some}
use Rattle.std.specs.Prelude.{reverse, vec_len, vec_capacity}
use Rattle.context.specs.Contexts.{Context}
use Rattle.crew.proofs.machine.lay_all.Given as goal

abbrev pub invariant-loop-context : goal.invariant-loop-context
invariant-loop-context l = (vec_len l.contexts + vec_len l.resting ≤ vec_capacity l.resting)
    × (l.resting.items ++ reverse (map (λ (c : Context). Some c) l.contexts.items) ≡ reverse (map (λ (c : Context). Some c) l.initial.contexts.items))
    × (vec_capacity l.contexts ≡ vec_capacity l.initial.contexts)

abbrev pub decreases-loop-context : goal.decreases-loop-context
decreases-loop-context l = goal.left-loop-context l
