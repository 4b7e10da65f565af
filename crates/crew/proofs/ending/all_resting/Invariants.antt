-- What is taken so far and what is left are the whole, and a context lies at each place that is left.
use Rattle.std.proofs.Common.{◌≡◌, ◌+◌, ◌≤◌, ◌++◌, map, Some}
use Rattle.std.specs.Prelude.{reverse, vec_len, vec_capacity}
use Rattle.context.specs.Contexts.{Context}
use Rattle.crew.specs.Crews.{AreAllResting}
use Rattle.crew.proofs.ending.all_resting.Given as goal

abbrev pub invariant-loop-place : goal.invariant-loop-place
invariant-loop-place l = (vec_len l.resting + vec_len l.contexts ≤ vec_capacity l.contexts)
    × AreAllResting l.resting.items
    × (map (λ (c : Context). Some c) l.contexts.items ++ reverse l.resting.items ≡ reverse l.initial.resting.items)

abbrev pub decreases-loop-place : goal.decreases-loop-place
decreases-loop-place l = goal.left-loop-place l
