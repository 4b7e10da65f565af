-- What is taken so far and what is left are the whole, and what is known of all that are left is known of all.
use Rattle.std.proofs.Common.{◌≡◌, ◌+◌, ◌≤◌, ◌++◌, map}
use Rattle.std.specs.Prelude.{reverse, vec_len, vec_capacity}
use Rattle.context.specs.Contexts.{Context, IsContext}
use Rattle.solo.proofs.Taking.{AllHave}
use Rattle.solo.proofs.room.take_apart.Given as goal

abbrev pub invariant-loop-context : goal.invariant-loop-context
invariant-loop-context l = (vec_len l.contexts + vec_len l.parts.harts ≤ vec_capacity l.parts.harts)
    × (vec_len l.contexts + vec_len l.parts.logs ≤ vec_capacity l.parts.logs)
    × (vec_len l.contexts + vec_len l.parts.passes ≤ vec_capacity l.parts.passes)
    × (l.parts.harts.items ++ reverse (map (λ (c : Context). c.hart) l.contexts.items) ≡ reverse (map (λ (c : Context). c.hart) l.initial.contexts.items))
    × (l.parts.logs.items ++ reverse (map (λ (c : Context). c.log) l.contexts.items) ≡ reverse (map (λ (c : Context). c.log) l.initial.contexts.items))
    × (l.parts.passes.items ++ reverse (map (λ (c : Context). c.pass) l.contexts.items) ≡ reverse (map (λ (c : Context). c.pass) l.initial.contexts.items))
    × (AllHave IsContext l.contexts.items → AllHave IsContext l.initial.contexts.items)

abbrev pub decreases-loop-context : goal.decreases-loop-context
decreases-loop-context l = goal.left-loop-context l
