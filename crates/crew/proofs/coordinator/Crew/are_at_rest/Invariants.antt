-- The places so far are at rest.
use Rattle.std.proofs.Common.{◌<◌, ℕ, Option, slice_index_or}
use Rattle.context.specs.Contexts.{Context}
use Rattle.crew.specs.Played.{IsAtRestAt}
use Rattle.crew.proofs.coordinator.Crew.are_at_rest.Given as goal

abbrev pub invariant-loop-place : goal.invariant-loop-place
invariant-loop-place l = (k : ℕ) (other : Option Context) → k < l.place-index → IsAtRestAt l.devices (slice_index_or l.self.resting k other)
