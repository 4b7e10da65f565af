-- None of the harts before wants another engine.
use Rattle.std.proofs.Common.{◌<◌, ℕ, slice_index_or}
use Rattle.flex_base.specs.declared.engine.Engine.{Engine}
use Rattle.context.specs.Contexts.{Context, IsElsewhere}
use Rattle.pipeline.proofs.pipeline.first_elsewhere.Given as goal

abbrev pub invariant-loop-place : goal.invariant-loop-place
invariant-loop-place l = (k : ℕ) (d : Context) → k < l.place → (to : Engine) → IsElsewhere to (slice_index_or l.held k d) → ⊥
