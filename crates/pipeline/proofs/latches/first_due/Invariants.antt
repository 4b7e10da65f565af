-- None of the harts before may start.
use Rattle.pipeline.specs.Pipes.{NoneMayStart, flights_in}
use Rattle.pipeline.proofs.latches.first_due.Given as goal

abbrev pub invariant-loop-place : goal.invariant-loop-place
invariant-loop-place l = NoneMayStart l.held (flights_in l.slots) l.from l.place
