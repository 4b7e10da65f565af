-- Nothing is made so far, and the instruction has moved on by so many latches.
use Rattle.std.proofs.Common.{◌≡◌, [], ◌∷◌}
use Rattle.pipeline.specs.Pipes.{AreInFlight}
use Rattle.solo.proofs.Flying.{IsPast}
use Rattle.solo.proofs.engines.move_on.Given as goal

abbrev pub invariant-loop : goal.invariant-loop
invariant-loop g l = record {
  same : l.context ≡ l.fn.context;
  history : g.B.Bus.history l.bus ≡ g.B.Bus.history l.fn.bus;
  run : g.B.Bus.run l.bus ≡ g.B.Bus.run l.fn.bus;
  flying : AreInFlight (l.context ∷ []) l.latches;
  past : IsPast l.latches l.counter;
}
