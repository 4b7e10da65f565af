-- The harts are still passing.
use Rattle.std.proofs.Common.{◌≡◌, ℕ, List}
use Rattle.context.specs.Contexts.{Context}
use Rattle.crew.specs.Passing.{IsPassing}
use Rattle.crew.proofs.pipe.drain.Given as goal

abbrev pub invariant-loop-cycle : goal.invariant-loop-cycle
invariant-loop-cycle g l = ((place : ℕ) (start : List Context) → IsPassing (g.B.Bus.run l.fn.bus) place start l.fn.contexts l.fn.latches
    → IsPassing (g.B.Bus.run l.fn.bus) place start l.contexts l.latches) × (g.B.Bus.run l.bus ≡ g.B.Bus.run l.fn.bus)
