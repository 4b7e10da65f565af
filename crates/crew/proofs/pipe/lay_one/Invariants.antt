-- The harts are still passing, and this one has not had its turn.
use Rattle.std.proofs.Common.{◌≡◌, List, length}
use Rattle.context.specs.Contexts.{Context}
use Rattle.crew.specs.Passing.{IsPassing}
use Rattle.crew.proofs.pipe.lay_one.Given as goal

abbrev pub invariant-loop-cycle : goal.invariant-loop-cycle
invariant-loop-cycle g l = ((start : List Context) → IsPassing (g.B.Bus.run l.fn.bus) l.place start l.fn.contexts l.fn.latches
    → IsPassing (g.B.Bus.run l.fn.bus) l.place start l.contexts l.latches)
    × (length l.contexts ≡ length l.fn.contexts) × (g.B.Bus.run l.bus ≡ g.B.Bus.run l.fn.bus)
