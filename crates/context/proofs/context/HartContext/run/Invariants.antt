-- Each event takes a place of the log.
use Rattle.std.proofs.Common.{◌≡◌}
use Rattle.context.proofs.Running.{IsRunning}
use Rattle.context.proofs.context.HartContext.run.Given as goal

abbrev pub invariant-loop-self : goal.invariant-loop-self
invariant-loop-self g l =
    IsRunning (g.B.Bus.run l.initial.bus) (g.B.Bus.history l.initial.bus) (g.B.Bus.history l.bus) l.least l.initial.self l.self
    × (g.B.Bus.run l.bus ≡ g.B.Bus.run l.initial.bus)

abbrev pub decreases-loop-self : goal.decreases-loop-self
decreases-loop-self g l = l.self.log.room
