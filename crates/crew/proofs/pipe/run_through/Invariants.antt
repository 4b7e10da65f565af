-- So many passes were made.
use Rattle.std.proofs.Common.{◌≡◌}
use Rattle.crew.specs.Crews.{HaveWorked}
use Rattle.crew.proofs.pipe.run_through.Given as goal

abbrev pub invariant-loop-pass : goal.invariant-loop-pass
invariant-loop-pass g l = HaveWorked (g.B.Bus.run l.fn.bus) l._pass l.fn.contexts l.contexts × (g.B.Bus.run l.bus ≡ g.B.Bus.run l.fn.bus)
