use Rattle.flex_base.specs.Csrs.{AreFit}
use Rattle.hart_story.proofs.tests.written.Given as goal

abbrev pub invariant-writes : goal.invariant-writes
invariant-writes l = AreFit 4 l.fn.csrs → AreFit 4 l.after
