use Rattle.hart_story.specs.CanBegin.{CanBegin}
use Rattle.hart_story.proofs.tests.makes_instructions.Given as goal

abbrev pub invariant-made : goal.invariant-made
invariant-made g l = CanBegin 4 l.hart
