-- It stands for no leaf.
use Rattle.std.proofs.Common.{[]}
use Rattle.hart_story.proofs.Beginning.{are_kept}
use Rattle.hart_story.proofs.tests.nothing_kept.Goals as goal

pub returns : goal.returns
returns c = are_kept _ [] c.new.ensures tt
