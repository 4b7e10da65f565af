use Rattle.hart_story.specs.CanBegin.{CanBegin}
use Rattle.hart_story.proofs.tests.translations.seventeen_pages_have_sixteen_places.Given as goal

abbrev pub invariant-walks : goal.invariant-walks
invariant-walks g l = CanBegin 4 l.hart

abbrev pub invariant-kept : goal.invariant-kept
invariant-kept g l = CanBegin 4 l.hart
