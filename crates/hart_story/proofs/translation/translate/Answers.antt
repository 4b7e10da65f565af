-- Where addresses are translated at all.
use Rattle.std.proofs.Common.{sym, ◌∙◌}
use Rattle.hart_story.proofs.Walking.{translates_not}
use Rattle.hart_story.proofs.translation.translate.Goals as goal

pub returns-then-is_translated-clause-translates : goal.returns-then-is_translated-clause-translates
returns-then-is_translated-clause-translates c = λ setup budget a next of sees.
    c.by_pages.ensures.translates setup budget a next of sees (sym (c.is_translated.ensures a sees.shows) ∙ c.if-is_translated.true)

pub returns-else-is_translated-clause-translates : goal.returns-else-is_translated-clause-translates
returns-else-is_translated-clause-translates c = λ setup budget a next of sees.
    translates_not setup.ram a c.args.kind c.args.va next (sym (c.is_translated.ensures a sees.shows) ∙ c.if-is_translated.false)
