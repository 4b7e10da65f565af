-- The reply that the hart is given leads its story on.
use Rattle.std.proofs.Common.{◌∷◌, [], ◌++◌, false}
use Rattle.flex_base.specs.StoryTree.{Story, goes}
use Rattle.flex_base.specs.Story.{story}
use Rattle.flex_base.specs.Setup.{Setup}
use Rattle.flex_base.specs.Unsplit.{Instruction}
use Rattle.flex_base.specs.declared.access.Access.TheVariants as acc
use Rattle.hart_story.proofs.Needing.{needs_asked, needs_pulse}
use Rattle.hart_story.proofs.tests.playing.answer.Goals as goal

-- where the replies have led the hart
abbrev here : Setup → Instruction → Story
here setup i = goes (story setup i.state) i.replies

pub give-requires : goal.give-requires
give-requires g c =
    let (setup, i, at) = c.requires in
    let asks = needs_asked c.in-Ask.access c.in-Ask.field-1 (here setup i) (c.in-Ask.ensures.told setup i at) in
    (setup, i, c.in-Ask.access, at, asks, c.assert_form.ensures)

pub returns-in-Ask : goal.returns-in-Ask
returns-in-Ask g c =
    let (setup, i, at) = c.requires in
    let asks = needs_asked c.in-Ask.access c.in-Ask.field-1 (here setup i) (c.in-Ask.ensures.told setup i at) in
    (setup, (record i { replies = i.replies ++ c.args.reply ∷ [] }), c.give.ensures.reached setup i c.in-Ask.access at asks)

pub give-requires-in-Parked : goal.give-requires-in-Parked
give-requires-in-Parked g c =
    let (setup, i, at) = c.requires in
    let asks = needs_pulse (here setup i) (c.in-Parked.ensures.told setup i at) in
    (setup, i, acc.Pulse false, at, asks, c.assert_lines.ensures)

pub returns-in-Parked : goal.returns-in-Parked
returns-in-Parked g c =
    let (setup, i, at) = c.requires in
    let asks = needs_pulse (here setup i) (c.in-Parked.ensures.told setup i at) in
    (setup, (record i { replies = i.replies ++ c.args.reply ∷ [] }), c.give-in-Parked.ensures.reached setup i (acc.Pulse false) at asks)
