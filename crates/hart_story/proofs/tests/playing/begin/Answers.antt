-- A hart at the beginning of an instruction is in a story.
use Rattle.flex_base.specs.Unsplit.{instruction_from}
use Rattle.hart_story.proofs.Beginning.{setup_of, state_of, leaves_in, begun_in}
use Rattle.hart_story.proofs.tests.playing.begin.Goals as goal

pub returns : goal.returns
returns g c =
    let hart = c.args.hart.now in
    let (fit, kept) = c.requires.fit in
    let found = leaves_in hart.kept kept in (
      setup_of c.args.layout.now c.args.budget,
      instruction_from (state_of hart found.leaves),
      begun_in hart c.begin.result c.args.layout.now c.args.budget found c.begin.ensures c.requires.layout c.assert_fit.ensures,
    )
