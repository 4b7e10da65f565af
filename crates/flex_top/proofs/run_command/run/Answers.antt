-- What is left is an outcome of the run of each image with the same start.
use Rattle.std.proofs.Common.{refl}
use Rattle.flex_base.specs.Journal.{order_of}
use Rattle.flex_base.specs.Unsplit.{reach}
use Rattle.flex_top.specs.Answer.{setup_of}
use Rattle.flex_top.specs.Ended.{outcome_at}
use Rattle.flex_top.specs.Words.{reading_of_command}
use Rattle.flex_top.proofs.Ended.{run_outcome}
use Rattle.flex_top.proofs.run_command.run.Goals as goal

pub conclude-requires-clause-ended : goal.conclude-requires-clause-ended
conclude-requires-clause-ended g c =
    let setup = setup_of c.args.inputs.image c.args.inputs.input.items c.args.command.now.settings in
    let ran = c.in-Ok.ensures in
    (ran.journal, setup, reach setup (order_of ran.journal), refl, ran.left)

pub returns-clause-ended : goal.returns-clause-ended
returns-clause-ended g c = λ start same at.
    let command = c.args.command.now in
    let inputs = c.args.inputs in
    let setup = setup_of inputs.image inputs.input.items command.settings in
    let ran = c.in-Ok.ensures in
    let u = reach setup (order_of ran.journal) in
    record {
      outcome = outcome_at ran.journal setup u command.trace.now;
      is = run_outcome inputs.plan (reading_of_command command) start inputs.image inputs.input.items command.settings _ same ran;
      left = c.conclude.ensures.ended ran.journal setup u refl ran.left at;
    }

pub returns-clause-cut : goal.returns-clause-cut
returns-clause-cut g c = λ start same at.
    let command = c.args.command.now in
    let inputs = c.args.inputs in
    let setup = setup_of inputs.image inputs.input.items command.settings in
    let ran = c.in-Ok.ensures in
    let u = reach setup (order_of ran.journal) in
    record {
      outcome = outcome_at ran.journal setup u command.trace.now;
      is = run_outcome inputs.plan (reading_of_command command) start inputs.image inputs.input.items command.settings _ same ran;
      left = c.conclude.ensures.cut ran.journal setup u refl ran.left at;
    }
