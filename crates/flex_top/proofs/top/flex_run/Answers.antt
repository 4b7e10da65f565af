-- The files are those that the words name, and the run is theirs.
use Rattle.std.proofs.Common.{subst, ◌∙◌}
use Rattle.flex_top.specs.Answer.{IsOutcomeOfRun}
use Rattle.flex_top.specs.Does.{Does}
use Rattle.flex_top.specs.Words.{Reading, reading_of_command}
use Rattle.flex_top.specs.declared.sources.Inputs.{Inputs}
use Rattle.flex_top.proofs.Doing.{read_failed, some_same, does_refuse, does_run, outcome_run}
use Rattle.flex_top.proofs.top.flex_run.Goals as goal

pub returns-in-Ok-clause-does : goal.returns-in-Ok-clause-does
returns-in-Ok-clause-does g c = λ r reads.
    let command = reading_of_command c.in-Some.command in
    let old = g.O.Outer.outside c.args.outer.now in
    let mid = g.O.Outer.outside c.take_inputs.new.outer in
    let new = g.O.Outer.outside c.run.new.outer in
    let took = c.in-Ok.ensures in
    let ran = c.run.ensures in
    let inputs = c.in-Ok.inputs in
    let start = took.given.image.start in
    let For : Reading → Type 0 = λ x. Does (IsOutcomeOfRun x) x old c.run.result new in
    subst For (some_same command r (c.in-Some.ensures.reading ∙ reads))
    (does_run (IsOutcomeOfRun command) command old mid new inputs c.run.result _ took.given took.frame ran.answer
    (λ at. let one = ran.ended start took.given.image.same at in record { outcome = one.outcome; is = outcome_run command old.held inputs took.given one.outcome one.is; left = one.left })
    (λ at. let one = ran.cut start took.given.image.same at in record { outcome = one.outcome; is = outcome_run command old.held inputs took.given one.outcome one.is; left = one.left })
    ran.nothing ran.others ran.frame)

pub returns-in-Err-clause-does : goal.returns-in-Err-clause-does
returns-in-Err-clause-does g c = λ r reads.
    let command = reading_of_command c.in-Some.command in
    let old = g.O.Outer.outside c.args.outer.now in
    let new = g.O.Outer.outside c.take_inputs.new.outer in
    let took = c.in-Err.ensures in
    let For : Reading → Type 0 = λ x. Does (IsOutcomeOfRun x) x old c.in-Err.refusal new in
    subst For (some_same command r (c.in-Some.ensures.reading ∙ reads))
    (does_refuse (IsOutcomeOfRun command) command old new c.in-Err.refusal took.refused took.refusal (read_failed Inputs old new c.in-Err.refusal took.frame))
