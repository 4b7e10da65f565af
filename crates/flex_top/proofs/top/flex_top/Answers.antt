-- The files are those that the words name, and the run is theirs.
use Rattle.std.proofs.Common.{subst, ◌∙◌}
use Rattle.transplant_plan.specs.Shown.{shown}
use Rattle.flex_base.proofs.EndOfRun.{run_goes_on}
use Rattle.flex_top.specs.Answer.{setup_of, outcome_of_run, IsOutcome}
use Rattle.flex_top.specs.Does.{Does}
use Rattle.flex_top.specs.Words.{Reading, reading_of_command}
use Rattle.flex_top.specs.declared.sources.Inputs.{Inputs}
use Rattle.flex_top.proofs.Doing.{read_failed, some_same, does_refuse, does_run, outcome_solo}
use Rattle.flex_top.proofs.Writing.{run_whole, splits_alike}
use Rattle.flex_top.proofs.top.flex_top.Goals as goal

pub returns-in-Ok-clause-does : goal.returns-in-Ok-clause-does
returns-in-Ok-clause-does g c = λ r reads.
    let command = reading_of_command c.in-Some.command in
    let old = g.O.Outer.outside c.args.outer.now in
    let mid = g.O.Outer.outside c.take_inputs.new.outer in
    let new = g.O.Outer.outside c.solo.new.outer in
    let took = c.in-Ok.ensures in
    let ran = c.solo.ensures in
    let inputs = c.in-Ok.inputs in
    let start = took.given.image.start in
    let of_run = outcome_of_run command (shown inputs.plan).engines (setup_of start inputs.input.items command.settings) in
    let For : Reading → Type 0 = λ x. Does (IsOutcome x) x old c.solo.result new in
    subst For (some_same command r (c.in-Some.ensures.reading ∙ reads))
    (does_run (IsOutcome command) command old mid new inputs c.solo.result _ took.given took.frame ran.answer
    (λ at. record { outcome = of_run; is = outcome_solo command old.held inputs took.given; left = ran.ended start took.given.image.same at })
    (λ at. record { outcome = of_run; is = outcome_solo command old.held inputs took.given; left = ran.cut start took.given.image.same at })
    ran.nothing ran.others ran.frame)

pub returns-in-Err-clause-does : goal.returns-in-Err-clause-does
returns-in-Err-clause-does g c = λ r reads.
    let command = reading_of_command c.in-Some.command in
    let old = g.O.Outer.outside c.args.outer.now in
    let new = g.O.Outer.outside c.take_inputs.new.outer in
    let took = c.in-Err.ensures in
    let For : Reading → Type 0 = λ x. Does (IsOutcome x) x old c.in-Err.refusal new in
    subst For (some_same command r (c.in-Some.ensures.reading ∙ reads))
    (does_refuse (IsOutcome command) command old new c.in-Err.refusal took.refused took.refusal (read_failed Inputs old new c.in-Err.refusal took.frame))

pub returns-in_default-clause-whole : goal.returns-in_default-clause-whole
returns-in_default-clause-whole g c = λ plan setup order some. run_whole plan setup order some

pub returns-in_default-clause-goes_on : goal.returns-in_default-clause-goes_on
returns-in_default-clause-goes_on g c = λ setup order some. run_goes_on setup order some

pub returns-in_default-clause-split : goal.returns-in_default-clause-split
returns-in_default-clause-split g c = λ r setup one other. splits_alike r setup one other

pub returns-in-Err-clause-whole : goal.returns-in-Err-clause-whole
returns-in-Err-clause-whole g c = λ plan setup order some. run_whole plan setup order some

pub returns-in-Err-clause-goes_on : goal.returns-in-Err-clause-goes_on
returns-in-Err-clause-goes_on g c = λ setup order some. run_goes_on setup order some

pub returns-in-Err-clause-split : goal.returns-in-Err-clause-split
returns-in-Err-clause-split g c = λ r setup one other. splits_alike r setup one other

pub returns-in-Ok-clause-whole : goal.returns-in-Ok-clause-whole
returns-in-Ok-clause-whole g c = λ plan setup order some. run_whole plan setup order some

pub returns-in-Ok-clause-goes_on : goal.returns-in-Ok-clause-goes_on
returns-in-Ok-clause-goes_on g c = λ setup order some. run_goes_on setup order some

pub returns-in-Ok-clause-split : goal.returns-in-Ok-clause-split
returns-in-Ok-clause-split g c = λ r setup one other. splits_alike r setup one other
