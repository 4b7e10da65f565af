-- The bus is new, so its run is that of the image, the settings and the plan.
use Rattle.solo.proofs.Beginning.{bank_count_allowed}
use Rattle.flex_top.proofs.Running.{is_run_for}
use Rattle.flex_top.proofs.run_command.play.Goals as goal

pub new-requires-3-clause-banks : goal.new-requires-3-clause-banks
new-requires-3-clause-banks g c = bank_count_allowed c.banks.result c.banks.ensures.allowed

pub run-requires-clause-run : goal.run-requires-clause-run
run-requires-clause-run g c = λ _ _.
    let made = c.in-Ok.ensures in
    is_run_for c.in-Ok.bus.run c.args.inputs.image c.args.settings c.args.inputs.input.items c.args.inputs.plan c.banks.result made.run made.limits c.banks.ensures.count
    (bank_count_allowed c.banks.result c.banks.ensures.allowed) c.requires.lawful c.requires.fits c.requires.few
