-- The order and then the rounds are played, and what is left is the outcome of the run of each image with the same start.
use Rattle.std.proofs.Common.{◌≡◌, map, refl, subst, ◌∙◌}
use Rattle.flex_top.specs.Answer.{Outcome, setup_of}
use Rattle.flex_top.specs.Does.{Leaves, LeavesPart}
use Rattle.flex_top.specs.Words.{hart_of, reading_of_command}
use Rattle.flex_top.proofs.Ended.{played, outcome_played}
use Rattle.flex_top.proofs.Writing.{split_of}
use Rattle.flex_top.proofs.solo_command.solo.Goals as goal

pub play-requires : goal.play-requires
play-requires g c =
    let setup = setup_of c.args.inputs.image c.args.inputs.input.items c.args.command.now.settings in
    record { at = (setup, c.in-Ok.ensures.at) }

pub finish-requires : goal.finish-requires
finish-requires g c =
    let setup = setup_of c.args.inputs.image c.args.inputs.input.items c.args.command.now.settings in
    let out = c.play.ensures.at setup c.in-Ok.ensures.at in
    record { ended = (setup, played setup c.deref.result.now, out.at, out.ended) }

pub conclude-requires-clause-ended : goal.conclude-requires-clause-ended
conclude-requires-clause-ended g c =
    let setup = setup_of c.args.inputs.image c.args.inputs.input.items c.args.command.now.settings in
    let out = c.play.ensures.at setup c.in-Ok.ensures.at in
    let u = played setup c.deref.result.now in
    (split_of c.play.new.machine.plan setup u, setup, u, refl, c.finish.ensures setup u out.at out.ended)

pub returns-clause-ended : goal.returns-clause-ended
returns-clause-ended g c = λ start same at.
    let command = c.args.command.now in
    let inputs = c.args.inputs in
    let setup = setup_of inputs.image inputs.input.items command.settings in
    let u = played setup c.deref.result.now in
    let ready = c.in-Ok.ensures in
    let out = c.play.ensures.at setup ready.at in
    let left = c.conclude.ensures.ended (split_of c.play.new.machine.plan setup u) setup u refl (c.finish.ensures setup u out.at out.ended) at in
    let plan = c.play.ensures.plan ∙ ready.plan_is in
    let names : c.deref.result.now ≡ map hart_of command.order.now = c.deref.ensures.value ∙ ready.order in
    let All : Outcome → Type 0 = λ o. Leaves o (g.O.Outer.outside c.args.outer.now) (g.O.Outer.outside c.conclude.new.outer) in
    subst All (outcome_played c.play.new.machine.plan inputs.plan (reading_of_command command) start inputs.image inputs.input.items command.settings c.deref.result.now plan same names) left

pub returns-clause-cut : goal.returns-clause-cut
returns-clause-cut g c = λ start same at.
    let command = c.args.command.now in
    let inputs = c.args.inputs in
    let setup = setup_of inputs.image inputs.input.items command.settings in
    let u = played setup c.deref.result.now in
    let ready = c.in-Ok.ensures in
    let out = c.play.ensures.at setup ready.at in
    let left = c.conclude.ensures.cut (split_of c.play.new.machine.plan setup u) setup u refl (c.finish.ensures setup u out.at out.ended) at in
    let plan = c.play.ensures.plan ∙ ready.plan_is in
    let names : c.deref.result.now ≡ map hart_of command.order.now = c.deref.ensures.value ∙ ready.order in
    let Part : Outcome → Type 0 = λ o. LeavesPart o (g.O.Outer.outside c.args.outer.now) (g.O.Outer.outside c.conclude.new.outer) in
    subst Part (outcome_played c.play.new.machine.plan inputs.plan (reading_of_command command) start inputs.image inputs.input.items command.settings c.deref.result.now plan same names) left
