-- The files are those that the words name, taken one after another.
use Rattle.std.proofs.Common.{ℕ, List, Option, Some, subst}
use Rattle.flex_base.specs.Files.{Files}
use Rattle.flex_base.specs.Loaded.{Loaded}
use Rattle.transplant_plan.specs.Shown.{shown}
use Rattle.flex_top.specs.Answer.{image_from, input_from}
use Rattle.flex_top.specs.Taking.{Gives, IsRefused}
use Rattle.flex_top.specs.Words.{reading_of_command}
use Rattle.flex_top.proofs.Doing.{reads_after, plan_is_refused, image_is_refused, input_is_refused}
use Rattle.flex_top.proofs.sources.take_inputs.Goals as goal

pub returns-in-Err-clause-refused : goal.returns-in-Err-clause-refused
returns-in-Err-clause-refused g c =
    let command = reading_of_command c.args.command.now in
    plan_is_refused command (g.O.Outer.outside c.args.outer.now).held c.in-Err.refusal c.in-Err.ensures.refused c.in-Err.ensures.refusal

pub returns-in-Err-take_image-clause-refused : goal.returns-in-Err-take_image-clause-refused
returns-in-Err-take_image-clause-refused g c =
    let command = reading_of_command c.args.command.now in
    let planned = c.in-Ok.ensures in
    let took = c.in-Err-take_image.ensures in
    let Held : Option Files → Type 0 = λ h. IsRefused Loaded h (Some command.image) (λ file. image_from file command.settings.ram) c.in-Err-take_image.refusal in
    image_is_refused command (g.O.Outer.outside c.args.outer.now).held (shown c.in-Ok.plan) c.in-Err-take_image.refusal planned.gives (subst Held planned.frame.held took.refused) took.refusal

pub returns-in-Err-take_input-clause-refused : goal.returns-in-Err-take_input-clause-refused
returns-in-Err-take_input-clause-refused g c =
    let command = reading_of_command c.args.command.now in
    let old = g.O.Outer.outside c.args.outer.now in
    let first = g.O.Outer.outside c.take_plan.new.outer in
    let mid = g.O.Outer.outside c.take_image.new.outer in
    let planned = c.in-Ok.ensures in
    let gave = c.in-Ok-take_image.ensures in
    let took = c.in-Err-take_input.ensures in
    let start = gave.gives.start in
    let Image_held : Option Files → Type 0 = λ h. Gives Loaded h (Some command.image) (λ file. image_from file command.settings.ram) start in
    let Held : Option Files → Type 0 = λ h. IsRefused (List ℕ) h command.input input_from c.in-Err-take_input.refusal in
    let read = reads_after old first mid _ _ planned.frame (λ fails. cc) gave.frame in
    input_is_refused command old.held (shown c.in-Ok.plan) start c.in-Err-take_input.refusal planned.gives (subst Image_held planned.frame.held gave.gives.gives)
    (subst Held read.held took.refused) took.refusal
