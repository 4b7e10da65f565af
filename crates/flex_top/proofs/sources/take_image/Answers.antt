-- The file that was taken, or why there is none.
use Rattle.std.proofs.Common.{ℕ, Some, Err, refl, ap, sym, subst, ◌∙◌}
use Rattle.flex_base.specs.Loaded.{Loaded}
use Rattle.image_loader.specs.declared.fault.ImageFault.TheVariants as image
use Rattle.flex_top.specs.Answer.{image_limit, image_from}
use Rattle.flex_top.specs.Taking.{IsRefused}
use Rattle.flex_top.specs.declared.status.Status.{Status}
use Rattle.flex_top.specs.declared.status.Status.TheVariants as status
use Rattle.flex_top.proofs.Taking.{taken_as, unread, wanting, image_long, image_taken, IsAnswered, answered}
use Rattle.flex_top.proofs.sources.take_image.Goals as goal

pub returns-in-Err-Failed-clause-refused : goal.returns-in-Err-Failed-clause-refused
returns-in-Err-Failed-clause-refused g c =
    unread Loaded (g.O.Outer.outside c.args.outer.now).held (Some c.args.name.now) (λ file. image_from file c.args.ram) refl

pub returns-in-Err-TooLong-clause-refused : goal.returns-in-Err-TooLong-clause-refused
returns-in-Err-TooLong-clause-refused g c =
    let held = (g.O.Outer.outside c.args.outer.now).held in
    let too_long = c.in-Err-TooLong.field-0-is in
    let At : ℕ → Type 0 = λ n. IsRefused Loaded held (Some c.args.name.now) (λ file. image_from file c.args.ram) (status.ImageRefused (image.TooLong n)) in
    subst At (sym c.in-Err-TooLong.n-is) (image_long held c.args.name.now c.in-Err-TooLong.n c.args.ram (taken_as held c.args.name.now image_limit _ _ too_long c.in-Err-TooLong.ensures.taken)
    (c.take.ensures.over c.in-Err-TooLong.n (c.in-Err-TooLong.is ∙ ap Err too_long)))

pub returns-in-Err-OutOfMemory-clause-refused : goal.returns-in-Err-OutOfMemory-clause-refused
returns-in-Err-OutOfMemory-clause-refused g c =
    wanting Loaded (g.O.Outer.outside c.args.outer.now).held c.args.name.now image_limit (λ file. image_from file c.args.ram)
    (taken_as (g.O.Outer.outside c.args.outer.now).held c.args.name.now image_limit _ _ c.in-Err-OutOfMemory.field-0-is c.in-Err-OutOfMemory.ensures.taken)

pub returns-in-Ok-image_of-clause-gives : goal.returns-in-Ok-image_of-clause-gives
returns-in-Ok-image_of-clause-gives g c =
    image_taken (g.O.Outer.outside c.args.outer.now).held c.args.name.now c.in-Ok.file.items c.args.ram c.in-Ok-image_of.image c.in-Ok.ensures.taken c.in-Ok.ensures.within c.in-Ok-image_of.ensures.image

pub returns-in-Err-clause-refused : goal.returns-in-Err-clause-refused
returns-in-Err-clause-refused g c =
    let held = (g.O.Outer.outside c.args.outer.now).held in
    let At : Status → Type 0 = λ why. IsAnswered held c.args.name.now c.args.ram why in
    (subst At (sym c.answer_to.ensures) (answered held c.args.name.now c.in-Ok.file.items c.args.ram c.in-Err.fault c.in-Ok.ensures.taken c.in-Ok.ensures.within c.in-Err.ensures.refused)).0

pub returns-in-Err-clause-refusal : goal.returns-in-Err-clause-refusal
returns-in-Err-clause-refusal g c =
    let held = (g.O.Outer.outside c.args.outer.now).held in
    let At : Status → Type 0 = λ why. IsAnswered held c.args.name.now c.args.ram why in
    (subst At (sym c.answer_to.ensures) (answered held c.args.name.now c.in-Ok.file.items c.args.ram c.in-Err.fault c.in-Ok.ensures.taken c.in-Ok.ensures.within c.in-Err.ensures.refused)).1
