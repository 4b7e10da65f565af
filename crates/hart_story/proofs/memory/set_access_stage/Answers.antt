-- At its physical address, which a walk may just have found.
use Rattle.std.proofs.Common.{◌≡◌, sym, subst}
use Rattle.flex_base.specs.Translating.{with_leaf}
use Rattle.hart_story.specs.Memory.{kind_of, reaching}
use Rattle.hart_story.specs.Stage.{stage_of}
use Rattle.hart_story.specs.Translated.{translated_of, state_after, IsSoundTranslated}
use Rattle.hart_story.specs.declared.translation.Translated.{Translated}
use Rattle.hart_story.specs.declared.translation.Translated.TheVariants as translated
use Rattle.hart_story.proofs.Placing.{has_width, aligned_in_page, shows_with_leaf}
use Rattle.hart_story.proofs.memory.set_access_stage.Goals as goal

pub returns-in-To-clause-goes : goal.returns-in-To-clause-goes
returns-in-To-clause-goes c = λ setup budget a of shown.
    let Goes : Translated → Type 0 = λ came.
    translated_of setup.ram a (kind_of c.args.work.op) c.args.work.address (reaching c.args.work setup) came
    ≡ stage_of setup (state_after a came) c.place.new.stage in
    subst Goes (sym c.in-To.is) (c.place.ensures.places setup budget a of shown)

pub returns-in-Found-clause-goes : goal.returns-in-Found-clause-goes
returns-in-Found-clause-goes c = λ setup budget a of shown.
    let Goes : Translated → Type 0 = λ came.
    translated_of setup.ram a (kind_of c.args.work.op) c.args.work.address (reaching c.args.work setup) came
    ≡ stage_of setup (state_after a came) c.place-in-Found.new.stage in
    subst Goes (sym c.in-Found.is) (c.place-in-Found.ensures.places setup budget (with_leaf a c.in-Found.field-1) of
    (shows_with_leaf c.args.hart.now a c.in-Found.field-1 shown))

pub returns-in-To-clause-sound : goal.returns-in-To-clause-sound
returns-in-To-clause-sound c = λ count aligned sound walks.
    let Sound : Translated → Type 0 = λ came. IsSoundTranslated c.args.layout.now.ram c.args.work.address came in
    let came : Sound (translated.To c.in-To.address) = subst Sound c.in-To.is sound in
    c.place.ensures.sound count (aligned_in_page c.args.work.width c.in-To.address c.args.work.address
    (has_width c.args.work.op c.args.work.width c.requires.width) came aligned.aligned)

pub returns-in-Found-clause-sound : goal.returns-in-Found-clause-sound
returns-in-Found-clause-sound c = λ count aligned sound walks.
    let Sound : Translated → Type 0 = λ came. IsSoundTranslated c.args.layout.now.ram c.args.work.address came in
    let came : Sound (translated.Found c.in-Found.address c.in-Found.field-1) = subst Sound c.in-Found.is sound in
    c.place-in-Found.ensures.sound count (aligned_in_page c.args.work.width c.in-Found.address c.args.work.address
    (has_width c.args.work.op c.args.work.width c.requires.width) came.0 aligned.aligned)
