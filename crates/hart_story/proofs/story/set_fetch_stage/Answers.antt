-- The fetch at the address that the translation has come to.
use Rattle.std.proofs.Common.{◌≡◌, ◌%◌, ap, sym, subst, ◌∙◌}
use Rattle.flex_base.specs.State.{State}
use Rattle.flex_base.specs.Translation.{IsLeaf}
use Rattle.flex_base.specs.Translating.{with_leaf}
use Rattle.flex_base.specs.Story.{fetches_at}
use Rattle.flex_base.specs.declared.translation.Kind.TheVariants as kind
use Rattle.hart_story.specs.Stage.{stage_of}
use Rattle.hart_story.specs.Translated.{translated_of, state_after, IsSoundTranslated}
use Rattle.hart_story.specs.declared.translation.Translated.{Translated}
use Rattle.hart_story.proofs.Seeing.{shows_with, aligned_in_page}
use Rattle.hart_story.proofs.story.set_fetch_stage.Goals as goal

pub returns-in-To-clause-sound : goal.returns-in-To-clause-sound
returns-in-To-clause-sound c = λ count aligned sound entries few.
    let pc = c.args.hart.now.regs.pc in
    let Sound : Translated → Type 0 = λ t. IsSoundTranslated c.args.layout.now.ram pc t in
    let same : c.in-To.address % 4096 ≡ pc % 4096 = subst Sound c.in-To.is sound in
    c.fetch_at.ensures.sound count (aligned_in_page c.in-To.address pc same aligned) few

pub returns-in-Found-clause-goes : goal.returns-in-Found-clause-goes
returns-in-Found-clause-goes c = λ setup budget a of shown.
    let leaf = c.in-Found.field-1 in
    let found : State = with_leaf a leaf in
    ap (translated_of setup.ram a kind.Fetch a.pc (fetches_at setup)) c.in-Found.is
    ∙ c.fetch_at-in-Found.ensures.fetches setup budget found of (shows_with c.args.hart.now a found.leaves shown)
    ∙ ap (λ t. stage_of setup (state_after a t) c.fetch_at-in-Found.new.stage) (sym c.in-Found.is)

pub returns-in-Found-clause-sound : goal.returns-in-Found-clause-sound
returns-in-Found-clause-sound c = λ count aligned sound entries few.
    let pc = c.args.hart.now.regs.pc in
    let Sound : Translated → Type 0 = λ t. IsSoundTranslated c.args.layout.now.ram pc t in
    let same : (c.in-Found.address % 4096 ≡ pc % 4096) × IsLeaf c.in-Found.field-1 = subst Sound c.in-Found.is sound in
    c.fetch_at-in-Found.ensures.sound count (aligned_in_page c.in-Found.address pc same.0 aligned) few
