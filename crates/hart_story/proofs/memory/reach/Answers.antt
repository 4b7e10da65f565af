-- An aligned address is translated, and the instruction goes on by what that has come to.
use Rattle.std.proofs.Common.{◌%◌, Bool, if◌then◌else◌, ap, sym, ◌∙◌, eq-eqb}
use Rattle.flex_base.specs.Causes.{misaligned}
use Rattle.flex_base.specs.State.{State}
use Rattle.flex_base.specs.Ends.{traps}
use Rattle.flex_base.specs.Translating.{translates}
use Rattle.flex_base.specs.declared.translation.Kind.{Kind}
use Rattle.hart_story.specs.Memory.{kind_of, reaching}
use Rattle.hart_story.specs.Stage.{stage_of}
use Rattle.hart_story.specs.Translated.{translated_of}
use Rattle.hart_story.proofs.memory.reach.Goals as goal

pub returns-clause-reaches : goal.returns-clause-reaches
returns-clause-reaches c = λ setup budget a of seen.
    ap (λ (b : Bool). if b
    then translates setup.ram a (kind_of c.args.work.op) c.args.work.address (reaching c.args.work setup)
    else traps a (misaligned (kind_of c.args.work.op)) c.args.work.address)
    (eq-eqb (c.args.work.address % c.args.work.width) 0 c.if-work-ne0.false)
    ∙ ap (λ (k : Kind). translates setup.ram a k c.args.work.address (reaching c.args.work setup))
    (sym c.kind_of-kind.ensures)
    ∙ c.translate-came.ensures.translates setup budget a (reaching c.args.work setup) of seen
    ∙ ap (λ (k : Kind). translated_of setup.ram a k c.args.work.address (reaching c.args.work setup) c.translate-came.result)
    c.kind_of-kind.ensures
    ∙ c.set_access_stage.ensures.goes setup budget a of seen.shows
    ∙ ap (λ (b : State). stage_of setup b c.set_access_stage.new.stage) (c.translate-came.ensures.same a)

pub returns-clause-sound : goal.returns-clause-sound
returns-clause-sound c = λ count few. c.set_access_stage.ensures.sound count
    (record {
      of_memory = c.requires;
      aligned = eq-eqb (c.args.work.address % c.args.work.width) 0 c.if-work-ne0.false;
    })
    c.translate-came.ensures.sound (λ walks. few)
