-- Each entry leads on by one in the story.
use Rattle.std.proofs.Common.{◌≡◌, ◌≤◌, true, ap, sym, subst, ◌∙◌, arith, ◌++◌}
use Rattle.flex_base.specs.State.{State}
use Rattle.flex_base.specs.StoryTree.{after_one}
use Rattle.flex_base.specs.Story.{fetches_at}
use Rattle.flex_base.specs.Word.{is_multiple}
use Rattle.flex_base.specs.declared.translation.Kind.TheVariants as kind
use Rattle.hart_story.specs.Found.{leaves_of, state_at}
use Rattle.hart_story.specs.Memory.{reaching, IsAlignedWork}
use Rattle.hart_story.specs.Progress.{node_at}
use Rattle.hart_story.specs.Stage.{stage_of, walking, IsReading, IsSoundStage}
use Rattle.hart_story.specs.Translated.{translated_of}
use Rattle.hart_story.specs.declared.found.Found.{Found}
use Rattle.hart_story.specs.declared.stage.Stage.{Stage}
use Rattle.hart_story.proofs.Seeing.{shows, node_begun}
use Rattle.hart_story.proofs.replies.after_read.Goals as goal

-- A walk for the fetch.

pub returns-in-FetchWalk-clause-node : goal.returns-in-FetchWalk-clause-node
returns-in-FetchWalk-clause-node c = λ setup a budget here.
    let old = c.args.progress.now in
    let now : State = state_at a old.lines old.found in
    let walk = c.in-FetchWalk.walk in
    let came = c.after_entry-came.result in
    let to = c.set_fetch_stage.new.stage in
    let next = fetches_at setup in
    let pc = here.stands.regs.pc in
    let shown = shows c.args.hart.now a old.lines (a.leaves ++ leaves_of old.found) here.stands in
    ap (λ s. after_one s c.args.reply) (ap (node_at setup a old.lines old.found) c.in-FetchWalk.is)
    ∙ ap (λ va. after_one (walking setup.ram now kind.Fetch va next walk) c.args.reply) (sym pc)
    ∙ c.after_entry-came.ensures.arrives setup budget now next here.of shown
    ∙ ap (λ va. translated_of setup.ram now kind.Fetch va next came) pc
    ∙ c.set_fetch_stage.ensures.goes setup budget now here.of shown
    ∙ ap (λ b. stage_of setup b to) (sym (c.note.ensures.leaves a old.lines))
    ∙ sym (node_begun setup a old.lines c.note.new.self to c.set_fetch_stage.ensures.begun)

pub returns-in-FetchWalk-clause-sound : goal.returns-in-FetchWalk-clause-sound
returns-in-FetchWalk-clause-sound c =
    let old = c.args.progress.now in
    let here = c.requires.here.3 in
    let layout = c.args.layout.now in
    let Sound : Stage → Type 0 = λ s. IsSoundStage layout c.args.hart.now old.found.count s in
    let sound : IsReading layout.ram c.in-FetchWalk.walk × (old.found.count ≡ 0) = subst Sound c.in-FetchWalk.is here.sound.stage in
    let aligned : is_multiple c.args.hart.now.regs.pc 4 ≡ true = ap (λ p. is_multiple p 4) here.stands.regs.pc ∙ here.fit.aligned in
    let came = c.after_entry-came.ensures.sound in
    record {
      stage = c.set_fetch_stage.ensures.sound c.note.new.self.count aligned came
          (λ some. ap (λ (f : Found). f.count) (c.note.ensures.same some) ∙ sound.1) (omega (arith, c.note.ensures.count, sound.1));
      found = c.note.ensures.sound layout.ram c.args.hart.now.regs.pc came here.sound.found;
    }

-- A walk for the access.

pub returns-in-AccessWalk-clause-node : goal.returns-in-AccessWalk-clause-node
returns-in-AccessWalk-clause-node c = λ setup a budget here.
    let old = c.args.progress.now in
    let now : State = state_at a old.lines old.found in
    let work = c.in-AccessWalk.work in
    let came = c.after_entry-came-in-AccessWalk.result in
    let to = c.set_access_stage.new.stage in
    let next = reaching work setup in
    let shown = shows c.args.hart.now a old.lines (a.leaves ++ leaves_of old.found) here.stands in
    ap (λ s. after_one s c.args.reply) (ap (node_at setup a old.lines old.found) c.in-AccessWalk.is)
    ∙ ap (λ k. after_one (walking setup.ram now k work.address next c.in-AccessWalk.walk) c.args.reply) (sym c.kind_of-kind.ensures)
    ∙ c.after_entry-came-in-AccessWalk.ensures.arrives setup budget now next here.of shown
    ∙ ap (λ k. translated_of setup.ram now k work.address next came) c.kind_of-kind.ensures
    ∙ c.set_access_stage.ensures.goes setup budget now here.of shown
    ∙ ap (λ b. stage_of setup b to) (sym (c.note-in-AccessWalk.ensures.leaves a old.lines))
    ∙ sym (node_begun setup a old.lines c.note-in-AccessWalk.new.self to c.set_access_stage.ensures.begun)

pub returns-in-AccessWalk-clause-sound : goal.returns-in-AccessWalk-clause-sound
returns-in-AccessWalk-clause-sound c =
    let old = c.args.progress.now in
    let here = c.requires.here.3 in
    let layout = c.args.layout.now in
    let work = c.in-AccessWalk.work in
    let Sound : Stage → Type 0 = λ s. IsSoundStage layout c.args.hart.now old.found.count s in
    let sound : IsReading layout.ram c.in-AccessWalk.walk × IsAlignedWork work × (old.found.count ≤ 1) =
    subst Sound c.in-AccessWalk.is here.sound.stage in
    let came = c.after_entry-came-in-AccessWalk.ensures.sound in
    record {
      stage = c.set_access_stage.ensures.sound c.note-in-AccessWalk.new.self.count sound.1 came
          (λ some. omega (arith, ap (λ (f : Found). f.count) (c.note-in-AccessWalk.ensures.same some), sound.2));
      found = c.note-in-AccessWalk.ensures.sound layout.ram work.address came here.sound.found;
    }
