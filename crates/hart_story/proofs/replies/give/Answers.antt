-- Each reply leads on by one in the story.
use Rattle.std.proofs.Common.{ℕ, ap, sym, ◌∙◌}
use Rattle.flex_base.specs.Setup.{Setup}
use Rattle.flex_base.specs.StoryTree.{after_one}
use Rattle.flex_base.specs.Reservations.{asked}
use Rattle.flex_base.specs.Unsplit.{Instruction}
use Rattle.flex_base.specs.declared.settings.Layout.{Layout}
use Rattle.hart_story.specs.Found.{state_at}
use Rattle.hart_story.specs.Progress.{IsHere, IsIn}
use Rattle.hart_story.specs.declared.hart.Hart.{Hart}
use Rattle.hart_story.specs.declared.progress.Progress.{Progress}
use Rattle.hart_story.proofs.Asking.{reached_on, node_asks, node_story, stage_on}
use Rattle.hart_story.proofs.Seeing.{node_begun}
use Rattle.hart_story.proofs.replies.give.Goals as goal

here_of : (setup : Setup) (i : Instruction) (hart : Hart) (p : Progress) (layout : Layout) (budget : ℕ) → IsIn setup i hart p layout budget
    → IsHere setup i.state hart p layout budget
here_of setup i hart p layout budget at = record { of = at.of; stands = at.stands; fit = at.fit; sound = at.sound }

pub returns-then-has_begun-clause-reached : goal.returns-then-has_begun-clause-reached
returns-then-has_begun-clause-reached c = λ setup i access at asking.
    let p = c.args.progress.now in
    record {
      of = at.of;
      stands = at.stands;
      fit = at.fit;
      reached = reached_on setup i p c.go_on.new.progress c.args.reply at.reached
          (c.go_on.ensures.node setup i.state access c.args.budget (here_of setup i c.args.hart.now p c.args.layout.now c.args.budget at)
          (node_asks setup i p access at.reached asking));
      sound = c.go_on.ensures.sound;
    }

pub returns-then-has_begun-clause-over : goal.returns-then-has_begun-clause-over
returns-then-has_begun-clause-over c = λ setup i access at asking form.
    let p = c.args.progress.now in
    let begun = sym c.has_begun.ensures ∙ c.if-has_begun.true in
    c.go_on.ensures.over
    ∙ sym (stage_on setup (state_at i.state p.lines p.found) c.args.layout.now c.args.hart.now p.found.count p.stage access c.args.reply
    at.of.ram begun at.sound.stage
    (sym (ap asked (node_begun setup i.state p.lines p.found p.stage begun)) ∙ node_asks setup i p access at.reached asking) form)

pub returns-else-has_begun-clause-reached : goal.returns-else-has_begun-clause-reached
returns-else-has_begun-clause-reached c = λ setup i access at asking.
    let p = c.args.progress.now in
    let here = node_story setup i.state p (sym c.has_begun.ensures ∙ c.if-has_begun.false) in
    record {
      of = at.of;
      stands = at.stands;
      fit = at.fit;
      reached = reached_on setup i p c.after_first.new.progress c.args.reply at.reached
          (ap (λ s. after_one s c.args.reply) here
          ∙ c.after_first.ensures.node setup i.state access (here_of setup i c.args.hart.now p c.args.layout.now c.args.budget at)
          (sym (ap asked here) ∙ node_asks setup i p access at.reached asking));
      sound = c.after_first.ensures.sound;
    }

pub returns-else-has_begun-clause-over : goal.returns-else-has_begun-clause-over
returns-else-has_begun-clause-over c = λ setup i access at asking form.
    let p = c.args.progress.now in
    let here = node_story setup i.state p (sym c.has_begun.ensures ∙ c.if-has_begun.false) in
    c.after_first.ensures.over setup i.state access (here_of setup i c.args.hart.now p c.args.layout.now c.args.budget at)
    (sym (ap asked here) ∙ node_asks setup i p access at.reached asking) form
