-- The end is what the instruction has come to, and what its walks have found is kept.
use Rattle.std.proofs.Common.{◌≡◌, ◌<◌, ◌++◌, ap, sym, subst, ◌∙◌, arith}
use Rattle.flex_base.specs.Setup.{Setup}
use Rattle.flex_base.specs.State.{State, IsFit}
use Rattle.flex_base.specs.Reservations.{IsOwn}
use Rattle.flex_base.specs.StoryTree.{Want, want}
use Rattle.flex_base.specs.Story.{story}
use Rattle.flex_base.specs.Unsplit.{Instruction}
use Rattle.flex_base.specs.declared.event.EndPart.{EndPart}
use Rattle.flex_base.specs.declared.settings.Layout.{Layout}
use Rattle.flex_base.proofs.OwnReservations.{story_reserves, ends_own}
use Rattle.flex_base.proofs.Stories.{ends_unspent}
use Rattle.hart_state.specs.declared.kept.Kept.{Kept}
use Rattle.hart_story.specs.Found.{leaves_of, state_at}
use Rattle.hart_story.specs.Outcome.{outcome_of, IsSoundOutcome}
use Rattle.hart_story.specs.Progress.{IsSoundProgress, IsIn, IsEnding, EndsWith, want_in, node_at}
use Rattle.hart_story.specs.StandsFor.{StandsFor}
use Rattle.hart_story.specs.declared.hart.Hart.{Hart}
use Rattle.hart_story.specs.declared.outcome.Outcome.{Outcome}
use Rattle.hart_story.specs.declared.progress.Progress.{Progress}
use Rattle.hart_story.specs.declared.stage.Stage.TheVariants as stage
use Rattle.hart_story.proofs.Asking.{made_end, made_sound}
use Rattle.hart_story.proofs.Committing.{ends_with, sound_kept}
use Rattle.hart_story.proofs.Seeing.{leaves_append}
use Rattle.hart_story.proofs.story.finish_in_place.Goals as goal

-- what the instruction has come to
sound_end : (layout : Layout) (hart : Hart) (kept : Kept) (there : Progress) (made : Outcome) → there.stage ≡ stage.Working made → IsSoundProgress layout hart there
    → IsSoundOutcome layout (record hart { kept = kept }) made
sound_end layout hart kept there made is sound = sound_kept layout hart kept made (made_sound layout hart there.found.count there.stage made is sound.stage)

pub commit-part-requires-clause-end : goal.commit-part-requires-clause-end
commit-part-requires-clause-end c = made_end c.reach_end.new.progress.stage c.outcome.result.now c.outcome.ensures c.reach_end.ensures.end

pub commit-part-requires-clause-unspent : goal.commit-part-requires-clause-unspent
commit-part-requires-clause-unspent c =
    let (setup, i, part, after, at, ending) = c.requires in
    let unspent = ends_unspent setup i.state i.replies part after ending in
    omega (arith, at.fit.within, at.of.budget_is, at.stands.regs.ends, unspent, c.ranges.budget)

pub commit-part-requires-clause-sound : goal.commit-part-requires-clause-sound
commit-part-requires-clause-sound c =
    (c.args.layout.now, sound_end c.args.layout.now c.args.hart.now c.keep_in.new.held c.reach_end.new.progress c.outcome.result.now c.outcome.ensures c.reach_end.ensures.sound)

-- the end, and the state for which the hart stands then
ends : (c : goal.After-begin) (setup : Setup) (i : Instruction) (part : EndPart) (after : State)
    → IsIn setup i c.args.hart.now c.args.progress.now c.args.layout.now c.args.budget → IsEnding setup i part after
    → EndsWith setup (want_in setup i) c.commit-part.result c.commit-part.new.hart
ends c setup i part after at ending =
    let layout = c.args.layout.now in
    let there = c.reach_end.new.progress in
    let made = c.outcome.result.now in
    let node = c.reach_end.ensures.node setup i part after c.args.budget at ending
    ∙ ap (node_at setup i.state there.lines there.found) c.outcome.ensures in
    let unspent = ends_unspent setup i.state i.replies part after ending in
    let left : i.state.ends < setup.budget = omega (arith, at.fit.within, unspent) in
    let hart : Hart = record c.args.hart.now { kept = c.keep_in.new.held } in
    let kept : State = record i.state { leaves = i.state.leaves ++ leaves_of there.found } in
    let regs = at.stands.regs in
    let stands : StandsFor hart kept = record {
      regs = record { pc = regs.pc; x = regs.x; mode = regs.mode; reservation = regs.reservation; ends = regs.ends; lines = regs.lines; due = regs.due };
      csrs = at.stands.csrs;
      kept = c.keep_in.ensures i.state.leaves at.stands.kept;
    } in
    let fit : IsFit setup.harts setup.ram setup.budget kept = record {
      aligned = at.fit.aligned;
      within = at.fit.within;
      reserved = at.fit.reserved;
      csrs = at.fit.csrs;
      leaves = leaves_append i.state.leaves (leaves_of there.found) at.fit.leaves c.reach_end.ensures.sound.found;
    } in
    let sound = sound_end layout c.args.hart.now c.keep_in.new.held there made c.outcome.ensures c.reach_end.ensures.sound in
    let committed = c.commit-part.ensures.commits layout c.args.budget sound setup kept at.of stands fit left in
    let Wants : Want → Type 0 = λ w. EndsWith setup w c.commit-part.result c.commit-part.new.hart in
    subst Wants (sym (ap want (at.reached ∙ node)))
    (ends_with setup (outcome_of (state_at i.state there.lines there.found) made) c.commit-part.result c.commit-part.new.hart committed)

pub returns-clause-ends : goal.returns-clause-ends
returns-clause-ends c = λ setup i part after at ending. ends c setup i part after at ending

pub returns-clause-reservation : goal.returns-clause-reservation
returns-clause-reservation c = λ setup i part after at ending.
    let a = i.state in
    let left = ends c setup i part after at ending in
    let held : IsOwn a.reservation a.reservation = λ set e. e in
    let own = ends_own a.reservation (story setup a) i.replies c.commit-part.result left.after (story_reserves setup a.reservation a held) left.ends in
    λ set e. own set (sym left.stands.regs.reservation ∙ e)
