-- The hart without translations ends as after any instruction that writes no register.
use Rattle.std.proofs.Common.{[], sym, subst}
use Rattle.flex_base.specs.State.{State}
use Rattle.flex_base.specs.StoryTree.{Story}
use Rattle.hart_story.specs.Progress.{CommitsTo}
use Rattle.hart_story.specs.StandsFor.{StandsFor}
use Rattle.hart_story.specs.declared.hart.Hart.{Hart}
use Rattle.hart_story.proofs.Seeing.{shows}
use Rattle.hart_story.proofs.ending.commit_fence.Goals as goal

pub commit_end-requires-clause-register : goal.commit_end-requires-clause-register
commit_end-requires-clause-register c = (c.end_without-end.ensures.sound (record { harts = 1; ram = 0 })).register

pub returns-clause-commits : goal.returns-clause-commits
returns-clause-commits c = λ layout budget setup a of stands fit unspent.
    let bare : State = record a { leaves = [] } in
    let hart : Hart = record c.args.hart.now { kept = c.clear.new.self } in
    let bare_stands : StandsFor hart bare = record {
      regs = record {
        pc = stands.regs.pc;
        x = stands.regs.x;
        mode = stands.regs.mode;
        reservation = stands.regs.reservation;
        ends = stands.regs.ends;
        lines = stands.regs.lines;
        due = stands.regs.due;
      };
      csrs = stands.csrs;
      kept = c.clear.ensures;
    } in
    let By : Story → Type 0 = λ s. CommitsTo setup c.commit_end.new.hart c.commit_end.result s in
    subst By (sym (c.end_without-end.ensures.works (record bare { lines = c.args.lines }) (shows hart bare c.args.lines [] bare_stands)))
    (c.commit_end.ensures.commits layout budget (c.end_without-end.ensures.sound layout) setup bare of bare_stands
    (record { aligned = fit.aligned; within = fit.within; reserved = fit.reserved; csrs = fit.csrs; leaves = tt }) unspent)
