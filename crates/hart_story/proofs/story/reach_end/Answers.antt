-- An instruction may end where it begins.
use Rattle.std.proofs.Common.{ap, sym, ◌∙◌}
use Rattle.flex_base.specs.StoryTree.{Ends, want}
use Rattle.flex_base.specs.Word.{is_multiple}
use Rattle.hart_story.proofs.Asking.{node_wants, ends_begun, ends_at}
use Rattle.hart_story.proofs.story.reach_end.Goals as goal

pub returns-then-has_begun-clause-end : goal.returns-then-has_begun-clause-end
returns-then-has_begun-clause-end c =
    let (setup, i, part, after, budget, at, ending) = c.requires in
    let p = c.args.progress.now in
    ends_at setup i.state c.args.layout.now c.args.hart.now p part after at.of.ram (sym c.has_begun.ensures ∙ c.if-has_begun.true) at.sound
    (node_wants setup i p (Ends part after) at.reached ending)

pub returns-clause-node : goal.returns-clause-node
returns-clause-node c = λ setup i part after budget at ending.
    ends_begun setup i c.args.progress.now c.begin.new.progress c.args.hart.now.regs.lines part after at.reached
    (sym c.has_begun.ensures ∙ c.if-has_begun.false) at.stands.regs.lines (c.begin.ensures.node setup budget i.state at.of at.stands at.fit) ending

pub returns-clause-end : goal.returns-clause-end
returns-clause-end c =
    let (setup, i, part, after, budget, at, ending) = c.requires in
    let p = c.args.progress.now in
    let next = c.begin.new.progress in
    let leads = ends_begun setup i p next c.args.hart.now.regs.lines part after at.reached
    (sym c.has_begun.ensures ∙ c.if-has_begun.false) at.stands.regs.lines (c.begin.ensures.node setup budget i.state at.of at.stands at.fit) ending in
    ends_at setup i.state c.args.layout.now c.args.hart.now next part after at.of.ram c.begin.ensures.begun (c.begin.ensures.sound (ap (λ a. is_multiple a 4) at.stands.regs.pc ∙ at.fit.aligned))
    (sym (ap want leads) ∙ node_wants setup i p (Ends part after) at.reached ending)
