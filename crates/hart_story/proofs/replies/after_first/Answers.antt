-- An instruction that neither retires nor makes a pulse begins with its fetch.
use Rattle.std.proofs.Common.{ap, sym, ◌∙◌}
use Rattle.flex_base.specs.StoryTree.{after_one}
use Rattle.flex_base.specs.Reservations.{asked}
use Rattle.hart_story.specs.Found.{state_at}
use Rattle.hart_story.proofs.Asking.{begins_here, begun_here, stage_on}
use Rattle.hart_story.proofs.Seeing.{node_begun}
use Rattle.hart_story.proofs.replies.after_first.Goals as goal

pub go_on-requires-clause-here : goal.go_on-requires-clause-here
go_on-requires-clause-here c =
    let (setup, a, access, here, asks, form) = c.requires in
    let led = begins_here setup a c.args.hart.now c.args.progress.now c.begin.new.progress c.args.layout.now c.args.budget here
    c.if-hart-budget.false c.if-hart.false (c.begin.ensures.node setup c.args.budget a here.of here.stands here.fit) in (
      setup,
      a,
      access,
      c.args.budget,
      begun_here setup a c.args.hart.now c.args.progress.now c.begin.new.progress c.args.layout.now c.args.budget here c.begin.ensures.sound,
      sym (ap asked led) ∙ asks,
      form,
    )

pub returns-clause-node : goal.returns-clause-node
returns-clause-node c = λ setup a access here asks.
    let led = begins_here setup a c.args.hart.now c.args.progress.now c.begin.new.progress c.args.layout.now c.args.budget here
    c.if-hart-budget.false c.if-hart.false (c.begin.ensures.node setup c.args.budget a here.of here.stands here.fit) in
    ap (λ s. after_one s c.args.reply) led
    ∙ c.go_on.ensures.node setup a access c.args.budget
    (begun_here setup a c.args.hart.now c.args.progress.now c.begin.new.progress c.args.layout.now c.args.budget here c.begin.ensures.sound)
    (sym (ap asked led) ∙ asks)

pub returns-clause-over : goal.returns-clause-over
returns-clause-over c = λ setup a access here asks form.
    let p = c.begin.new.progress in
    let led = begins_here setup a c.args.hart.now c.args.progress.now p c.args.layout.now c.args.budget here
    c.if-hart-budget.false c.if-hart.false (c.begin.ensures.node setup c.args.budget a here.of here.stands here.fit) in
    let going = begun_here setup a c.args.hart.now c.args.progress.now p c.args.layout.now c.args.budget here c.begin.ensures.sound in
    c.go_on.ensures.over
    ∙ sym (stage_on setup (state_at a p.lines p.found) c.args.layout.now c.args.hart.now p.found.count p.stage access c.args.reply
    here.of.ram c.begin.ensures.begun going.sound.stage
    (sym (ap asked (led ∙ node_begun setup a p.lines p.found p.stage c.begin.ensures.begun)) ∙ asks) form)
