-- What is wanted follows from where the replies lead.
use Rattle.std.proofs.Common.{ℕ, ◌≤◌, ◌≡◌, ap, sym, subst, ◌∙◌}
use Rattle.flex_base.specs.StoryTree.{want}
use Rattle.hart_story.specs.Found.{state_at}
use Rattle.hart_story.specs.Memory.{access_of, device_access_of, IsAlignedWork}
use Rattle.hart_story.specs.Need.{need_of}
use Rattle.hart_story.specs.Progress.{node_at}
use Rattle.hart_story.specs.Stage.{IsReading, IsSoundAccess, IsSoundStage}
use Rattle.hart_story.specs.declared.stage.Stage.{Stage}
use Rattle.hart_story.proofs.Seeing.{shows}
use Rattle.hart_story.proofs.needs.need.Goals as goal

pub returns-in-Begun-clause-reserved : goal.returns-in-Begun-clause-reserved
returns-in-Begun-clause-reserved c = λ setup i at. c.first_need.ensures.reserved i.state

pub returns-in-FetchWalk-clause-placed : goal.returns-in-FetchWalk-clause-placed
returns-in-FetchWalk-clause-placed c = λ setup i at.
    let Sound : Stage → Type 0 = λ s. IsSoundStage c.args.layout.now c.args.hart.now c.args.progress.now.found.count s in
    let sound : IsReading c.args.layout.now.ram c.in-FetchWalk.walk × (c.args.progress.now.found.count ≡ 0) =
    subst Sound c.in-FetchWalk.is at.sound.stage in
    let In : ℕ → Type 0 = λ ram. IsReading ram c.in-FetchWalk.walk in
    c.walk_need.ensures.placed setup (subst In (sym at.of.ram) sound.0)

pub returns-in-FetchWalk-clause-reserved : goal.returns-in-FetchWalk-clause-reserved
returns-in-FetchWalk-clause-reserved c = λ setup i at. c.walk_need.ensures.reserved i.state

pub returns-in-AccessWalk-clause-placed : goal.returns-in-AccessWalk-clause-placed
returns-in-AccessWalk-clause-placed c = λ setup i at.
    let Sound : Stage → Type 0 = λ s. IsSoundStage c.args.layout.now c.args.hart.now c.args.progress.now.found.count s in
    let sound : IsReading c.args.layout.now.ram c.in-AccessWalk.walk × IsAlignedWork c.in-AccessWalk.field-1 × (c.args.progress.now.found.count ≤ 1) =
    subst Sound c.in-AccessWalk.is at.sound.stage in
    let In : ℕ → Type 0 = λ ram. IsReading ram c.in-AccessWalk.walk in
    c.walk_need-in-AccessWalk.ensures.placed setup (subst In (sym at.of.ram) sound.0)

pub returns-in-AccessWalk-clause-reserved : goal.returns-in-AccessWalk-clause-reserved
returns-in-AccessWalk-clause-reserved c = λ setup i at. c.walk_need-in-AccessWalk.ensures.reserved i.state

pub returns-in-Access-clause-told : goal.returns-in-Access-clause-told
returns-in-Access-clause-told c = λ setup i at.
    let progress = c.args.progress.now in
    let Sound : Stage → Type 0 = λ s. IsSoundStage c.args.layout.now c.args.hart.now progress.found.count s in
    let sound : IsSoundAccess c.args.layout.now c.args.hart.now c.in-Access.work (access_of c.in-Access.work c.in-Access.address) = subst Sound c.in-Access.is at.sound.stage in
    c.access_need.ensures.told (state_at i.state progress.lines progress.found) sound.of_memory
    ∙ ap (λ s. need_of (want s)) (sym (at.reached ∙ ap (node_at setup i.state progress.lines progress.found) c.in-Access.is))

pub returns-in-Access-clause-placed : goal.returns-in-Access-clause-placed
returns-in-Access-clause-placed c = λ setup i at.
    let Sound : Stage → Type 0 = λ s. IsSoundStage c.args.layout.now c.args.hart.now c.args.progress.now.found.count s in
    c.access_need.ensures.placed setup c.args.budget c.args.layout.now c.args.hart.now at.of (subst Sound c.in-Access.is at.sound.stage)

pub returns-in-Access-clause-reserved : goal.returns-in-Access-clause-reserved
returns-in-Access-clause-reserved c = λ setup i at.
    let Sound : Stage → Type 0 = λ s. IsSoundStage c.args.layout.now c.args.hart.now c.args.progress.now.found.count s in
    c.access_need.ensures.reserved c.args.layout.now c.args.hart.now i.state
    (shows c.args.hart.now i.state i.state.lines i.state.leaves at.stands) (subst Sound c.in-Access.is at.sound.stage)

pub returns-in-Device-clause-told : goal.returns-in-Device-clause-told
returns-in-Device-clause-told c = λ setup i at.
    let progress = c.args.progress.now in
    let Sound : Stage → Type 0 = λ s. IsSoundStage c.args.layout.now c.args.hart.now progress.found.count s in
    let sound : IsSoundAccess c.args.layout.now c.args.hart.now c.in-Device.work (device_access_of c.in-Device.work c.in-Device.address) = subst Sound c.in-Device.is at.sound.stage in
    c.device_need.ensures.told (state_at i.state progress.lines progress.found) sound.of_memory
    ∙ ap (λ s. need_of (want s)) (sym (at.reached ∙ ap (node_at setup i.state progress.lines progress.found) c.in-Device.is))

pub returns-in-Device-clause-placed : goal.returns-in-Device-clause-placed
returns-in-Device-clause-placed c = λ setup i at.
    let Sound : Stage → Type 0 = λ s. IsSoundStage c.args.layout.now c.args.hart.now c.args.progress.now.found.count s in
    c.device_need.ensures.placed setup c.args.budget c.args.layout.now c.args.hart.now at.of (subst Sound c.in-Device.is at.sound.stage)

pub returns-in-Device-clause-reserved : goal.returns-in-Device-clause-reserved
returns-in-Device-clause-reserved c = λ setup i at.
    let Sound : Stage → Type 0 = λ s. IsSoundStage c.args.layout.now c.args.hart.now c.args.progress.now.found.count s in
    c.device_need.ensures.reserved c.args.layout.now c.args.hart.now i.state
    (shows c.args.hart.now i.state i.state.lines i.state.leaves at.stands) (subst Sound c.in-Device.is at.sound.stage)
