-- What is needed is what the story wants after the events of the log.
use Rattle.std.proofs.Common.{◌≡◌, subst}
use Rattle.flex_base.specs.Setup.{Setup}
use Rattle.flex_base.specs.Following.{wanted}
use Rattle.hart_story.specs.Need.{need_of, AsksPlaced}
use Rattle.context.specs.Contexts.{Context, IsRunOf, instruction_at}
use Rattle.context.proofs.Keeping.{in_run}
use Rattle.context.proofs.context.HartContext.need.Goals as goal

pub returns-clause-told : goal.returns-clause-told
returns-clause-told c =
    let At : Context → Type 0 = λ k. (setup : Setup) → IsRunOf k.entry k.settings setup → c.need.result ≡ need_of (wanted setup (instruction_at setup k)) in
    subst At c.self.view_is (λ setup of. c.need.ensures.told setup _ (in_run _ _ setup c.self.invariant c.layout_of-layout.ensures of))

pub returns-clause-placed : goal.returns-clause-placed
returns-clause-placed c =
    let At : Context → Type 0 = λ k. (setup : Setup) → IsRunOf k.entry k.settings setup → AsksPlaced setup c.need.result in
    subst At c.self.view_is (λ setup of. c.need.ensures.placed setup _ (in_run _ _ setup c.self.invariant c.layout_of-layout.ensures of))
