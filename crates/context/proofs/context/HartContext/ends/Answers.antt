-- The hart is in the state to which its events lead.
use Rattle.std.proofs.Common.{◌≡◌, subst}
use Rattle.flex_base.specs.Setup.{Setup}
use Rattle.context.specs.Contexts.{Context, IsRunOf, instruction_at}
use Rattle.context.proofs.context.HartContext.ends.Goals as goal

pub returns : goal.returns
returns c =
    let At : Context → Type 0 = λ k. (setup : Setup) → IsRunOf k.entry k.settings setup → c.self.inside.hart.regs.ends ≡ (instruction_at setup k).state.ends in
    subst At c.self.view_is (λ setup of. (c.self.invariant.stands setup of).at.stands.regs.ends)
