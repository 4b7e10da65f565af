-- What a hart in the code stands for.
use Rattle.std.specs.Prelude.{◌≡◌}
use Rattle.flex_base.specs.State.{State}
use Rattle.hart_state.specs.AreRegsOf.{AreRegsOf}
use Rattle.hart_state.specs.IsLatest.{IsLatest}
use Rattle.hart_story.specs.declared.hart.Hart.{Hart}

-- the hart is in this state
pub record StandsFor (hart : Hart) (a : State) : Type 0 where
  pub regs : AreRegsOf a hart.regs
  pub csrs : hart.csrs ≡ a.csrs
  pub kept : IsLatest hart.kept a.leaves

-- the hart has this state's registers and CSRs, but for the interrupt lines, which a pulse in the middle of the instruction
-- told
pub record Shows (hart : Hart) (a : State) : Type 0 where
  pub regs : AreRegsOf (record a { lines = hart.regs.lines }) hart.regs
  pub csrs : hart.csrs ≡ a.csrs
