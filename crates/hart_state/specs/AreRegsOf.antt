-- What the registers of a hart stand for.
use Rattle.std.specs.Prelude.{◌≡◌}
use Rattle.flex_base.specs.State.{State}
use Rattle.hart_state.specs.declared.regs.Regs.{Regs}

-- these are the registers of this state
pub record AreRegsOf (a : State) (regs : Regs) : Type 0 where
  pub pc : regs.pc ≡ a.pc
  pub x : regs.x ≡ a.x
  pub mode : regs.mode ≡ a.mode
  pub reservation : regs.reservation ≡ a.reservation
  pub ends : regs.ends ≡ a.ends
  pub lines : regs.lines ≡ a.lines
  pub due : regs.due ≡ a.due
