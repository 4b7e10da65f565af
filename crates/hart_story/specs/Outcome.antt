-- What an instruction comes to.
use Rattle.std.specs.Prelude.{◌≡◌, ℕ, ◌<◌, Bool, true, false, Option}
use Rattle.flex_base.specs.Word.{is_multiple}
use Rattle.flex_base.specs.Limits.{mebibyte}
use Rattle.flex_base.specs.Setup.{Setup}
use Rattle.flex_base.specs.State.{State, IsReservation}
use Rattle.flex_base.specs.Csrs.{IsCause}
use Rattle.flex_base.specs.Traps.{mret, sret}
use Rattle.flex_base.specs.StoryTree.{Story, Says, Parks}
use Rattle.flex_base.specs.Ends.{finishes, leaves_at, told_of, traps, returns}
use Rattle.flex_base.specs.Story.{asks_pending, asks_time, closes_csr, fences_memory, after_wait, after_wait_pulse, ends_wait}
use Rattle.flex_base.specs.declared.access.Access.TheVariants as acc
use Rattle.flex_base.specs.declared.settings.Layout.{Layout}
use Rattle.hart_story.specs.Operands.{IsRegister}
use Rattle.hart_story.specs.StandsFor.{Shows}
use Rattle.hart_story.specs.declared.hart.Hart.{Hart}
use Rattle.hart_story.specs.declared.outcome.End.{End}
use Rattle.hart_story.specs.declared.outcome.Outcome.{Outcome}
use Rattle.hart_story.specs.declared.outcome.Outcome.TheVariants as outcome

-- a run of this layout and budget; RAM is whole MiB
pub record IsOf (setup : Setup) (layout : Layout) (budget : ℕ) : Type 0 where
  pub harts : setup.harts ≡ layout.harts
  pub ram : setup.ram ≡ layout.ram
  pub budget_is : setup.budget ≡ budget
  pub whole : is_multiple layout.ram mebibyte ≡ true

-- the end of an instruction in the story
abbrev pub end_of : State → End → Story
end_of a end = finishes a end.class (leaves_at (record a { reservation = end.reservation }) end.next end.rd end.value)
    end.rd (told_of end.rd end.value) end.due

-- what an instruction comes to
abbrev pub outcome_of : State → Outcome → Story
outcome_of a (outcome.End end) = end_of a end
outcome_of a (outcome.Trap cause tval) = traps a cause tval
outcome_of a (outcome.AskPending does rd rs1 number) = asks_pending a does rd rs1 number
outcome_of a (outcome.AskTime does rd rs1 number) = asks_time a does rd rs1 number
outcome_of a (outcome.WriteCsr number rd old value) = closes_csr a number rd old value
outcome_of a outcome.Mret = returns a (mret a.csrs)
outcome_of a outcome.Sret = returns a (sret a.csrs)
outcome_of a outcome.FenceMemory = fences_memory a
outcome_of a outcome.WaitPulse = Says (acc.Pulse false) (after_wait_pulse a)
outcome_of a (outcome.Wait mie) = Says (acc.Wait mie) (after_wait a)
outcome_of a outcome.Parked = Parks (ends_wait a)

-- in each state that the hart shows this story is what the instruction comes to
abbrev pub ComesAs : Hart → (State → Story) → Outcome → Type 0
ComesAs hart story made = (a : State) → Shows hart a → story a ≡ outcome_of a made

-- and of an end
abbrev pub EndsAs : Hart → (State → Story) → End → Type 0
EndsAs hart story end = (a : State) → Shows hart a → story a ≡ end_of a end

-- this is a reservation in RAM where the hart's own is one
abbrev pub KeepsReservation : Layout → Hart → Option ℕ → Type 0
KeepsReservation layout hart reservation = is_multiple layout.ram mebibyte ≡ true
    → IsReservation layout.ram hart.regs.reservation → IsReservation layout.ram reservation

-- an end that an instruction comes to writes a register that there is, and leaves a fit state where it finds one
pub record IsSoundEnd (layout : Layout) (hart : Hart) (end : End) : Type 0 where
  pub register : end.rd < 32
  pub aligned : is_multiple hart.regs.pc 4 ≡ true → is_multiple end.next 4 ≡ true
  pub reserved : KeepsReservation layout hart end.reservation

-- what an instruction comes to is sound: a trap has a cause that a register can hold
abbrev pub IsSoundOutcome : Layout → Hart → Outcome → Type 0
IsSoundOutcome layout hart (outcome.End end) = IsSoundEnd layout hart end
IsSoundOutcome layout hart (outcome.Trap cause tval) = IsCause cause
IsSoundOutcome layout hart (outcome.AskPending does rd rs1 number) = IsRegister rd × IsRegister rs1
IsSoundOutcome layout hart (outcome.AskTime does rd rs1 number) = IsRegister rd × IsRegister rs1
IsSoundOutcome layout hart (outcome.WriteCsr number rd old value) = IsRegister rd
IsSoundOutcome layout hart other = Unit {0}

-- the outcome is an end
abbrev pub is_end : Outcome → Bool
is_end (outcome.End end) = true
is_end (outcome.Trap cause tval) = true
is_end (outcome.WriteCsr number rd old value) = true
is_end outcome.Mret = true
is_end outcome.Sret = true
is_end outcome.FenceMemory = true
is_end other = false
