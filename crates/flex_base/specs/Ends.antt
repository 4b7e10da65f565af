-- The ends of instructions.
use Rattle.std.specs.Prelude.{ℕ, ◌+◌, Bool, true, false, ◌||◌, ◌==◌, if◌then◌else◌, None}
use Rattle.flex_base.specs.Word.{wrap, is_multiple}
use Rattle.flex_base.specs.Causes.{instruction_address_misaligned, illegal_instruction}
use Rattle.flex_base.specs.Traps.{Transfer, trap, count}
use Rattle.flex_base.specs.State.{State, set_reg}
use Rattle.flex_base.specs.StoryTree.{Story, Closes}
use Rattle.flex_base.specs.declared.class.Class.{Class}
use Rattle.flex_base.specs.declared.class.Class.TheVariants as class

-- an instruction of this class ends, and leaves its results in a state; two values more are told of it. One end more is
-- counted, and after each 64th a pulse is due, also where the instruction itself makes none due
abbrev pub finishes : State → Class → State → ℕ → ℕ → Bool → Story
finishes a class after first second due = Closes
    (record { class = class; pc = a.pc; next = after.pc; first = first; second = second })
    (record after { ends = a.ends + 1; due = due || is_multiple (a.ends + 1) 64 })

-- what is told of a register that is written (0 for none)
abbrev pub told_of : ℕ → ℕ → ℕ
told_of rd value = if rd == 0 then 0 else value

-- the state at `next` after a write of a register (0 for none); a cycle and an instruction are counted
abbrev pub leaves_at : State → ℕ → ℕ → ℕ → State
leaves_at a next rd value = record a { pc = next; x = set_reg a.x rd value; csrs = count a.csrs true true }

-- an end that writes a register (0 for none) and goes on at `next`
abbrev pub ends : State → Class → ℕ → ℕ → ℕ → Story
ends a class next rd value = finishes a class (leaves_at a next rd value) rd (told_of rd value) false

-- such an end after which a pulse is due
abbrev pub ends_due : State → Class → ℕ → ℕ → ℕ → Story
ends_due a class next rd value = finishes a class (leaves_at a next rd value) rd (told_of rd value) true

-- a trap leads here; a cycle is counted, and no instruction
abbrev pub enters : State → ℕ → ℕ → Transfer → Story
enters a cause tval to = finishes a class.Trap
    (record a { pc = to.pc; mode = to.mode; csrs = count to.stores true false }) cause tval false

-- a trap of this cause and value is the end of what comes to it
abbrev pub traps : State → ℕ → ℕ → Story
traps a cause tval = enters a cause tval (trap a.csrs a.pc a.mode cause tval)

-- an illegal instruction, of which the word is told
abbrev pub traps_illegal : State → ℕ → Story
traps_illegal a word = traps a illegal_instruction word

-- a return leads back to where a trap came from, after which a pulse is due
abbrev pub returns : State → Transfer → Story
returns a to = finishes a class.System
    (record a { pc = to.pc; mode = to.mode; csrs = count to.stores true true }) 0 0 true

-- a jump to a misaligned address is an exception of the jump itself (Volume I, "Control Transfer Instructions")
abbrev pub jumps : State → ℕ → ℕ → Story
jumps a target rd = if is_multiple target 4 then ends a class.Jump target rd (wrap (a.pc + 4)) else traps a instruction_address_misaligned target

-- an end that goes on at the next instruction with a value for a register
abbrev pub computes : State → Class → ℕ → ℕ → Story
computes a class rd value = ends a class (wrap (a.pc + 4)) rd value

-- an end that goes on at the next instruction and writes no register
abbrev pub passes : State → Class → Story
passes a class = computes a class 0 0

-- the ends of an instruction that read a device register or wrote one, after which a pulse is due
abbrev pub computes_device : State → ℕ → ℕ → Story
computes_device a rd value = ends_due a class.Device (wrap (a.pc + 4)) rd value

abbrev pub passes_device : State → Story
passes_device a = computes_device a 0 0

-- the end of a store-conditional, and of the hart's reservation with it
abbrev pub concludes : State → ℕ → ℕ → Story
concludes a rd result = computes (record a { reservation = None }) class.Atomic rd result
