-- The story of one instruction: what a hart does, from the state at the start and the replies so far.
use Rattle.std.specs.Prelude.{ℕ, ◌+◌, ◌-◌, ◌*◌, ◌%◌, Bool, true, false, not, ◌&&◌, ◌==◌, nat_lt, if◌then◌else◌, List, [], slice_index, bit_and, Option, None, Some}
use Rattle.flex_base.specs.Word.{wrap, low, sign_extend, is_multiple, is_set}
use Rattle.flex_base.specs.Place.{in_ram, place_of}
use Rattle.flex_base.specs.Causes.{instruction_access_fault, breakpoint, load_access_fault, store_access_fault, misaligned, access_fault, ecall_from}
use Rattle.flex_base.specs.Csrs.{mstatus, mie, mip, TVM, TW, TSR}
use Rattle.flex_base.specs.Traps.{mret, sret, takeable}
use Rattle.flex_base.specs.Zicsr.{CSR_TIME, reads_csr, writes_csr, csr_operand, csr_result, may_use_csr, is_pending_csr, csr_value, csrs_with, count_but, makes_due, turns_satp}
use Rattle.flex_base.specs.Decoding.{decoded}
use Rattle.flex_base.specs.Arithmetic.{alu_of, muldiv_of, signed_lt}
use Rattle.flex_base.specs.FlatMemory.{reservation_set, is_reserved}
use Rattle.std.specs.Int.{w64}
use Rattle.flex_base.specs.State.{State, reg, set_reg}
use Rattle.flex_base.specs.Setup.{Setup}
use Rattle.flex_base.specs.StoryTree.{Want, Story, Says, StaysOver, Parks, goes, want}
use Rattle.flex_base.specs.Ends.{finishes, told_of, traps, traps_illegal, returns, jumps, computes, passes, computes_device, passes_device, concludes}
use Rattle.flex_base.specs.Translating.{translates}
use Rattle.flex_base.specs.declared.access.Access.TheVariants as acc
use Rattle.flex_base.specs.declared.access.Reply.{Reply}
use Rattle.flex_base.specs.declared.class.Class.TheVariants as class
use Rattle.flex_base.specs.declared.hart.Mode.{Mode}
use Rattle.flex_base.specs.declared.hart.Mode.TheVariants as mode
use Rattle.flex_base.specs.declared.operation.AmoOp.{AmoOp}
use Rattle.flex_base.specs.declared.operation.CsrOp.{CsrOp}
use Rattle.flex_base.specs.declared.operation.Op.{Op}
use Rattle.flex_base.specs.declared.settings.Place.{Place}
use Rattle.flex_base.specs.declared.settings.Place.TheVariants as place
use Rattle.flex_base.specs.declared.operation.Op.TheVariants as op
use Rattle.flex_base.specs.declared.operation.BranchOp.{BranchOp}
use Rattle.flex_base.specs.declared.operation.BranchOp.TheVariants as branch
use Rattle.flex_base.specs.declared.translation.Kind.{Kind}
use Rattle.flex_base.specs.declared.translation.Kind.TheVariants as kind
use Rattle.flex_base.specs.declared.translation.Leaf.{Leaf}

-- an address without its lowest bit
abbrev pub even : ℕ → ℕ
even address = address - address % 2

-- a branch is taken by the order of its two operands (Volume I, "Conditional Branches")
abbrev pub is_taken : BranchOp → ℕ → ℕ → Bool
is_taken branch.Eq x y = x == y
is_taken branch.Ne x y = not (x == y)
is_taken branch.Lt x y = signed_lt w64 x y
is_taken branch.Ge x y = not (signed_lt w64 x y)
is_taken branch.Ltu x y = nat_lt x y
is_taken branch.Geu x y = not (nat_lt x y)

-- a taken branch is a jump that links nothing
abbrev pub branches : State → Bool → ℕ → Story
branches a taken target = if taken then jumps a target 0 else passes a class.Jump

-- a value of so many bytes as a register holds it
abbrev pub extended : Bool → ℕ → ℕ → ℕ
extended signed width value = if signed then sign_extend (8 * width) (low (8 * width) value) else value

-- the work at aligned bytes: an access of RAM, an access of a device register, or elsewhere an access fault
abbrev pub at_place : Place → Story → Story → Story → Story
at_place place.Ram access device fault = access
at_place place.Device access device fault = device
at_place place.Nowhere access device fault = fault

-- Privileged instructions.

-- an instruction of supervisors: S may make it where the bit of mstatus that traps it is clear (Volume II, "Virtualization
-- Support in mstatus Register"), M always and U never
abbrev pub supervises : ℕ → List ℕ → Mode → Bool
supervises bit csrs mode.M = true
supervises bit csrs mode.S = not (is_set bit (slice_index csrs mstatus))
supervises bit csrs mode.U = false

abbrev pub is_machine : Mode → Bool
is_machine mode.M = true
is_machine lower = false

-- a write of satp that takes effect drops all translations, that of its own fetch included
abbrev pub leaves_after : State → ℕ → ℕ → List Leaf
leaves_after a number value = if turns_satp number value then [] else a.leaves

-- a CSR instruction ends that writes this value, and gives the old one to its register
abbrev pub closes_csr : State → ℕ → ℕ → ℕ → ℕ → Story
closes_csr a number rd old value = finishes a class.Csr
    (record a {
      pc = wrap (a.pc + 4);
      x = set_reg a.x rd old;
      csrs = count_but number (csrs_with a number value);
      leaves = leaves_after a number value;
    })
    rd (told_of rd old) (makes_due number)

-- a CSR instruction has read the old value, or doesn't read
abbrev pub updates_csr : State → CsrOp → ℕ → ℕ → ℕ → ℕ → Story
updates_csr a does rd rs1 number old =
    if writes_csr does rs1 then closes_csr a number rd old (csr_result does old (csr_operand does a.x rs1))
    else computes a class.Csr rd old

-- a pulse tells the interrupt lines, which count from here on, or that the run is to stop
abbrev pub after_csr_pulse : State → CsrOp → ℕ → ℕ → ℕ → Reply → Story
after_csr_pulse a does rd rs1 number reply =
    if reply.stop then StaysOver
    else updates_csr (record a { lines = reply.lines }) does rd rs1 number (csr_value a number reply.lines 0)

-- pending interrupts are read by a pulse, and the time by an access of its own
abbrev pub asks_pending : State → CsrOp → ℕ → ℕ → ℕ → Story
asks_pending a does rd rs1 number = Says (acc.Pulse false) (after_csr_pulse a does rd rs1 number)

abbrev pub asks_time : State → CsrOp → ℕ → ℕ → ℕ → Story
asks_time a does rd rs1 number =
    Says acc.Time (λ reply. updates_csr a does rd rs1 number (csr_value a number 0 reply.value))

-- what a CSR instruction reads; all else is read at once
abbrev pub asks_csr : State → CsrOp → ℕ → ℕ → ℕ → Story
asks_csr a does rd rs1 number =
    if is_pending_csr number then asks_pending a does rd rs1 number
    else (if number == CSR_TIME then asks_time a does rd rs1 number
    else updates_csr a does rd rs1 number (csr_value a number 0 0))

-- a CSR instruction; one that may not do all that it does is illegal, and does nothing
abbrev pub uses_csr : State → ℕ → CsrOp → ℕ → ℕ → ℕ → Story
uses_csr a word does rd rs1 number =
    if may_use_csr a does rd rs1 number
    then (if reads_csr does rd then asks_csr a does rd rs1 number else updates_csr a does rd rs1 number 0)
    else traps_illegal a word

-- SFENCE.VMA drops all translations, that of its own fetch included (Volume II, "Supervisor Memory-Management Fence
-- Instruction")
abbrev pub fences_memory : State → Story
fences_memory a = passes (record a { leaves = [] }) class.System

-- WFI (Volume II, "Wait for Interrupt").

-- it ends with these interrupt lines; no interrupt is taken by WFI itself
abbrev pub ends_wait : State → ℕ → Story
ends_wait a lines = passes (record a { lines = lines }) class.System

-- the reply to a wait tells the lines; one of value 1 leaves the hart parked until a pulse of its own
abbrev pub after_wait : State → Reply → Story
after_wait a reply =
    if reply.stop then StaysOver else (if reply.value == 1 then Parks (ends_wait a) else ends_wait a reply.lines)

abbrev pub after_wait_pulse : State → Reply → Story
after_wait_pulse a reply = if reply.stop then StaysOver else ends_wait a reply.lines

-- an interrupt is pending and enabled by the software bits of mip, without the lines
abbrev pub has_pending : List ℕ → Bool
has_pending stores = not (bit_and (slice_index stores mip) (slice_index stores mie) == 0)

-- where one is pending there is nothing to wait for, and a pulse alone is made
abbrev pub waits : State → Story
waits a = if has_pending a.csrs then Says (acc.Pulse false) (after_wait_pulse a)
    else Says (acc.Wait (slice_index a.csrs mie)) (after_wait a)

-- time goes on where the ends are a positive multiple of 64
abbrev pub is_tick : State → Bool
is_tick a = nat_lt 0 a.ends && is_multiple a.ends 64

module _ (setup : Setup) where
  -- an access of so many bytes tests its alignment, and then its address is translated (Volume I, "Load and Store
  -- Instructions"; misaligned accesses trap)
  abbrev pub reaches : State → Kind → ℕ → ℕ → (State → ℕ → Story) → Story
  reaches a kind width va access =
      if is_multiple va width then translates setup.ram a kind va access else traps a (misaligned kind) va

  -- a load at its physical address, which tests its place
  abbrev pub loads_at : ℕ → Bool → ℕ → ℕ → State → ℕ → Story
  loads_at width signed rd va a address = at_place (place_of setup.harts setup.ram address width)
      (Says (acc.Read address width) (λ reply. computes a class.Load rd (extended signed width reply.value)))
      (Says (acc.DevRead address width) (λ reply. computes_device a rd (extended signed width reply.value)))
      (traps a load_access_fault va)

  abbrev pub loads : State → ℕ → Bool → ℕ → ℕ → Story
  loads a width signed rd va = reaches a kind.Load width va (loads_at width signed rd va)

  -- a store; the value is cut to its width
  abbrev pub stores_at : ℕ → ℕ → ℕ → State → ℕ → Story
  stores_at width value va a address = at_place (place_of setup.harts setup.ram address width)
      (Says (acc.Write address width (low (8 * width) value)) (λ reply. passes a class.Store))
      (Says (acc.DevWrite address width (low (8 * width) value)) (λ reply. passes_device a))
      (traps a store_access_fault va)

  abbrev pub stores : State → ℕ → ℕ → ℕ → Story
  stores a width va value = reaches a kind.Store width va (stores_at width value va)

  -- an atomic instruction at its physical address has RAM alone as its place (Volume I, "A")
  abbrev pub in_ram_at : State → Kind → ℕ → ℕ → ℕ → Story → Story
  in_ram_at a kind width va address access =
      if in_ram setup.ram address width then access else traps a (access_fault kind) va

  -- a load-reserved reserves the aligned 8 bytes (Volume I, "Load-Reserved/Store-Conditional Instructions")
  abbrev pub loads_reserved_at : ℕ → ℕ → ℕ → State → ℕ → Story
  loads_reserved_at width rd va a address = in_ram_at a kind.Load width va address
      (Says (acc.Lr address width) (λ reply.
      computes (record a { reservation = Some (reservation_set address) }) class.Atomic rd (extended true width reply.value)))

  abbrev pub loads_reserved : State → ℕ → ℕ → ℕ → Story
  loads_reserved a width rd va = reaches a kind.Load width va (loads_reserved_at width rd va)

  -- a store-conditional makes its access within the hart's reservation alone; elsewhere it fails at once, with 1
  abbrev pub stores_conditional_at : ℕ → ℕ → ℕ → ℕ → State → ℕ → Story
  stores_conditional_at width rd value va a address = in_ram_at a kind.Store width va address
      (if is_reserved a.reservation (reservation_set address)
      then Says (acc.Sc address width (low (8 * width) value)) (λ reply. concludes a rd reply.value)
      else concludes a rd 1)

  abbrev pub stores_conditional : State → ℕ → ℕ → ℕ → ℕ → Story
  stores_conditional a width rd va value = reaches a kind.Store width va (stores_conditional_at width rd value va)

  -- an atomic memory operation; the register gets what stood in memory (Volume I, "Atomic Memory Operations")
  abbrev pub modifies_at : AmoOp → ℕ → ℕ → ℕ → ℕ → State → ℕ → Story
  modifies_at does width rd value va a address = in_ram_at a kind.Store width va address
      (Says (acc.Amo does address width (low (8 * width) value)) (λ reply.
      computes a class.Atomic rd (extended true width reply.value)))

  abbrev pub modifies : State → AmoOp → ℕ → ℕ → ℕ → ℕ → Story
  modifies a does width rd va value = reaches a kind.Store width va (modifies_at does width rd value va)

  -- the work of a decoded instruction
  abbrev pub works : State → ℕ → Op → Story
  works a word (op.Lui rd imm) = computes a class.Alu rd imm
  works a word (op.Auipc rd imm) = computes a class.Alu rd (wrap (a.pc + imm))
  works a word (op.AluImm does rd rs1 imm) = computes a class.Alu rd (alu_of does (reg a.x rs1) imm)
  works a word (op.AluReg does rd rs1 rs2) = computes a class.Alu rd (alu_of does (reg a.x rs1) (reg a.x rs2))
  works a word (op.Muldiv does rd rs1 rs2) = computes a class.Muldiv rd (muldiv_of does (reg a.x rs1) (reg a.x rs2))
  works a word (op.Jal rd imm) = jumps a (wrap (a.pc + imm)) rd
  works a word (op.Jalr rd rs1 imm) = jumps a (even (wrap (reg a.x rs1 + imm))) rd
  works a word (op.Branch compares rs1 rs2 imm) =
      branches a (is_taken compares (reg a.x rs1) (reg a.x rs2)) (wrap (a.pc + imm))
  works a word (op.Load width signed rd rs1 imm) = loads a width signed rd (wrap (reg a.x rs1 + imm))
  works a word (op.Store width rs1 rs2 imm) = stores a width (wrap (reg a.x rs1 + imm)) (reg a.x rs2)
  works a word (op.Lr width rd rs1 aq rl) = loads_reserved a width rd (reg a.x rs1)
  works a word (op.Sc width rd rs1 rs2 aq rl) = stores_conditional a width rd (reg a.x rs1) (reg a.x rs2)
  works a word (op.Amo does width rd rs1 rs2 aq rl) = modifies a does width rd (reg a.x rs1) (reg a.x rs2)
  works a word (op.Fence free) = passes a class.Fence
  works a word (op.FenceI free) = passes a class.Fence
  works a word (op.Csr does rd rs1 number) = uses_csr a word does rd rs1 number
  works a word op.Ecall = traps a (ecall_from a.mode) 0
  works a word op.Ebreak = traps a breakpoint 0
  works a word op.Mret = if is_machine a.mode then returns a (mret a.csrs) else traps_illegal a word
  works a word op.Sret = if supervises TSR a.csrs a.mode then returns a (sret a.csrs) else traps_illegal a word
  works a word op.Wfi = if supervises TW a.csrs a.mode then waits a else traps_illegal a word
  works a word (op.SfenceVma rs1 rs2) = if supervises TVM a.csrs a.mode then fences_memory a else traps_illegal a word
  works a word (op.Illegal whole) = traps_illegal a whole

  -- the fetch at its physical address, and the work of the word
  abbrev pub fetches_at : State → ℕ → Story
  fetches_at a address = if in_ram setup.ram address 4
      then Says (acc.Fetch address) (λ reply. works a reply.value (decoded reply.value))
      else traps a instruction_access_fault a.pc

  abbrev pub fetches : State → Story
  fetches a = translates setup.ram a kind.Fetch a.pc fetches_at

  -- an interrupt that can be taken is, before the instruction (Volume II, "Machine Interrupt Registers (mip and mie)")
  abbrev pub interrupted_by : State → Option ℕ → Story
  interrupted_by a None = fetches a
  interrupted_by a (Some cause) = traps a cause 0

  abbrev pub begins : State → Story
  begins a = interrupted_by a (takeable a.csrs a.lines a.mode)

  -- a pulse tells the lines, which count from here on, or that the run is to stop
  abbrev pub after_pulse : State → Reply → Story
  after_pulse a reply = if reply.stop then StaysOver else begins (record a { lines = reply.lines })

  -- the pulse, where one is due
  abbrev pub pulses : State → Story
  pulses a = if a.due then Says (acc.Pulse (is_tick a)) (after_pulse a) else begins a

  -- the whole instruction; a hart that has spent its budget retires
  abbrev pub story : State → Story
  story a = if a.ends == setup.budget
      then Says acc.Retire (λ reply. StaysOver)
      else pulses a

  -- what a hart wants whose instruction began in this state and has had these replies
  abbrev pub ask : State → List Reply → Want
  ask a replies = want (goes (story a) replies)
