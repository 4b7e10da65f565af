-- Traps, returns from them, and interrupts (Volume II, "Machine-Level ISA" and "Supervisor-Level ISA").
use Rattle.std.specs.Prelude.{ℕ, ◌+◌, ◌*◌, ◌%◌, ◌/◌, ◌^◌, Bool, true, false, not, ◌&&◌, ◌==◌, if◌then◌else◌, List, [], ◌∷◌, ◌++◌, Option, None, Some, filter, slice_index, slice_set, bit_or}
use Rattle.flex_base.specs.Word.{field, is_set, wrap}
use Rattle.flex_base.specs.Causes.{MEI, MSI, MTI, SEI, SSI, STI, interrupt, is_interrupt, code_of}
use Rattle.flex_base.specs.Csrs.{stvec, sepc, scause, stval, mstatus, medeleg, mideleg, mie, mtvec, mepc, mcause, mtval, mip, mcycle, minstret, SIE, MIE, SPIE, MPIE, SPP, MPP, MPRV, mode_number}
use Rattle.flex_base.specs.declared.hart.Mode.{Mode}
use Rattle.flex_base.specs.declared.hart.Mode.TheVariants as mode

-- where a trap or a return leads: the stores that it leaves, and the address and the mode of the next instruction
pub record Transfer : Type 0 where
  pub stores : List ℕ
  pub pc : ℕ
  pub mode : Mode

-- a word in which so many bits from `at` on are this value
abbrev pub with_field : ℕ → ℕ → ℕ → ℕ → ℕ
with_field at bits value word = word / 2 ^ (at + bits) * 2 ^ (at + bits) + value * 2 ^ at + word % 2 ^ at

abbrev pub with_bit : ℕ → ℕ → ℕ → ℕ
with_bit at value word = with_field at 1 value word

-- a trap from S or U goes to S where the cause's bit of the delegation register is set, and one from M never does (Volume II,
-- "Machine Trap Delegation Registers (medeleg and mideleg)")
abbrev pub delegation : List ℕ → ℕ → ℕ
delegation stores cause = slice_index stores (if is_interrupt cause then mideleg else medeleg)

abbrev pub goes_to_s : List ℕ → Mode → ℕ → Bool
goes_to_s stores mode.M cause = false
goes_to_s stores lower cause = is_set (code_of cause) (delegation stores cause)

-- where the handler begins: at the base, or of interrupts in vectored mode (1) 4 bytes further for each number of the cause
-- (Volume II, "Machine Trap-Vector Base-Address Register (mtvec)")
abbrev pub handler : ℕ → ℕ → ℕ
handler tvec cause = wrap (tvec / 4 * 4 + (if is_interrupt cause && field 0 2 tvec == 1 then 4 * code_of cause else 0))

-- mstatus after a trap: the enable bit of the level is kept beside the mode that was left, and is off then (Volume II, "Privilege
-- and Global Interrupt-Enable Stack in mstatus register")
abbrev pub mstatus_after_trap_to_m : ℕ → Mode → ℕ
mstatus_after_trap_to_m status from =
    with_bit MPIE (field MIE 1 status) (with_bit MIE 0 (with_field MPP 2 (mode_number from) status))

-- SPP has one bit, the lowest of the mode's number: 0 for U and 1 for S
abbrev pub mstatus_after_trap_to_s : ℕ → Mode → ℕ
mstatus_after_trap_to_s status from =
    with_bit SPIE (field SIE 1 status) (with_bit SIE 0 (with_bit SPP (field 0 1 (mode_number from)) status))

-- the stores with a trap's three values at the places of a level
abbrev pub with_trap_values : List ℕ → ℕ → ℕ → ℕ → ℕ → ℕ → ℕ → List ℕ
with_trap_values stores epc cause_place tval_place pc cause tval =
    slice_set (slice_set (slice_set stores epc pc) cause_place cause) tval_place tval

abbrev pub trap_to_m : List ℕ → ℕ → Mode → ℕ → ℕ → Transfer
trap_to_m stores pc from cause tval = record {
  stores = slice_set (with_trap_values stores mepc mcause mtval pc cause tval) mstatus (mstatus_after_trap_to_m (slice_index stores mstatus) from);
  pc = handler (slice_index stores mtvec) cause;
  mode = mode.M;
}

abbrev pub trap_to_s : List ℕ → ℕ → Mode → ℕ → ℕ → Transfer
trap_to_s stores pc from cause tval = record {
  stores = slice_set (with_trap_values stores sepc scause stval pc cause tval) mstatus (mstatus_after_trap_to_s (slice_index stores mstatus) from);
  pc = handler (slice_index stores stvec) cause;
  mode = mode.S;
}

-- a trap of this cause and value, taken in this mode at this address
unfoldable pub trap : List ℕ → ℕ → Mode → ℕ → ℕ → Transfer
trap stores pc from cause tval =
    if goes_to_s stores from cause then trap_to_s stores pc from cause tval else trap_to_m stores pc from cause tval

-- the mode of a number; the reserved 2 never stands in MPP
abbrev pub mode_of : ℕ → Mode
mode_of number = if number == 0 then mode.U else (if number == 1 then mode.S else mode.M)

-- a return to a mode below M clears MPRV
abbrev pub with_mprv_in_m : Mode → ℕ → ℕ
with_mprv_in_m mode.M status = status
with_mprv_in_m lower status = with_bit MPRV 0 status

-- mstatus after a return: the enable bit is what was kept of it, and the mode that was kept is now the lowest
abbrev pub mstatus_after_mret : ℕ → ℕ
mstatus_after_mret status =
    with_mprv_in_m (mode_of (field MPP 2 status)) (with_field MPP 2 0 (with_bit MPIE 1 (with_bit MIE (field MPIE 1 status) status)))

-- a return from S always leads below M
abbrev pub mstatus_after_sret : ℕ → ℕ
mstatus_after_sret status = with_bit MPRV 0 (with_bit SPP 0 (with_bit SPIE 1 (with_bit SIE (field SPIE 1 status) status)))

-- MRET and SRET (Volume II, "Trap-Return Instructions")
unfoldable pub mret : List ℕ → Transfer
mret stores = record {
  stores = slice_set stores mstatus (mstatus_after_mret (slice_index stores mstatus));
  pc = slice_index stores mepc;
  mode = mode_of (field MPP 2 (slice_index stores mstatus));
}

unfoldable pub sret : List ℕ → Transfer
sret stores = record {
  stores = slice_set stores mstatus (mstatus_after_sret (slice_index stores mstatus));
  pc = slice_index stores sepc;
  mode = mode_of (field SPP 1 (slice_index stores mstatus));
}

-- the stores with one more in a counter, which begins anew after its last value
abbrev pub with_one_more : ℕ → List ℕ → List ℕ
with_one_more place stores = slice_set stores place (wrap (slice_index stores place + 1))

-- the counters after an end: of cycles, of instructions, or of both (Volume II, "Hardware Performance Monitor")
unfoldable pub count : List ℕ → Bool → Bool → List ℕ
count stores cycle instret =
    let cycles : List ℕ = if cycle then with_one_more mcycle stores else stores in
    if instret then with_one_more minstret cycles else cycles

-- the interrupts in the order in which a level takes them (Volume II, "Machine Interrupt Registers (mip and mie)")
abbrev pub interrupts : List ℕ
interrupts = MEI ∷ MSI ∷ MTI ∷ SEI ∷ SSI ∷ STI ∷ []

-- pending and enabled
abbrev pub is_ready : List ℕ → ℕ → ℕ → Bool
is_ready stores lines i = is_set i (bit_or (slice_index stores mip) lines) && is_set i (slice_index stores mie)

-- whether a level takes interrupts in a mode: by its enable bit in its own mode, always below it and never above it
abbrev pub is_on_for_m : List ℕ → Mode → Bool
is_on_for_m stores mode.M = is_set MIE (slice_index stores mstatus)
is_on_for_m stores lower = true

abbrev pub is_on_for_s : List ℕ → Mode → Bool
is_on_for_s stores mode.M = false
is_on_for_s stores mode.S = is_set SIE (slice_index stores mstatus)
is_on_for_s stores mode.U = true

-- whether an interrupt may be taken to a level now
abbrev pub is_for_m : List ℕ → ℕ → Mode → ℕ → Bool
is_for_m stores lines mode i = is_ready stores lines i && not (is_set i (slice_index stores mideleg)) && is_on_for_m stores mode

abbrev pub is_for_s : List ℕ → ℕ → Mode → ℕ → Bool
is_for_s stores lines mode i = is_ready stores lines i && is_set i (slice_index stores mideleg) && is_on_for_s stores mode

-- all that may be taken, those to M first
abbrev pub candidates : List ℕ → ℕ → Mode → List ℕ
candidates stores lines mode = filter (is_for_m stores lines mode) interrupts ++ filter (is_for_s stores lines mode) interrupts

abbrev pub first_cause : List ℕ → Option ℕ
first_cause [] = None
first_cause (i ∷ rest) = Some (interrupt i)

-- the cause of the interrupt that is taken in this mode with these interrupt lines, if any is
unfoldable pub takeable : List ℕ → ℕ → Mode → Option ℕ
takeable stores lines mode = first_cause (candidates stores lines mode)
