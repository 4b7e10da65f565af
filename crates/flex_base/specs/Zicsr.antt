-- CSR instructions (Volume I, "Zicsr", Extension for Control and Status Register (CSR) Instructions).
use Rattle.std.specs.Prelude.{ℕ, Bool, true, not, ◌&&◌, ◌||◌, ◌==◌, List, [], ◌∷◌, is_some, unwrap_or, bit_and, bit_or}
use Rattle.std.specs.List.{list_any}
use Rattle.flex_base.specs.Word.{field}
use Rattle.flex_base.specs.Csrs.{all_but, is_satp_mode, csr_read, csr_write}
use Rattle.flex_base.specs.Traps.{count}
use Rattle.flex_base.specs.State.{State, reg}
use Rattle.flex_base.specs.declared.operation.CsrOp.{CsrOp}
use Rattle.flex_base.specs.declared.operation.CsrOp.TheVariants as csr_op

-- Numbers of the registers with which more happens than reading and writing (Volume II, "CSR Listing").
abbrev pub CSR_SSTATUS : ℕ
CSR_SSTATUS = 0x100

abbrev pub CSR_SIE : ℕ
CSR_SIE = 0x104

abbrev pub CSR_SIP : ℕ
CSR_SIP = 0x144

abbrev pub CSR_SATP : ℕ
CSR_SATP = 0x180

abbrev pub CSR_MSTATUS : ℕ
CSR_MSTATUS = 0x300

abbrev pub CSR_MIDELEG : ℕ
CSR_MIDELEG = 0x303

abbrev pub CSR_MIE : ℕ
CSR_MIE = 0x304

abbrev pub CSR_MIP : ℕ
CSR_MIP = 0x344

abbrev pub CSR_MCYCLE : ℕ
CSR_MCYCLE = 0xb00

abbrev pub CSR_MINSTRET : ℕ
CSR_MINSTRET = 0xb02

abbrev pub CSR_TIME : ℕ
CSR_TIME = 0xc01

-- What an instruction does to the register.

-- a swap reads it only where it has a register for the value; the others always do
abbrev pub reads_csr : CsrOp → ℕ → Bool
reads_csr csr_op.Rw rd = not (rd == 0)
reads_csr csr_op.Rwi rd = not (rd == 0)
reads_csr other rd = true

-- a swap always writes it; setting and clearing write it only where the operand is no x0 and no immediate 0
abbrev pub writes_csr : CsrOp → ℕ → Bool
writes_csr csr_op.Rw rs1 = true
writes_csr csr_op.Rwi rs1 = true
writes_csr other rs1 = not (rs1 == 0)

-- the operand: a register, or the immediate itself
abbrev pub csr_operand : CsrOp → List ℕ → ℕ → ℕ
csr_operand csr_op.Rw x rs1 = reg x rs1
csr_operand csr_op.Rs x rs1 = reg x rs1
csr_operand csr_op.Rc x rs1 = reg x rs1
csr_operand immediate x uimm = uimm

-- the value written, by the old one and the operand: a swap, bits set, or bits cleared
abbrev pub csr_result : CsrOp → ℕ → ℕ → ℕ
csr_result csr_op.Rw old operand = operand
csr_result csr_op.Rwi old operand = operand
csr_result csr_op.Rs old operand = bit_or old operand
csr_result csr_op.Rsi old operand = bit_or old operand
csr_result csr_op.Rc old operand = bit_and old (all_but operand)
csr_result csr_op.Rci old operand = bit_and old (all_but operand)

-- whether the mode may do all of that, which the lines, the time and the value don't change
abbrev pub may_use_csr : State → CsrOp → ℕ → ℕ → ℕ → Bool
may_use_csr a does rd rs1 number =
    (not (reads_csr does rd) || is_some (csr_read a.csrs number a.mode 0 0))
    && (not (writes_csr does rs1) || is_some (csr_write a.csrs number a.mode 0))

-- the interrupts that are pending are read
abbrev pub is_pending_csr : ℕ → Bool
is_pending_csr number = number == CSR_MIP || number == CSR_SIP

-- what is read with these interrupt lines and at this time; in a register that tells neither they don't count
abbrev pub csr_value : State → ℕ → ℕ → ℕ → ℕ
csr_value a number lines time = unwrap_or (csr_read a.csrs number a.mode lines time) 0

-- the stores after a write
abbrev pub csrs_with : State → ℕ → ℕ → List ℕ
csrs_with a number value = unwrap_or (csr_write a.csrs number a.mode value) a.csrs

-- an instruction that writes a counter doesn't count in it (Volume II, "Hardware Performance Monitor")
abbrev pub count_but : ℕ → List ℕ → List ℕ
count_but number stores = count stores (not (number == CSR_MCYCLE)) (not (number == CSR_MINSTRET))

-- the registers on which it depends which interrupts are taken; a pulse is due after a write of one
abbrev pub interrupt_csrs : List ℕ
interrupt_csrs =
    CSR_MSTATUS ∷ CSR_MIE ∷ CSR_MIP ∷ CSR_MIDELEG ∷ CSR_SSTATUS ∷ CSR_SIE ∷ CSR_SIP ∷ []

abbrev pub makes_due : ℕ → Bool
makes_due number = list_any (λ n. number == n) interrupt_csrs

-- a write of satp that takes effect, which is one of a MODE that there is
abbrev pub turns_satp : ℕ → ℕ → Bool
turns_satp number value = number == CSR_SATP && is_satp_mode (field 60 4 value)
