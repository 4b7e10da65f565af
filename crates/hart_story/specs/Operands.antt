-- What an operation names: registers that there are, and widths of memory.
use Rattle.std.specs.Prelude.{ℕ, ◌<◌}
use Rattle.flex_base.specs.Forms.{IsWidth, IsAtomicWidth}
use Rattle.flex_base.specs.declared.operation.Op.{Op}
use Rattle.flex_base.specs.declared.operation.Op.TheVariants as op

abbrev pub IsRegister : ℕ → Type 0
IsRegister r = r < 32

-- the operands of an operation
abbrev pub HasOperands : Op → Type 0
HasOperands (op.Lui rd imm) = IsRegister rd
HasOperands (op.Auipc rd imm) = IsRegister rd
HasOperands (op.Jal rd imm) = IsRegister rd
HasOperands (op.Jalr rd rs1 imm) = IsRegister rd × IsRegister rs1
HasOperands (op.Branch compares rs1 rs2 imm) = IsRegister rs1 × IsRegister rs2
HasOperands (op.Load width signed rd rs1 imm) = IsWidth width × IsRegister rd × IsRegister rs1
HasOperands (op.Store width rs1 rs2 imm) = IsWidth width × IsRegister rs1 × IsRegister rs2
HasOperands (op.AluImm does rd rs1 imm) = IsRegister rd × IsRegister rs1
HasOperands (op.AluReg does rd rs1 rs2) = IsRegister rd × IsRegister rs1 × IsRegister rs2
HasOperands (op.Muldiv does rd rs1 rs2) = IsRegister rd × IsRegister rs1 × IsRegister rs2
HasOperands (op.Lr width rd rs1 aq rl) = IsAtomicWidth width × IsRegister rd × IsRegister rs1
HasOperands (op.Sc width rd rs1 rs2 aq rl) = IsAtomicWidth width × IsRegister rd × IsRegister rs1 × IsRegister rs2
HasOperands (op.Amo does width rd rs1 rs2 aq rl) = IsAtomicWidth width × IsRegister rd × IsRegister rs1 × IsRegister rs2
HasOperands (op.Csr does rd rs1 number) = IsRegister rd × IsRegister rs1
HasOperands other = Unit {0}
