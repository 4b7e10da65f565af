-- The word of an operation, by the manual's formats (Volume I, "Base Instruction Formats", "Immediate Encoding Variants").
use Rattle.std.specs.Prelude.{ℕ, ◌+◌, ◌*◌, ◌^◌, Bool, true, false, ◌==◌, if◌then◌else◌}
use Rattle.flex_base.specs.Word.{field, low}
use Rattle.flex_base.specs.declared.operation.Op.{Op}
use Rattle.flex_base.specs.declared.operation.Op.TheVariants as op
use Rattle.flex_base.specs.declared.operation.AluOp.{AluOp}
use Rattle.flex_base.specs.declared.operation.AluOp.TheVariants as alu
use Rattle.flex_base.specs.declared.operation.MulOp.{MulOp}
use Rattle.flex_base.specs.declared.operation.MulOp.TheVariants as mul
use Rattle.flex_base.specs.declared.operation.AmoOp.{AmoOp}
use Rattle.flex_base.specs.declared.operation.AmoOp.TheVariants as amo
use Rattle.flex_base.specs.declared.operation.BranchOp.{BranchOp}
use Rattle.flex_base.specs.declared.operation.BranchOp.TheVariants as branch_op
use Rattle.flex_base.specs.declared.operation.CsrOp.{CsrOp}
use Rattle.flex_base.specs.declared.operation.CsrOp.TheVariants as csr_op

-- so many bits of the value, from bit `from` on, put at bit `at` of the word
abbrev pub placed : ℕ → ℕ → ℕ → ℕ → ℕ
placed value from bits at = field from bits value * 2 ^ at

-- Formats.
abbrev pub r_type : ℕ → ℕ → ℕ → ℕ → ℕ → ℕ → ℕ
r_type opcode funct3 funct7 rd rs1 rs2 = placed funct7 0 7 25 + placed rs2 0 5 20 + placed rs1 0 5 15 + placed funct3 0 3 12 + placed rd 0 5 7 + opcode

abbrev pub i_type : ℕ → ℕ → ℕ → ℕ → ℕ → ℕ
i_type opcode funct3 rd rs1 imm = placed imm 0 12 20 + placed rs1 0 5 15 + placed funct3 0 3 12 + placed rd 0 5 7 + opcode

abbrev pub s_type : ℕ → ℕ → ℕ → ℕ → ℕ → ℕ
s_type opcode funct3 rs1 rs2 imm = placed imm 5 7 25 + placed rs2 0 5 20 + placed rs1 0 5 15 + placed funct3 0 3 12 + placed imm 0 5 7 + opcode

abbrev pub b_type : ℕ → ℕ → ℕ → ℕ → ℕ → ℕ
b_type opcode funct3 rs1 rs2 imm = placed imm 12 1 31 + placed imm 5 6 25 + placed rs2 0 5 20 + placed rs1 0 5 15 + placed funct3 0 3 12 + placed imm 1 4 8 + placed imm 11 1 7 + opcode

abbrev pub u_type : ℕ → ℕ → ℕ → ℕ
u_type opcode rd imm = placed imm 12 20 12 + placed rd 0 5 7 + opcode

abbrev pub j_type : ℕ → ℕ → ℕ → ℕ
j_type opcode rd imm = placed imm 20 1 31 + placed imm 1 10 21 + placed imm 11 1 20 + placed imm 12 8 12 + placed rd 0 5 7 + opcode

-- FENCE and FENCE.I keep the bits that they leave open
abbrev pub fence_type : ℕ → ℕ → ℕ
fence_type funct3 free = placed free 5 17 15 + placed funct3 0 3 12 + placed free 0 5 7 + 0x0f

-- The numbers that tell the instructions apart.
abbrev pub branch_funct3 : BranchOp → ℕ
branch_funct3 branch_op.Eq = 0
branch_funct3 branch_op.Ne = 1
branch_funct3 branch_op.Lt = 4
branch_funct3 branch_op.Ge = 5
branch_funct3 branch_op.Ltu = 6
branch_funct3 branch_op.Geu = 7

-- the base 2 logarithm of a width in bytes
abbrev pub width_code : ℕ → ℕ
width_code width = if width == 1 then 0 else (if width == 2 then 1 else (if width == 4 then 2 else 3))

abbrev pub load_funct3 : ℕ → Bool → ℕ
load_funct3 width true = width_code width
load_funct3 width false = width_code width + 4

-- the word forms have opcodes of their own
abbrev pub alu_immediate_opcode : AluOp → ℕ
alu_immediate_opcode alu.Addw = 0x1b
alu_immediate_opcode alu.Subw = 0x1b
alu_immediate_opcode alu.Sllw = 0x1b
alu_immediate_opcode alu.Srlw = 0x1b
alu_immediate_opcode alu.Sraw = 0x1b
alu_immediate_opcode other = 0x13

abbrev pub alu_opcode : AluOp → ℕ
alu_opcode alu.Addw = 0x3b
alu_opcode alu.Subw = 0x3b
alu_opcode alu.Sllw = 0x3b
alu_opcode alu.Srlw = 0x3b
alu_opcode alu.Sraw = 0x3b
alu_opcode other = 0x33

abbrev pub alu_funct3 : AluOp → ℕ
alu_funct3 alu.Add = 0
alu_funct3 alu.Sub = 0
alu_funct3 alu.Sll = 1
alu_funct3 alu.Slt = 2
alu_funct3 alu.Sltu = 3
alu_funct3 alu.Xor = 4
alu_funct3 alu.Srl = 5
alu_funct3 alu.Sra = 5
alu_funct3 alu.Or = 6
alu_funct3 alu.And = 7
alu_funct3 alu.Addw = 0
alu_funct3 alu.Subw = 0
alu_funct3 alu.Sllw = 1
alu_funct3 alu.Srlw = 5
alu_funct3 alu.Sraw = 5

abbrev pub alu_funct7 : AluOp → ℕ
alu_funct7 alu.Sub = 0x20
alu_funct7 alu.Sra = 0x20
alu_funct7 alu.Subw = 0x20
alu_funct7 alu.Sraw = 0x20
alu_funct7 other = 0

-- the immediate's 12 bits: those of a shift have the amount below and bit 10 for the arithmetic ones
abbrev pub alu_immediate : AluOp → ℕ → ℕ
alu_immediate alu.Sll imm = low 6 imm
alu_immediate alu.Srl imm = low 6 imm
alu_immediate alu.Sra imm = low 6 imm + 0x400
alu_immediate alu.Sllw imm = low 5 imm
alu_immediate alu.Srlw imm = low 5 imm
alu_immediate alu.Sraw imm = low 5 imm + 0x400
alu_immediate other imm = imm

abbrev pub mul_opcode : MulOp → ℕ
mul_opcode mul.Mulw = 0x3b
mul_opcode mul.Divw = 0x3b
mul_opcode mul.Divuw = 0x3b
mul_opcode mul.Remw = 0x3b
mul_opcode mul.Remuw = 0x3b
mul_opcode other = 0x33

abbrev pub mul_funct3 : MulOp → ℕ
mul_funct3 mul.Mul = 0
mul_funct3 mul.Mulh = 1
mul_funct3 mul.Mulhsu = 2
mul_funct3 mul.Mulhu = 3
mul_funct3 mul.Div = 4
mul_funct3 mul.Divu = 5
mul_funct3 mul.Rem = 6
mul_funct3 mul.Remu = 7
mul_funct3 mul.Mulw = 0
mul_funct3 mul.Divw = 4
mul_funct3 mul.Divuw = 5
mul_funct3 mul.Remw = 6
mul_funct3 mul.Remuw = 7

abbrev pub amo_funct5 : AmoOp → ℕ
amo_funct5 amo.Swap = 0x01
amo_funct5 amo.Add = 0x00
amo_funct5 amo.Xor = 0x04
amo_funct5 amo.And = 0x0c
amo_funct5 amo.Or = 0x08
amo_funct5 amo.Min = 0x10
amo_funct5 amo.Max = 0x14
amo_funct5 amo.Minu = 0x18
amo_funct5 amo.Maxu = 0x1c

abbrev pub csr_funct3 : CsrOp → ℕ
csr_funct3 csr_op.Rw = 1
csr_funct3 csr_op.Rs = 2
csr_funct3 csr_op.Rc = 3
csr_funct3 csr_op.Rwi = 5
csr_funct3 csr_op.Rsi = 6
csr_funct3 csr_op.Rci = 7

abbrev pub bit : Bool → ℕ
bit set = if set then 1 else 0

abbrev pub atomic_funct7 : ℕ → Bool → Bool → ℕ
atomic_funct7 funct5 aq rl = funct5 * 4 + bit aq * 2 + bit rl

-- the atomics
abbrev pub atomic_type : ℕ → ℕ → ℕ → ℕ → ℕ → Bool → Bool → ℕ
atomic_type funct5 width rd rs1 rs2 aq rl = r_type 0x2f (width_code width) (atomic_funct7 funct5 aq rl) rd rs1 rs2

-- the word that this operation is the decoding of, where there is one
abbrev pub encoded : Op → ℕ
encoded (op.Lui rd imm) = u_type 0x37 rd imm
encoded (op.Auipc rd imm) = u_type 0x17 rd imm
encoded (op.Jal rd imm) = j_type 0x6f rd imm
encoded (op.Jalr rd rs1 imm) = i_type 0x67 0 rd rs1 imm
encoded (op.Branch compares rs1 rs2 imm) = b_type 0x63 (branch_funct3 compares) rs1 rs2 imm
encoded (op.Load width signed rd rs1 imm) = i_type 0x03 (load_funct3 width signed) rd rs1 imm
encoded (op.Store width rs1 rs2 imm) = s_type 0x23 (width_code width) rs1 rs2 imm
encoded (op.AluImm computes rd rs1 imm) = i_type (alu_immediate_opcode computes) (alu_funct3 computes) rd rs1 (alu_immediate computes imm)
encoded (op.AluReg computes rd rs1 rs2) = r_type (alu_opcode computes) (alu_funct3 computes) (alu_funct7 computes) rd rs1 rs2
encoded (op.Muldiv computes rd rs1 rs2) = r_type (mul_opcode computes) (mul_funct3 computes) 1 rd rs1 rs2
encoded (op.Lr width rd rs1 aq rl) = atomic_type 0x02 width rd rs1 0 aq rl
encoded (op.Sc width rd rs1 rs2 aq rl) = atomic_type 0x03 width rd rs1 rs2 aq rl
encoded (op.Amo computes width rd rs1 rs2 aq rl) = atomic_type (amo_funct5 computes) width rd rs1 rs2 aq rl
encoded (op.Fence free) = fence_type 0 free
encoded (op.FenceI free) = fence_type 1 free
encoded (op.Csr does rd rs1 number) = i_type 0x73 (csr_funct3 does) rd rs1 number
encoded op.Ecall = 0x00000073
encoded op.Ebreak = 0x00100073
encoded op.Sret = 0x10200073
encoded op.Mret = 0x30200073
encoded op.Wfi = 0x10500073
encoded (op.SfenceVma rs1 rs2) = r_type 0x73 0 0x09 0 rs1 rs2
encoded (op.Illegal word) = word
