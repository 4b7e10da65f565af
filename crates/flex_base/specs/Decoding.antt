-- Instruction words (Volume I, "RV32/64G Instruction Set Listings", and Volume II for the privileged instructions).
use Rattle.std.specs.Prelude.{ℕ, ◌+◌, ◌*◌, ◌^◌, ◌<◌, ◌≡◌, Bool, true, false, ◌==◌, List, [], ◌∷◌, Option, None, Some, find, bit_and}
use Rattle.flex_base.specs.Word.{field, sign_extend}
use Rattle.flex_base.specs.declared.operation.Op.{Op}
use Rattle.flex_base.specs.declared.operation.Op.TheVariants as op
use Rattle.flex_base.specs.declared.operation.AluOp.{AluOp}
use Rattle.flex_base.specs.declared.operation.AluOp.TheVariants as alu
use Rattle.flex_base.specs.declared.operation.MulOp.{MulOp}
use Rattle.flex_base.specs.declared.operation.MulOp.TheVariants as mul
use Rattle.flex_base.specs.declared.operation.AmoOp.{AmoOp}
use Rattle.flex_base.specs.declared.operation.AmoOp.TheVariants as amo
use Rattle.flex_base.specs.declared.operation.BranchOp.{BranchOp}
use Rattle.flex_base.specs.declared.operation.BranchOp.TheVariants as branch_op
use Rattle.flex_base.specs.declared.operation.CsrOp.{CsrOp}
use Rattle.flex_base.specs.declared.operation.CsrOp.TheVariants as csr_op

-- Fields.
abbrev pub rd_of : ℕ → ℕ
rd_of word = field 7 5 word

abbrev pub rs1_of : ℕ → ℕ
rs1_of word = field 15 5 word

abbrev pub rs2_of : ℕ → ℕ
rs2_of word = field 20 5 word

abbrev pub csr_of : ℕ → ℕ
csr_of word = field 20 12 word

abbrev pub aq_of : ℕ → Bool
aq_of word = field 26 1 word == 1

abbrev pub rl_of : ℕ → Bool
rl_of word = field 25 1 word == 1

-- what FENCE and FENCE.I leave open: bits 31:15 and 11:7
abbrev pub free_of : ℕ → ℕ
free_of word = field 15 17 word * 2 ^ 5 + field 7 5 word

-- a shift amount has 6 bits, in the word forms 5
abbrev pub shift_of : ℕ → ℕ
shift_of word = field 20 6 word

abbrev pub word_shift_of : ℕ → ℕ
word_shift_of word = field 20 5 word

-- Immediates: I is bits 31:20; S is 31:25 and 11:7; B is 31, 7, 30:25, 11:8 and a zero bit; U is 31:12 over 12 zero bits;
-- J is 31, 19:12, 20, 30:21 and a zero bit.
unfoldable pub imm_i : ℕ → ℕ
imm_i word = sign_extend 12 (field 20 12 word)

unfoldable pub imm_s : ℕ → ℕ
imm_s word = sign_extend 12 (field 25 7 word * 2 ^ 5 + field 7 5 word)

unfoldable pub imm_b : ℕ → ℕ
imm_b word = sign_extend 13 (field 31 1 word * 2 ^ 12 + field 7 1 word * 2 ^ 11 + field 25 6 word * 2 ^ 5 + field 8 4 word * 2)

unfoldable pub imm_u : ℕ → ℕ
imm_u word = sign_extend 32 (field 12 20 word * 2 ^ 12)

unfoldable pub imm_j : ℕ → ℕ
imm_j word = sign_extend 21 (field 31 1 word * 2 ^ 20 + field 12 8 word * 2 ^ 12 + field 20 1 word * 2 ^ 11 + field 21 10 word * 2)

-- An instruction: the bits that tell it, their values, and the operation with its fields.
pub record Row : Type 0 where
  pub mask : ℕ
  pub bits : ℕ
  pub make : ℕ → Op

abbrev pub row : ℕ → ℕ → (ℕ → Op) → Row
row mask bits make = record { mask = mask; bits = bits; make = make }

-- Forms.
abbrev pub lui : ℕ → Op
lui word = op.Lui (rd_of word) (imm_u word)

abbrev pub auipc : ℕ → Op
auipc word = op.Auipc (rd_of word) (imm_u word)

abbrev pub jal : ℕ → Op
jal word = op.Jal (rd_of word) (imm_j word)

abbrev pub jalr : ℕ → Op
jalr word = op.Jalr (rd_of word) (rs1_of word) (imm_i word)

abbrev pub branch : BranchOp → ℕ → Op
branch compares word = op.Branch compares (rs1_of word) (rs2_of word) (imm_b word)

abbrev pub load : ℕ → Bool → ℕ → Op
load width signed word = op.Load width signed (rd_of word) (rs1_of word) (imm_i word)

abbrev pub store : ℕ → ℕ → Op
store width word = op.Store width (rs1_of word) (rs2_of word) (imm_s word)

abbrev pub immediate : AluOp → ℕ → Op
immediate computes word = op.AluImm computes (rd_of word) (rs1_of word) (imm_i word)

abbrev pub shift : AluOp → ℕ → Op
shift computes word = op.AluImm computes (rd_of word) (rs1_of word) (shift_of word)

abbrev pub shift_word : AluOp → ℕ → Op
shift_word computes word = op.AluImm computes (rd_of word) (rs1_of word) (word_shift_of word)

abbrev pub register : AluOp → ℕ → Op
register computes word = op.AluReg computes (rd_of word) (rs1_of word) (rs2_of word)

abbrev pub muldiv : MulOp → ℕ → Op
muldiv computes word = op.Muldiv computes (rd_of word) (rs1_of word) (rs2_of word)

abbrev pub lr : ℕ → ℕ → Op
lr width word = op.Lr width (rd_of word) (rs1_of word) (aq_of word) (rl_of word)

abbrev pub sc : ℕ → ℕ → Op
sc width word = op.Sc width (rd_of word) (rs1_of word) (rs2_of word) (aq_of word) (rl_of word)

abbrev pub atomic : AmoOp → ℕ → ℕ → Op
atomic computes width word = op.Amo computes width (rd_of word) (rs1_of word) (rs2_of word) (aq_of word) (rl_of word)

abbrev pub fence : ℕ → Op
fence word = op.Fence (free_of word)

abbrev pub fence_i : ℕ → Op
fence_i word = op.FenceI (free_of word)

abbrev pub csr : CsrOp → ℕ → Op
csr does word = op.Csr does (rd_of word) (rs1_of word) (csr_of word)

abbrev pub sfence_vma : ℕ → Op
sfence_vma word = op.SfenceVma (rs1_of word) (rs2_of word)

-- an instruction with no fields
abbrev pub plain : Op → ℕ → Op
plain whole word = whole

-- Rows, under the manual's headings and in its order.
unfoldable pub rows : List Row
rows =
    -- RV32I Base Instruction Set
    row 0x0000007f 0x00000037 lui  -- LUI
    ∷ row 0x0000007f 0x00000017 auipc  -- AUIPC
    ∷ row 0x0000007f 0x0000006f jal  -- JAL
    ∷ row 0x0000707f 0x00000067 jalr  -- JALR
    ∷ row 0x0000707f 0x00000063 (branch branch_op.Eq)  -- BEQ
    ∷ row 0x0000707f 0x00001063 (branch branch_op.Ne)  -- BNE
    ∷ row 0x0000707f 0x00004063 (branch branch_op.Lt)  -- BLT
    ∷ row 0x0000707f 0x00005063 (branch branch_op.Ge)  -- BGE
    ∷ row 0x0000707f 0x00006063 (branch branch_op.Ltu)  -- BLTU
    ∷ row 0x0000707f 0x00007063 (branch branch_op.Geu)  -- BGEU
    ∷ row 0x0000707f 0x00000003 (load 1 true)  -- LB
    ∷ row 0x0000707f 0x00001003 (load 2 true)  -- LH
    ∷ row 0x0000707f 0x00002003 (load 4 true)  -- LW
    ∷ row 0x0000707f 0x00004003 (load 1 false)  -- LBU
    ∷ row 0x0000707f 0x00005003 (load 2 false)  -- LHU
    ∷ row 0x0000707f 0x00000023 (store 1)  -- SB
    ∷ row 0x0000707f 0x00001023 (store 2)  -- SH
    ∷ row 0x0000707f 0x00002023 (store 4)  -- SW
    ∷ row 0x0000707f 0x00000013 (immediate alu.Add)  -- ADDI
    ∷ row 0x0000707f 0x00002013 (immediate alu.Slt)  -- SLTI
    ∷ row 0x0000707f 0x00003013 (immediate alu.Sltu)  -- SLTIU
    ∷ row 0x0000707f 0x00004013 (immediate alu.Xor)  -- XORI
    ∷ row 0x0000707f 0x00006013 (immediate alu.Or)  -- ORI
    ∷ row 0x0000707f 0x00007013 (immediate alu.And)  -- ANDI
    ∷ row 0xfe00707f 0x00000033 (register alu.Add)  -- ADD
    ∷ row 0xfe00707f 0x40000033 (register alu.Sub)  -- SUB
    ∷ row 0xfe00707f 0x00001033 (register alu.Sll)  -- SLL
    ∷ row 0xfe00707f 0x00002033 (register alu.Slt)  -- SLT
    ∷ row 0xfe00707f 0x00003033 (register alu.Sltu)  -- SLTU
    ∷ row 0xfe00707f 0x00004033 (register alu.Xor)  -- XOR
    ∷ row 0xfe00707f 0x00005033 (register alu.Srl)  -- SRL
    ∷ row 0xfe00707f 0x40005033 (register alu.Sra)  -- SRA
    ∷ row 0xfe00707f 0x00006033 (register alu.Or)  -- OR
    ∷ row 0xfe00707f 0x00007033 (register alu.And)  -- AND
    ∷ row 0x0000707f 0x0000000f fence  -- FENCE
    ∷ row 0xffffffff 0x00000073 (plain op.Ecall)  -- ECALL
    ∷ row 0xffffffff 0x00100073 (plain op.Ebreak)  -- EBREAK
    -- RV64I Base Instruction Set (in addition to RV32I)
    ∷ row 0x0000707f 0x00006003 (load 4 false)  -- LWU
    ∷ row 0x0000707f 0x00003003 (load 8 true)  -- LD
    ∷ row 0x0000707f 0x00003023 (store 8)  -- SD
    ∷ row 0xfc00707f 0x00001013 (shift alu.Sll)  -- SLLI
    ∷ row 0xfc00707f 0x00005013 (shift alu.Srl)  -- SRLI
    ∷ row 0xfc00707f 0x40005013 (shift alu.Sra)  -- SRAI
    ∷ row 0x0000707f 0x0000001b (immediate alu.Addw)  -- ADDIW
    ∷ row 0xfe00707f 0x0000101b (shift_word alu.Sllw)  -- SLLIW
    ∷ row 0xfe00707f 0x0000501b (shift_word alu.Srlw)  -- SRLIW
    ∷ row 0xfe00707f 0x4000501b (shift_word alu.Sraw)  -- SRAIW
    ∷ row 0xfe00707f 0x0000003b (register alu.Addw)  -- ADDW
    ∷ row 0xfe00707f 0x4000003b (register alu.Subw)  -- SUBW
    ∷ row 0xfe00707f 0x0000103b (register alu.Sllw)  -- SLLW
    ∷ row 0xfe00707f 0x0000503b (register alu.Srlw)  -- SRLW
    ∷ row 0xfe00707f 0x4000503b (register alu.Sraw)  -- SRAW
    -- RV32/RV64 Zifencei Standard Extension
    ∷ row 0x0000707f 0x0000100f fence_i  -- FENCE.I
    -- RV32/RV64 Zicsr Standard Extension
    ∷ row 0x0000707f 0x00001073 (csr csr_op.Rw)  -- CSRRW
    ∷ row 0x0000707f 0x00002073 (csr csr_op.Rs)  -- CSRRS
    ∷ row 0x0000707f 0x00003073 (csr csr_op.Rc)  -- CSRRC
    ∷ row 0x0000707f 0x00005073 (csr csr_op.Rwi)  -- CSRRWI
    ∷ row 0x0000707f 0x00006073 (csr csr_op.Rsi)  -- CSRRSI
    ∷ row 0x0000707f 0x00007073 (csr csr_op.Rci)  -- CSRRCI
    -- RV32M Standard Extension
    ∷ row 0xfe00707f 0x02000033 (muldiv mul.Mul)  -- MUL
    ∷ row 0xfe00707f 0x02001033 (muldiv mul.Mulh)  -- MULH
    ∷ row 0xfe00707f 0x02002033 (muldiv mul.Mulhsu)  -- MULHSU
    ∷ row 0xfe00707f 0x02003033 (muldiv mul.Mulhu)  -- MULHU
    ∷ row 0xfe00707f 0x02004033 (muldiv mul.Div)  -- DIV
    ∷ row 0xfe00707f 0x02005033 (muldiv mul.Divu)  -- DIVU
    ∷ row 0xfe00707f 0x02006033 (muldiv mul.Rem)  -- REM
    ∷ row 0xfe00707f 0x02007033 (muldiv mul.Remu)  -- REMU
    -- RV64M Standard Extension (in addition to RV32M)
    ∷ row 0xfe00707f 0x0200003b (muldiv mul.Mulw)  -- MULW
    ∷ row 0xfe00707f 0x0200403b (muldiv mul.Divw)  -- DIVW
    ∷ row 0xfe00707f 0x0200503b (muldiv mul.Divuw)  -- DIVUW
    ∷ row 0xfe00707f 0x0200603b (muldiv mul.Remw)  -- REMW
    ∷ row 0xfe00707f 0x0200703b (muldiv mul.Remuw)  -- REMUW
    -- RV32A Standard Extension
    ∷ row 0xf9f0707f 0x1000202f (lr 4)  -- LR.W
    ∷ row 0xf800707f 0x1800202f (sc 4)  -- SC.W
    ∷ row 0xf800707f 0x0800202f (atomic amo.Swap 4)  -- AMOSWAP.W
    ∷ row 0xf800707f 0x0000202f (atomic amo.Add 4)  -- AMOADD.W
    ∷ row 0xf800707f 0x2000202f (atomic amo.Xor 4)  -- AMOXOR.W
    ∷ row 0xf800707f 0x6000202f (atomic amo.And 4)  -- AMOAND.W
    ∷ row 0xf800707f 0x4000202f (atomic amo.Or 4)  -- AMOOR.W
    ∷ row 0xf800707f 0x8000202f (atomic amo.Min 4)  -- AMOMIN.W
    ∷ row 0xf800707f 0xa000202f (atomic amo.Max 4)  -- AMOMAX.W
    ∷ row 0xf800707f 0xc000202f (atomic amo.Minu 4)  -- AMOMINU.W
    ∷ row 0xf800707f 0xe000202f (atomic amo.Maxu 4)  -- AMOMAXU.W
    -- RV64A Standard Extension (in addition to RV32A)
    ∷ row 0xf9f0707f 0x1000302f (lr 8)  -- LR.D
    ∷ row 0xf800707f 0x1800302f (sc 8)  -- SC.D
    ∷ row 0xf800707f 0x0800302f (atomic amo.Swap 8)  -- AMOSWAP.D
    ∷ row 0xf800707f 0x0000302f (atomic amo.Add 8)  -- AMOADD.D
    ∷ row 0xf800707f 0x2000302f (atomic amo.Xor 8)  -- AMOXOR.D
    ∷ row 0xf800707f 0x6000302f (atomic amo.And 8)  -- AMOAND.D
    ∷ row 0xf800707f 0x4000302f (atomic amo.Or 8)  -- AMOOR.D
    ∷ row 0xf800707f 0x8000302f (atomic amo.Min 8)  -- AMOMIN.D
    ∷ row 0xf800707f 0xa000302f (atomic amo.Max 8)  -- AMOMAX.D
    ∷ row 0xf800707f 0xc000302f (atomic amo.Minu 8)  -- AMOMINU.D
    ∷ row 0xf800707f 0xe000302f (atomic amo.Maxu 8)  -- AMOMAXU.D
    -- Volume II: trap return, interrupt management and supervisor memory management
    ∷ row 0xffffffff 0x10200073 (plain op.Sret)  -- SRET
    ∷ row 0xffffffff 0x30200073 (plain op.Mret)  -- MRET
    ∷ row 0xffffffff 0x10500073 (plain op.Wfi)  -- WFI
    ∷ row 0xfe007fff 0x12000073 sfence_vma  -- SFENCE.VMA
    ∷ []

abbrev pub fits_row : ℕ → Row → Bool
fits_row word r = bit_and word r.mask == r.bits

abbrev pub made_by : ℕ → Option Row → Op
made_by word None = op.Illegal word
made_by word (Some r) = r.make word

-- the operation of the row that the word matches; a word that no row matches is illegal
unfoldable pub decoded : ℕ → Op
decoded word = made_by word (find (fits_row word) rows)

-- the operation of some instruction word
abbrev pub IsDecoding : Op → Type 0
IsDecoding whole = (word : ℕ) × (word < 2 ^ 32) × (decoded word ≡ whole)
