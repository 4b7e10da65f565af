-- What is spelled from a row's operation is the word that the operation was made from.
use Rattle.std.proofs.Common.{◌≡◌, ◌<◌, ℕ, ◌+◌, ◌^◌, Bool, true, false, cond, eqb, List, [], ◌∷◌, Option, Some, bit_and, refl, arith}
use Rattle.std.proofs.lemmas.Bool.{eqb-true}
use Rattle.std.proofs.lemmas.Bool.Decides.{nat_tests}
use Rattle.std.specs.List.{find}
use Rattle.flex_base.specs.Word.{field}
use Rattle.flex_base.specs.Decoding.{Row, row, rows, decoded, fits_row, made_by, rd_of, rs1_of, rs2_of, imm_i, imm_s, imm_b, imm_u, imm_j}
use Rattle.flex_base.specs.Decoding.{lui, auipc, jal, jalr, branch, load, store, immediate, shift, shift_word, register, muldiv, lr, sc, atomic, fence, fence_i, csr, sfence_vma, plain}
use Rattle.flex_base.specs.declared.operation.Op.{Op}
use Rattle.flex_base.specs.declared.operation.Op.TheVariants as op
use Rattle.flex_base.specs.declared.operation.AluOp.{AluOp}
use Rattle.flex_base.specs.declared.operation.AluOp.TheVariants as alu
use Rattle.flex_base.specs.declared.operation.MulOp.{MulOp}
use Rattle.flex_base.specs.declared.operation.MulOp.TheVariants as mul
use Rattle.flex_base.specs.declared.operation.AmoOp.{AmoOp}
use Rattle.flex_base.specs.declared.operation.AmoOp.TheVariants as amo
use Rattle.flex_base.specs.declared.operation.BranchOp.{BranchOp}
use Rattle.flex_base.specs.declared.operation.BranchOp.TheVariants as branch_op
use Rattle.flex_base.specs.declared.operation.CsrOp.{CsrOp}
use Rattle.flex_base.specs.declared.operation.CsrOp.TheVariants as csr_op
use Rattle.rv_decode.proofs.Pieces.{spelled, InRange, masked, masked-and}
use Rattle.rv_decode.specs.Encoding.{encoded, placed, i_type, s_type, b_type, u_type, j_type, branch_funct3, width_code, load_funct3, alu_immediate_opcode, alu_opcode, alu_funct3, alu_funct7, alu_immediate, mul_opcode, mul_funct3, amo_funct5, csr_funct3, bit}

-- What each mask leaves of a word.

-- the pieces of a word
abbrev cut : ℕ → List (ℕ × ℕ)
cut word = (7, field 0 7 word) ∷ (5, field 7 5 word) ∷ (3, field 12 3 word) ∷ (5, field 15 5 word) ∷ (5, field 20 5 word) ∷ (1, field 25 1 word) ∷ (1, field 26 1 word) ∷ (5, field 27 5 word) ∷ []

under : (word mask : ℕ) → word < 2 ^ 32 → bit_and word mask ≡ masked (cut word) mask
under word mask small =
    let within : InRange (cut word) = (omega arith, (omega arith, (omega arith, (omega arith, (omega arith, (omega arith, (omega arith, (omega arith, tt)))))))) in
    let whole : spelled (cut word) ≡ word = omega arith in
    rw masked-and (cc)

-- What the formats spell from the fields of a word.
module _ (word : ℕ) (small : word < 2 ^ 32) where
  i_back : i_type (field 0 7 word) (field 12 3 word) (rd_of word) (rs1_of word) (imm_i word) ≡ word
  unfolding imm_i
  i_back = grind (arith, nat_tests)

  s_back : s_type (field 0 7 word) (field 12 3 word) (rs1_of word) (rs2_of word) (imm_s word) ≡ word
  unfolding imm_s
  s_back = grind (arith, nat_tests)

  b_back : b_type (field 0 7 word) (field 12 3 word) (rs1_of word) (rs2_of word) (imm_b word) ≡ word
  unfolding imm_b
  b_back = grind (arith, nat_tests)

  u_back : u_type (field 0 7 word) (rd_of word) (imm_u word) ≡ word
  unfolding imm_u
  u_back = grind (arith, nat_tests)

  j_back : j_type (field 0 7 word) (rd_of word) (imm_j word) ≡ word
  unfolding imm_j
  j_back = grind (arith, nat_tests)

abbrev Back : Row → Type 0
Back r = (word : ℕ) → word < 2 ^ 32 → fits_row word r ≡ true → encoded (r.make word) ≡ word

-- what a row asks of a word, as an equation
asked : (word mask bits : ℕ) → word < 2 ^ 32 → eqb (bit_and word mask) bits ≡ true → masked (cut word) mask ≡ bits
asked word mask bits small fits = let whole = eqb-true (bit_and word mask) bits fits in let parts = under word mask small in cc

lui_row : Back (row 0x0000007f 0x37 lui)
lui_row word small fits = omega (arith, asked word 0x7f 0x37 small fits, u_back word small)

auipc_row : Back (row 0x0000007f 0x17 auipc)
auipc_row word small fits = omega (arith, asked word 0x7f 0x17 small fits, u_back word small)

jal_row : Back (row 0x0000007f 0x6f jal)
jal_row word small fits = omega (arith, asked word 0x7f 0x6f small fits, j_back word small)

jalr_row : Back (row 0x0000707f 0x67 jalr)
jalr_row word small fits = omega (arith, asked word 0x707f 0x67 small fits, i_back word small)

branch_row : (o : BranchOp) → Back (row 0x0000707f (placed (branch_funct3 o) 0 3 12 + 0x63) (branch o))
branch_row o word small fits = omega (arith, asked word 0x707f (placed (branch_funct3 o) 0 3 12 + 0x63) small fits, b_back word small)

load_row : (width : ℕ) (signed : Bool) → Back (row 0x0000707f (placed (load_funct3 width signed) 0 3 12 + 0x03) (load width signed))
load_row width signed word small fits = omega (arith, asked word 0x707f (placed (load_funct3 width signed) 0 3 12 + 0x03) small fits, i_back word small)

store_row : (width : ℕ) → Back (row 0x0000707f (placed (width_code width) 0 3 12 + 0x23) (store width))
store_row width word small fits = omega (arith, asked word 0x707f (placed (width_code width) 0 3 12 + 0x23) small fits, s_back word small)

alu_immediate_opcode_small : (o : AluOp) → alu_immediate_opcode o < 128
alu_immediate_opcode_small alu.Add = omega arith
alu_immediate_opcode_small other = omega arith

alu_opcode_small : (o : AluOp) → alu_opcode o < 128
alu_opcode_small alu.Add = omega arith
alu_opcode_small other = omega arith

mul_opcode_small : (o : MulOp) → mul_opcode o < 128
mul_opcode_small mul.Mul = omega arith
mul_opcode_small other = omega arith

-- an operation whose immediate is no shift amount
immediate_row : (o : AluOp) → ((imm : ℕ) → alu_immediate o imm ≡ imm) → Back (row 0x0000707f (placed (alu_funct3 o) 0 3 12 + alu_immediate_opcode o) (immediate o))
immediate_row o same word small fits =
    rw (same (imm_i word)) (omega (arith, asked word 0x707f (placed (alu_funct3 o) 0 3 12 + alu_immediate_opcode o) small fits, i_back word small, alu_immediate_opcode_small o))

sll_row : Back (row 0xfc00707f 0x1013 (shift alu.Sll))
sll_row word small fits = omega (arith, asked word 0xfc00707f 0x1013 small fits)

srl_row : Back (row 0xfc00707f 0x5013 (shift alu.Srl))
srl_row word small fits = omega (arith, asked word 0xfc00707f 0x5013 small fits)

sra_row : Back (row 0xfc00707f 0x40005013 (shift alu.Sra))
sra_row word small fits = omega (arith, asked word 0xfc00707f 0x40005013 small fits)

sllw_row : Back (row 0xfe00707f 0x101b (shift_word alu.Sllw))
sllw_row word small fits = omega (arith, asked word 0xfe00707f 0x101b small fits)

srlw_row : Back (row 0xfe00707f 0x501b (shift_word alu.Srlw))
srlw_row word small fits = omega (arith, asked word 0xfe00707f 0x501b small fits)

sraw_row : Back (row 0xfe00707f 0x4000501b (shift_word alu.Sraw))
sraw_row word small fits = omega (arith, asked word 0xfe00707f 0x4000501b small fits)

register_row : (o : AluOp) → Back (row 0xfe00707f (placed (alu_funct7 o) 0 7 25 + placed (alu_funct3 o) 0 3 12 + alu_opcode o) (register o))
register_row o word small fits = omega (arith, asked word 0xfe00707f (placed (alu_funct7 o) 0 7 25 + placed (alu_funct3 o) 0 3 12 + alu_opcode o) small fits, alu_opcode_small o)

muldiv_row : (o : MulOp) → Back (row 0xfe00707f (2 ^ 25 + placed (mul_funct3 o) 0 3 12 + mul_opcode o) (muldiv o))
muldiv_row o word small fits = omega (arith, asked word 0xfe00707f (2 ^ 25 + placed (mul_funct3 o) 0 3 12 + mul_opcode o) small fits, mul_opcode_small o)

-- the aq and rl bits
bit-eqb : (n : ℕ) → n < 2 → bit (eqb n 1) ≡ n
bit-eqb n small = grind (arith, nat_tests)

lr_row : (width : ℕ) → Back (row 0xf9f0707f (0x10000000 + placed (width_code width) 0 3 12 + 0x2f) (lr width))
lr_row width word small fits = omega (arith, asked word 0xf9f0707f (0x10000000 + placed (width_code width) 0 3 12 + 0x2f) small fits, bit-eqb (field 26 1 word) (omega arith), bit-eqb (field 25 1 word) (omega arith))

sc_row : (width : ℕ) → Back (row 0xf800707f (0x18000000 + placed (width_code width) 0 3 12 + 0x2f) (sc width))
sc_row width word small fits = omega (arith, asked word 0xf800707f (0x18000000 + placed (width_code width) 0 3 12 + 0x2f) small fits, bit-eqb (field 26 1 word) (omega arith), bit-eqb (field 25 1 word) (omega arith))

amo_funct5_small : (o : AmoOp) → amo_funct5 o < 32
amo_funct5_small amo.Swap = omega arith
amo_funct5_small other = omega arith

atomic_row : (o : AmoOp) (width : ℕ) → Back (row 0xf800707f (placed (amo_funct5 o) 0 5 27 + placed (width_code width) 0 3 12 + 0x2f) (atomic o width))
atomic_row o width word small fits = omega (arith, asked word 0xf800707f (placed (amo_funct5 o) 0 5 27 + placed (width_code width) 0 3 12 + 0x2f) small fits, bit-eqb (field 26 1 word) (omega arith), bit-eqb (field 25 1 word) (omega arith), amo_funct5_small o)

fence_row : Back (row 0x0000707f 0x0f fence)
fence_row word small fits = omega (arith, asked word 0x707f 0x0f small fits)

fence_i_row : Back (row 0x0000707f 0x100f fence_i)
fence_i_row word small fits = omega (arith, asked word 0x707f 0x100f small fits)

csr_row : (o : CsrOp) → Back (row 0x0000707f (placed (csr_funct3 o) 0 3 12 + 0x73) (csr o))
csr_row o word small fits = omega (arith, asked word 0x707f (placed (csr_funct3 o) 0 3 12 + 0x73) small fits)

-- an operation without fields
plain_row : (whole : Op) → Back (row 0xffffffff (encoded whole) (plain whole))
plain_row whole word small fits = omega (arith, asked word 0xffffffff (encoded whole) small fits)

sfence_vma_row : Back (row 0xfe007fff 0x12000073 sfence_vma)
sfence_vma_row word small fits = omega (arith, asked word 0xfe007fff 0x12000073 small fits)

data Each : List Row → Type 0 where
  none : Each []
  ◌also◌ : {r : Row} {rs : List Row} → Back r → Each rs → Each (r ∷ rs)

infixr 5 ◌also◌
each : Each rows
unfolding rows
each =
    -- RV32I Base Instruction Set
    lui_row also
    auipc_row also
    jal_row also
    jalr_row also
    branch_row branch_op.Eq also
    branch_row branch_op.Ne also
    branch_row branch_op.Lt also
    branch_row branch_op.Ge also
    branch_row branch_op.Ltu also
    branch_row branch_op.Geu also
    load_row 1 true also
    load_row 2 true also
    load_row 4 true also
    load_row 1 false also
    load_row 2 false also
    store_row 1 also
    store_row 2 also
    store_row 4 also
    immediate_row alu.Add (λ _. refl) also
    immediate_row alu.Slt (λ _. refl) also
    immediate_row alu.Sltu (λ _. refl) also
    immediate_row alu.Xor (λ _. refl) also
    immediate_row alu.Or (λ _. refl) also
    immediate_row alu.And (λ _. refl) also
    register_row alu.Add also
    register_row alu.Sub also
    register_row alu.Sll also
    register_row alu.Slt also
    register_row alu.Sltu also
    register_row alu.Xor also
    register_row alu.Srl also
    register_row alu.Sra also
    register_row alu.Or also
    register_row alu.And also
    fence_row also
    plain_row op.Ecall also
    plain_row op.Ebreak also
    -- RV64I Base Instruction Set (in addition to RV32I)
    load_row 4 false also
    load_row 8 true also
    store_row 8 also
    sll_row also
    srl_row also
    sra_row also
    immediate_row alu.Addw (λ _. refl) also
    sllw_row also
    srlw_row also
    sraw_row also
    register_row alu.Addw also
    register_row alu.Subw also
    register_row alu.Sllw also
    register_row alu.Srlw also
    register_row alu.Sraw also
    -- RV32/RV64 Zifencei Standard Extension
    fence_i_row also
    -- RV32/RV64 Zicsr Standard Extension
    csr_row csr_op.Rw also
    csr_row csr_op.Rs also
    csr_row csr_op.Rc also
    csr_row csr_op.Rwi also
    csr_row csr_op.Rsi also
    csr_row csr_op.Rci also
    -- RV32M Standard Extension
    muldiv_row mul.Mul also
    muldiv_row mul.Mulh also
    muldiv_row mul.Mulhsu also
    muldiv_row mul.Mulhu also
    muldiv_row mul.Div also
    muldiv_row mul.Divu also
    muldiv_row mul.Rem also
    muldiv_row mul.Remu also
    -- RV64M Standard Extension (in addition to RV32M)
    muldiv_row mul.Mulw also
    muldiv_row mul.Divw also
    muldiv_row mul.Divuw also
    muldiv_row mul.Remw also
    muldiv_row mul.Remuw also
    -- RV32A Standard Extension
    lr_row 4 also
    sc_row 4 also
    atomic_row amo.Swap 4 also
    atomic_row amo.Add 4 also
    atomic_row amo.Xor 4 also
    atomic_row amo.And 4 also
    atomic_row amo.Or 4 also
    atomic_row amo.Min 4 also
    atomic_row amo.Max 4 also
    atomic_row amo.Minu 4 also
    atomic_row amo.Maxu 4 also
    -- RV64A Standard Extension (in addition to RV32A)
    lr_row 8 also
    sc_row 8 also
    atomic_row amo.Swap 8 also
    atomic_row amo.Add 8 also
    atomic_row amo.Xor 8 also
    atomic_row amo.And 8 also
    atomic_row amo.Or 8 also
    atomic_row amo.Min 8 also
    atomic_row amo.Max 8 also
    atomic_row amo.Minu 8 also
    atomic_row amo.Maxu 8 also
    -- Volume II: trap return, interrupt management and supervisor memory management
    plain_row op.Sret also
    plain_row op.Mret also
    plain_row op.Wfi also
    sfence_vma_row also
    none

by_fit : (fits : Bool) (word : ℕ) (r : Row) (later : Option Row) → (fits ≡ true → encoded (r.make word) ≡ word) → encoded (made_by word later) ≡ word → encoded (made_by word (cond fits (Some r) later)) ≡ word
by_fit true word r later here rest = here refl
by_fit false word r later here rest = rest

found : (word : ℕ) → word < 2 ^ 32 → (rs : List Row) → Each rs → encoded (made_by word (find (fits_row word) rs)) ≡ word
found word small [] none = refl
found word small (r ∷ rs) (head also tail) =
    by_fit (fits_row word r) word r (find (fits_row word) rs) (head word small) (found word small rs tail)

pub encoded-decoded : (word : ℕ) → word < 2 ^ 32 → encoded (decoded word) ≡ word
unfolding decoded
encoded-decoded word small = found word small rows each
