-- The `==` that is derived for operations answers true exactly where two operations are one.
use Rattle.std.proofs.Common.{◌≡◌, ℕ, Bool, true, refl, subst, arith}
use Rattle.std.proofs.lemmas.Bool.Decides.{nat_tests}
use denote.Enum.Bare.{same_true}
use Rattle.flex_base.specs.declared.operation.Op.{Op}
use Rattle.flex_base.specs.declared.operation.Op.TheVariants as op
use Rattle.flex_base.specs.declared.operation.AluOp.{AluOp}
use Rattle.flex_base.specs.contracts.operation.AluOp as aluop
use Rattle.flex_base.specs.declared.operation.MulOp.{MulOp}
use Rattle.flex_base.specs.contracts.operation.MulOp as mulop
use Rattle.flex_base.specs.declared.operation.AmoOp.{AmoOp}
use Rattle.flex_base.specs.contracts.operation.AmoOp as amoop
use Rattle.flex_base.specs.declared.operation.BranchOp.{BranchOp}
use Rattle.flex_base.specs.contracts.operation.BranchOp as branchop
use Rattle.flex_base.specs.declared.operation.CsrOp.{CsrOp}
use Rattle.flex_base.specs.contracts.operation.CsrOp as csrop
use Rattle.flex_base.specs.contracts.operation.OpPartialEq.TheImpl.{eq-value}
use Rattle.flex_base.specs.contracts.operation.OpEq.TheImpl.Laws.{laws-law}

lui_one : (rd rd' : ℕ) (imm imm' : ℕ) → eq-value.it (op.Lui rd imm) (op.Lui rd' imm') ≡ true → op.Lui rd imm ≡ op.Lui rd' imm'
lui_one rd rd' imm imm' same = grind (arith, nat_tests)

auipc_one : (rd rd' : ℕ) (imm imm' : ℕ) → eq-value.it (op.Auipc rd imm) (op.Auipc rd' imm') ≡ true → op.Auipc rd imm ≡ op.Auipc rd' imm'
auipc_one rd rd' imm imm' same = grind (arith, nat_tests)

jal_one : (rd rd' : ℕ) (imm imm' : ℕ) → eq-value.it (op.Jal rd imm) (op.Jal rd' imm') ≡ true → op.Jal rd imm ≡ op.Jal rd' imm'
jal_one rd rd' imm imm' same = grind (arith, nat_tests)

jalr_one : (rd rd' : ℕ) (rs1 rs1' : ℕ) (imm imm' : ℕ) → eq-value.it (op.Jalr rd rs1 imm) (op.Jalr rd' rs1' imm') ≡ true → op.Jalr rd rs1 imm ≡ op.Jalr rd' rs1' imm'
jalr_one rd rd' rs1 rs1' imm imm' same = grind (arith, nat_tests)

branch_one : (o p : BranchOp) (rs1 rs1' : ℕ) (rs2 rs2' : ℕ) (imm imm' : ℕ) → eq-value.it (op.Branch o rs1 rs2 imm) (op.Branch p rs1' rs2' imm') ≡ true → op.Branch o rs1 rs2 imm ≡ op.Branch p rs1' rs2' imm'
branch_one o p rs1 rs1' rs2 rs2' imm imm' same = grind (arith, nat_tests, same_true branchop.the_type tt o p)

load_one : (width width' : ℕ) (signed signed' : Bool) (rd rd' : ℕ) (rs1 rs1' : ℕ) (imm imm' : ℕ) → eq-value.it (op.Load width signed rd rs1 imm) (op.Load width' signed' rd' rs1' imm') ≡ true → op.Load width signed rd rs1 imm ≡ op.Load width' signed' rd' rs1' imm'
load_one width width' signed signed' rd rd' rs1 rs1' imm imm' same = grind (arith, nat_tests)

store_one : (width width' : ℕ) (rs1 rs1' : ℕ) (rs2 rs2' : ℕ) (imm imm' : ℕ) → eq-value.it (op.Store width rs1 rs2 imm) (op.Store width' rs1' rs2' imm') ≡ true → op.Store width rs1 rs2 imm ≡ op.Store width' rs1' rs2' imm'
store_one width width' rs1 rs1' rs2 rs2' imm imm' same = grind (arith, nat_tests)

aluimm_one : (o p : AluOp) (rd rd' : ℕ) (rs1 rs1' : ℕ) (imm imm' : ℕ) → eq-value.it (op.AluImm o rd rs1 imm) (op.AluImm p rd' rs1' imm') ≡ true → op.AluImm o rd rs1 imm ≡ op.AluImm p rd' rs1' imm'
aluimm_one o p rd rd' rs1 rs1' imm imm' same = grind (arith, nat_tests, same_true aluop.the_type tt o p)

alureg_one : (o p : AluOp) (rd rd' : ℕ) (rs1 rs1' : ℕ) (rs2 rs2' : ℕ) → eq-value.it (op.AluReg o rd rs1 rs2) (op.AluReg p rd' rs1' rs2') ≡ true → op.AluReg o rd rs1 rs2 ≡ op.AluReg p rd' rs1' rs2'
alureg_one o p rd rd' rs1 rs1' rs2 rs2' same = grind (arith, nat_tests, same_true aluop.the_type tt o p)

muldiv_one : (o p : MulOp) (rd rd' : ℕ) (rs1 rs1' : ℕ) (rs2 rs2' : ℕ) → eq-value.it (op.Muldiv o rd rs1 rs2) (op.Muldiv p rd' rs1' rs2') ≡ true → op.Muldiv o rd rs1 rs2 ≡ op.Muldiv p rd' rs1' rs2'
muldiv_one o p rd rd' rs1 rs1' rs2 rs2' same = grind (arith, nat_tests, same_true mulop.the_type tt o p)

lr_one : (width width' : ℕ) (rd rd' : ℕ) (rs1 rs1' : ℕ) (aq aq' : Bool) (rl rl' : Bool) → eq-value.it (op.Lr width rd rs1 aq rl) (op.Lr width' rd' rs1' aq' rl') ≡ true → op.Lr width rd rs1 aq rl ≡ op.Lr width' rd' rs1' aq' rl'
lr_one width width' rd rd' rs1 rs1' aq aq' rl rl' same = grind (arith, nat_tests)

sc_one : (width width' : ℕ) (rd rd' : ℕ) (rs1 rs1' : ℕ) (rs2 rs2' : ℕ) (aq aq' : Bool) (rl rl' : Bool) → eq-value.it (op.Sc width rd rs1 rs2 aq rl) (op.Sc width' rd' rs1' rs2' aq' rl') ≡ true → op.Sc width rd rs1 rs2 aq rl ≡ op.Sc width' rd' rs1' rs2' aq' rl'
sc_one width width' rd rd' rs1 rs1' rs2 rs2' aq aq' rl rl' same = grind (arith, nat_tests)

amo_one : (o p : AmoOp) (width width' : ℕ) (rd rd' : ℕ) (rs1 rs1' : ℕ) (rs2 rs2' : ℕ) (aq aq' : Bool) (rl rl' : Bool) → eq-value.it (op.Amo o width rd rs1 rs2 aq rl) (op.Amo p width' rd' rs1' rs2' aq' rl') ≡ true → op.Amo o width rd rs1 rs2 aq rl ≡ op.Amo p width' rd' rs1' rs2' aq' rl'
amo_one o p width width' rd rd' rs1 rs1' rs2 rs2' aq aq' rl rl' same = grind (arith, nat_tests, same_true amoop.the_type tt o p)

fence_one : (free free' : ℕ) → eq-value.it (op.Fence free) (op.Fence free') ≡ true → op.Fence free ≡ op.Fence free'
fence_one free free' same = grind (arith, nat_tests)

fencei_one : (free free' : ℕ) → eq-value.it (op.FenceI free) (op.FenceI free') ≡ true → op.FenceI free ≡ op.FenceI free'
fencei_one free free' same = grind (arith, nat_tests)

csr_one : (o p : CsrOp) (rd rd' : ℕ) (rs1 rs1' : ℕ) (number number' : ℕ) → eq-value.it (op.Csr o rd rs1 number) (op.Csr p rd' rs1' number') ≡ true → op.Csr o rd rs1 number ≡ op.Csr p rd' rs1' number'
csr_one o p rd rd' rs1 rs1' number number' same = grind (arith, nat_tests, same_true csrop.the_type tt o p)

sfencevma_one : (rs1 rs1' : ℕ) (rs2 rs2' : ℕ) → eq-value.it (op.SfenceVma rs1 rs2) (op.SfenceVma rs1' rs2') ≡ true → op.SfenceVma rs1 rs2 ≡ op.SfenceVma rs1' rs2'
sfencevma_one rs1 rs1' rs2 rs2' same = grind (arith, nat_tests)

illegal_one : (word word' : ℕ) → eq-value.it (op.Illegal word) (op.Illegal word') ≡ true → op.Illegal word ≡ op.Illegal word'
illegal_one word word' same = grind (arith, nat_tests)

pub one_from_eq : (a b : Op) → eq-value.it a b ≡ true → a ≡ b
one_from_eq (op.Lui rd imm) (op.Lui rd' imm') same = lui_one rd rd' imm imm' same
one_from_eq (op.Lui rd imm) other same = cc
one_from_eq (op.Auipc rd imm) (op.Auipc rd' imm') same = auipc_one rd rd' imm imm' same
one_from_eq (op.Auipc rd imm) other same = cc
one_from_eq (op.Jal rd imm) (op.Jal rd' imm') same = jal_one rd rd' imm imm' same
one_from_eq (op.Jal rd imm) other same = cc
one_from_eq (op.Jalr rd rs1 imm) (op.Jalr rd' rs1' imm') same = jalr_one rd rd' rs1 rs1' imm imm' same
one_from_eq (op.Jalr rd rs1 imm) other same = cc
one_from_eq (op.Branch o rs1 rs2 imm) (op.Branch p rs1' rs2' imm') same = branch_one o p rs1 rs1' rs2 rs2' imm imm' same
one_from_eq (op.Branch o rs1 rs2 imm) other same = cc
one_from_eq (op.Load width signed rd rs1 imm) (op.Load width' signed' rd' rs1' imm') same = load_one width width' signed signed' rd rd' rs1 rs1' imm imm' same
one_from_eq (op.Load width signed rd rs1 imm) other same = cc
one_from_eq (op.Store width rs1 rs2 imm) (op.Store width' rs1' rs2' imm') same = store_one width width' rs1 rs1' rs2 rs2' imm imm' same
one_from_eq (op.Store width rs1 rs2 imm) other same = cc
one_from_eq (op.AluImm o rd rs1 imm) (op.AluImm p rd' rs1' imm') same = aluimm_one o p rd rd' rs1 rs1' imm imm' same
one_from_eq (op.AluImm o rd rs1 imm) other same = cc
one_from_eq (op.AluReg o rd rs1 rs2) (op.AluReg p rd' rs1' rs2') same = alureg_one o p rd rd' rs1 rs1' rs2 rs2' same
one_from_eq (op.AluReg o rd rs1 rs2) other same = cc
one_from_eq (op.Muldiv o rd rs1 rs2) (op.Muldiv p rd' rs1' rs2') same = muldiv_one o p rd rd' rs1 rs1' rs2 rs2' same
one_from_eq (op.Muldiv o rd rs1 rs2) other same = cc
one_from_eq (op.Lr width rd rs1 aq rl) (op.Lr width' rd' rs1' aq' rl') same = lr_one width width' rd rd' rs1 rs1' aq aq' rl rl' same
one_from_eq (op.Lr width rd rs1 aq rl) other same = cc
one_from_eq (op.Sc width rd rs1 rs2 aq rl) (op.Sc width' rd' rs1' rs2' aq' rl') same = sc_one width width' rd rd' rs1 rs1' rs2 rs2' aq aq' rl rl' same
one_from_eq (op.Sc width rd rs1 rs2 aq rl) other same = cc
one_from_eq (op.Amo o width rd rs1 rs2 aq rl) (op.Amo p width' rd' rs1' rs2' aq' rl') same = amo_one o p width width' rd rd' rs1 rs1' rs2 rs2' aq aq' rl rl' same
one_from_eq (op.Amo o width rd rs1 rs2 aq rl) other same = cc
one_from_eq (op.Fence free) (op.Fence free') same = fence_one free free' same
one_from_eq (op.Fence free) other same = cc
one_from_eq (op.FenceI free) (op.FenceI free') same = fencei_one free free' same
one_from_eq (op.FenceI free) other same = cc
one_from_eq (op.Csr o rd rs1 number) (op.Csr p rd' rs1' number') same = csr_one o p rd rd' rs1 rs1' number number' same
one_from_eq (op.Csr o rd rs1 number) other same = cc
one_from_eq op.Ecall op.Ecall same = refl
one_from_eq op.Ecall other same = cc
one_from_eq op.Ebreak op.Ebreak same = refl
one_from_eq op.Ebreak other same = cc
one_from_eq op.Sret op.Sret same = refl
one_from_eq op.Sret other same = cc
one_from_eq op.Mret op.Mret same = refl
one_from_eq op.Mret other same = cc
one_from_eq op.Wfi op.Wfi same = refl
one_from_eq op.Wfi other same = cc
one_from_eq (op.SfenceVma rs1 rs2) (op.SfenceVma rs1' rs2') same = sfencevma_one rs1 rs1' rs2 rs2' same
one_from_eq (op.SfenceVma rs1 rs2) other same = cc
one_from_eq (op.Illegal word) (op.Illegal word') same = illegal_one word word' same
one_from_eq (op.Illegal word) other same = cc

pub eq_from_one : (a b : Op) → a ≡ b → eq-value.it a b ≡ true
eq_from_one a b same = subst (λ (x : Op). eq-value.it a x ≡ true) same (laws-law.refl a)
