use Rattle.std.proofs.Common.{ℕ, ◌≡◌, ◌≢◌, false, eqb, arith}
use Rattle.std.proofs.lemmas.Bool.Decides.{nat_tests}
use Rattle.flex_base.specs.Decoding.{rows}
use Rattle.flex_base.specs.Word.{field}
use Rattle.rv_decode.proofs.Opcodes.{privileged}
use Rattle.rv_decode.proofs.system.decode_sfence_vma.Goals as goal

not_eqb : (a b : ℕ) → a ≢ b → eqb a b ≡ false
not_eqb a b differ = grind (arith, nat_tests)

pub returns-in_default : goal.returns-in_default
unfolding rows
returns-in_default c =
    let table = privileged c.args.word (omega arith) c.requires.opcode c.requires.funct3 in
    let e1 = not_eqb c.args.word 0x73 c.requires.whole.0 in
    let e2 = not_eqb c.args.word 0x100073 c.requires.whole.1 in
    let e3 = not_eqb c.args.word 0x10200073 c.requires.whole.2 in
    let e4 = not_eqb c.args.word 0x30200073 c.requires.whole.3 in
    let e5 = not_eqb c.args.word 0x10500073 c.requires.whole.4 in
    let e6 = not_eqb (field 25 7 c.args.word) 9 (grind arith) in
    simp (table, e1, e2, e3, e4, e5, e6)
