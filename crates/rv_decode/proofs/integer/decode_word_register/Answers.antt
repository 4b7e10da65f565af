use Rattle.std.proofs.Common.{ℕ, List, [], ◌∷◌, ◌≡◌, false, refl, arith}
use Rattle.std.proofs.Math.Path.{sym}
use Rattle.std.proofs.lemmas.Bool.Decides.{nat_tests}
use Rattle.flex_base.specs.Decoding.{rows}
use Rattle.flex_base.specs.Word.{field}
use Rattle.rv_decode.proofs.Opcodes.{outside, one_of}
use Rattle.rv_decode.proofs.integer.decode_word_register.Goals as goal

pub returns-in_default : goal.returns-in_default
unfolding rows
returns-in_default c =
    let values : List ℕ = 0 ∷ 1 ∷ 32 ∷ [] in
    let none : one_of values (field 25 7 c.args.word) ≡ false = grind (arith, nat_tests) in
    sym (outside c.args.word 0x3b 25 7 values c.requires.opcode (omega arith) refl none)
