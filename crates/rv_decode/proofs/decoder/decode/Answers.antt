use Rattle.std.proofs.Common.{ℕ, List, [], ◌∷◌, ◌≡◌, Bool, false, true, refl, arith}
use Rattle.std.proofs.Math.Path.{sym}
use Rattle.std.proofs.lemmas.Bool.Decides.{nat_tests}
use Rattle.flex_base.specs.Decoding.{rows, fits_row}
use Rattle.flex_base.specs.Word.{field}
use Rattle.rv_decode.proofs.Opcodes.{unknown, one_of}
use Rattle.rv_decode.proofs.decoder.decode.Goals as goal

no_other : (fits : Bool) → false ≡ true → fits ≡ false
no_other fits wrong = cc

pub returns-in_default-clause-meaning : goal.returns-in_default-clause-meaning
unfolding rows
returns-in_default-clause-meaning c =
    let opcodes : List ℕ = 0x03 ∷ 0x0f ∷ 0x13 ∷ 0x17 ∷ 0x1b ∷ 0x23 ∷ 0x2f ∷ 0x33 ∷ 0x37 ∷ 0x3b ∷ 0x63 ∷ 0x67 ∷ 0x6f ∷ 0x73 ∷ [] in
    let none : one_of opcodes (field 0 7 c.args.word) ≡ false = grind (arith, nat_tests) in
    sym (unknown c.args.word 0 7 opcodes (λ r. false) (omega arith) (λ r. no_other (fits_row c.args.word r)) refl none)
