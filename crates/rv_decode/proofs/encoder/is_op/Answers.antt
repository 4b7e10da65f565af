use Rattle.std.proofs.Common.{ap, ◌∙◌, ◌≡◌, Bool, true, IsTrue, arith}
use Rattle.std.proofs.Math.Path.{sym}
use Rattle.flex_base.specs.Decoding.{decoded}
use Rattle.rv_decode.specs.Encoding.{encoded}
use Rattle.rv_decode.proofs.Back.{encoded-decoded}
use Rattle.rv_decode.proofs.Same.{one_from_eq, eq_from_one}
use Rattle.rv_decode.proofs.encoder.is_op.Goals as goal

true_from : (b : Bool) → IsTrue b → b ≡ true
true_from b holds = grind arith

from_true : (b : Bool) → b ≡ true → IsTrue b
from_true b holds = grind arith

pub returns : goal.returns
returns c = (
  λ same. (c.word_of.result, c.word_of.type_inv, sym c.decode.ensures.meaning ∙ one_from_eq c.decode.result c.args.op.now (sym c.eq.ensures ∙ true_from (c.eq.result) same)),
  λ decoding.
      let spelled : c.word_of.result ≡ decoding.0 = c.word_of.ensures ∙ ap encoded (sym decoding.2) ∙ encoded-decoded decoding.0 decoding.1 in
      let same : c.decode.result ≡ c.args.op.now = c.decode.ensures.meaning ∙ ap decoded spelled ∙ decoding.2 in
      from_true c.eq.result (c.eq.ensures ∙ eq_from_one c.decode.result c.args.op.now same),
)
