use Rattle.std.proofs.Common.{ap, ◌∙◌, ◌≡◌}
use Rattle.std.proofs.Math.Path.{sym}
use Rattle.flex_base.specs.Decoding.{decoded}
use Rattle.rv_decode.specs.Encoding.{encoded}
use Rattle.rv_decode.proofs.Back.{encoded-decoded}
use Rattle.rv_decode.proofs.encoder.encode.Goals as goal

pub returns-clause-back : goal.returns-clause-back
returns-clause-back c =
    let spelled : c.word_of.result ≡ c.requires.0 = c.word_of.ensures ∙ ap encoded (sym c.requires.2) ∙ encoded-decoded c.requires.0 c.requires.1 in
    ap decoded spelled ∙ c.requires.2

pub returns-clause-only : goal.returns-clause-only
returns-clause-only c word small is = c.word_of.ensures ∙ ap encoded (sym is) ∙ encoded-decoded word small
