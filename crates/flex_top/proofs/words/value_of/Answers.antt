use Rattle.flex_top.proofs.WordsLemmas.{stripped}
use Rattle.flex_top.proofs.words.value_of.Goals as goal

pub returns : goal.returns
returns c = stripped (λ text. text.now) c.strip_prefix.result c.args.name.now c.args.word.now c.strip_prefix.ensures.cases
