use Rattle.flex_base.specs.Unsplit.{begin}
use Rattle.flex_top.proofs.solo_command.play.Goals as goal

pub returns-clause-at : goal.returns-clause-at
returns-clause-at c = λ setup at. c.play_out.ensures.at setup _ (c.play.ensures.at setup (begin setup) at)
