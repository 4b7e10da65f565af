-- What is left of the run is what was written.
use Rattle.flex_top.proofs.leaving.conclude.Goals as goal

pub returns-in-Ok-clause-ended : goal.returns-in-Ok-clause-ended
returns-in-Ok-clause-ended g c = λ journal setup u of end at. c.in-Ok.ensures.ok journal setup u of end
