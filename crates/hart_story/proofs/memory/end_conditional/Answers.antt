-- No reservation is a fit one.
use Rattle.hart_story.proofs.memory.end_conditional.Goals as goal

pub returns-clause-sound : goal.returns-clause-sound
returns-clause-sound c = λ layout. c.end_reserving.ensures.sound layout (λ whole own. tt)
