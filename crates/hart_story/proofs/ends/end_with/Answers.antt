-- The hart's own reservation stays as fit as it was.
use Rattle.hart_story.proofs.ends.end_with.Goals as goal

pub returns-clause-sound : goal.returns-clause-sound
returns-clause-sound c = λ layout. c.end_reserving.ensures.sound layout (λ whole own. own)
