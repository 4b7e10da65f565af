-- Giving up the reservation is sound.
use Rattle.hart_story.proofs.memory.conditional.Goals as goal

pub returns-else-is_reserved-clause-sound : goal.returns-else-is_reserved-clause-sound
returns-else-is_reserved-clause-sound c = λ layout count lies. c.end_conditional.ensures.sound layout
