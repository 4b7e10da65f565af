-- The end of a WFI is sound in any layout.
use Rattle.hart_story.proofs.replies.end_wait.Goals as goal

pub returns-clause-sound : goal.returns-clause-sound
returns-clause-sound c = λ layout count. c.end_without.ensures.sound layout
