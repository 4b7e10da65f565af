-- What a CSR instruction comes to is sound in any layout.
use Rattle.hart_story.proofs.replies.after_outcome.Goals as goal

pub returns-else-reply-clause-sound : goal.returns-else-reply-clause-sound
returns-else-reply-clause-sound c = λ layout count. c.update_csr.ensures.sound layout

pub returns-in-AskTime-clause-sound : goal.returns-in-AskTime-clause-sound
returns-in-AskTime-clause-sound c = λ layout count. c.update_csr-in-AskTime.ensures.sound layout
