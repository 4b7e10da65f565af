-- A pulse that is due is none of what makes an end sound.
use Rattle.hart_story.proofs.ends.end_device.Goals as goal

pub returns-clause-sound : goal.returns-clause-sound
returns-clause-sound c = λ layout.
    let sound = c.end_with.ensures.sound layout in
    record { register = sound.register; aligned = sound.aligned; reserved = sound.reserved }
