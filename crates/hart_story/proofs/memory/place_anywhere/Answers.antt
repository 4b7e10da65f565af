-- Bytes whose place is RAM lie in it.
use Rattle.std.proofs.Common.{sym, ◌∙◌}
use Rattle.flex_base.proofs.Places.{in_ram-placed}
use Rattle.hart_story.proofs.memory.place_anywhere.Goals as goal

pub returns-in-Ram-clause-sound : goal.returns-in-Ram-clause-sound
returns-in-Ram-clause-sound c = λ hart count lies stands.
    lies (in_ram-placed c.args.layout.now.harts c.args.layout.now.ram c.args.address c.args.work.width
    (sym c.place.ensures ∙ c.in-Ram.is))

pub returns-in-Device-clause-sound : goal.returns-in-Device-clause-sound
returns-in-Device-clause-sound c = λ hart count lies stands. stands (sym c.place.ensures ∙ c.in-Device.is)
