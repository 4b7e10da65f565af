-- After the handover it wants an event of the engine that it is in.
use Rattle.context.proofs.Keeping.{wanted_moved}
use Rattle.context.proofs.tests.move_on.Goals as goal

pub step-requires-clause-wanted : goal.step-requires-clause-wanted
step-requires-clause-wanted g c =
    wanted_moved _ _ _ c.args.to _ _ c.hand_over-context.ensures.one c.hand_over-context.ensures.same c.requires.elsewhere.wanted
