-- Another engine is wanted by an event alone.
use Rattle.std.proofs.Common.{rules, ◌≡◌, ◌≢◌, sym}
use Rattle.flex_base.specs.declared.class.Class.{Class}
use Rattle.flex_base.specs.declared.engine.Engine.{Engine}
use Rattle.context.specs.declared.wants.Wants.{Wants}
use Rattle.context.specs.declared.wants.Wants.TheVariants as wants
use Rattle.context.specs.Contexts.{plan_of}
use Rattle.context.specs.Obeying.{IsFor, engine_wanted}
use Rattle.crew.proofs.coordinator.hand_over.Goals as goal

elsewhere : (plan : Class → Engine) (at to : Engine) (w : Wants) → to ≡ engine_wanted plan at w → to ≢ at → IsFor plan w to
elsewhere plan at to (wants.Ask class) is other = sym is
elsewhere plan at to (wants.Finish class) is other = sym is
elsewhere plan at to wants.Parked is other = other is
elsewhere plan at to wants.Over is other = other is

pub move_to-requires-clause-wanted : goal.move_to-requires-clause-wanted
move_to-requires-clause-wanted g c =
    let at = c.args.context.now in
    let w = c.wants-wants.result in
    let to = c.wanted_engine-engine.result in
    let other : to ≢ at.engine = search rules in
    (w, c.wants-wants.ensures, elsewhere (plan_of at) at.engine to w (c.wanted_engine-engine.ensures w c.wants-wants.ensures) other)
