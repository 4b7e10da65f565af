-- Who wants an access needs one.
use Rattle.context.specs.declared.wants.Wants.TheVariants as wants
use Rattle.context.proofs.Keeping.{asking_by, needs_event, wanting_by, wants_one, asks_no_end}
use Rattle.context.proofs.context.HartContext.ask.Goals as goal

pub make_access-requires-clause-asks : goal.make_access-requires-clause-asks
make_access-requires-clause-asks g c =
    let (class, wanting, here) = c.requires.wanted in
    asking_by c.args.self.now c.need.result _ _ c.in-Ask.is c.need.ensures.told c.need.ensures.placed (wants.Ask class, wanting, here)

pub unreachable-requires : goal.unreachable-requires
unreachable-requires g c =
    let (class, wanting, here) = c.requires.wanted in
    asks_no_end class c.in-Finish.field-0 (wants_one c.args.self.now (wants.Ask class) (wants.Finish c.in-Finish.field-0) wanting
    (wanting_by c.args.self.now c.need.result _ c.in-Finish.is c.need.ensures.told))

pub unreachable-requires-in-Parked : goal.unreachable-requires-in-Parked
unreachable-requires-in-Parked g c =
    let (class, wanting, here) = c.requires.wanted in
    (needs_event c.args.self.now c.need.result c.need.ensures.told (wants.Ask class, wanting, here)).0 c.in-Parked.is

pub unreachable-requires-in-Over : goal.unreachable-requires-in-Over
unreachable-requires-in-Over g c =
    let (class, wanting, here) = c.requires.wanted in
    (needs_event c.args.self.now c.need.result c.need.ensures.told (wants.Ask class, wanting, here)).1 c.in-Over.is
