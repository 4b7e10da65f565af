-- What is needed is the next event, in an engine that runs it.
use Rattle.context.proofs.Keeping.{asking_by, ending_by, needs_event}
use Rattle.context.proofs.context.HartContext.advance.Goals as goal

pub make_access-requires-clause-asks : goal.make_access-requires-clause-asks
make_access-requires-clause-asks g c = asking_by c.args.self.now c.need.result _ _ c.in-Ask.is c.need.ensures.told c.need.ensures.placed c.requires.wanted

pub make_end-requires-clause-ends : goal.make_end-requires-clause-ends
make_end-requires-clause-ends g c = ending_by c.args.self.now c.need.result _ c.in-Finish.is c.need.ensures.told c.requires.wanted

pub unreachable-requires : goal.unreachable-requires
unreachable-requires g c = (needs_event c.args.self.now c.need.result c.need.ensures.told c.requires.wanted).0 c.in-Parked.is

pub unreachable-requires-in-Over : goal.unreachable-requires-in-Over
unreachable-requires-in-Over g c = (needs_event c.args.self.now c.need.result c.need.ensures.told c.requires.wanted).1 c.in-Over.is
