use Rattle.std.proofs.Common.{◌≡◌, ◌+◌, length, take}
use Rattle.journal.proofs.tests.log_of.Given as goal

abbrev pub invariant-loop-event : goal.invariant-loop-event
invariant-loop-event l = (l.log.events ≡ take l.event-index l.events) × (l.log.room + l.event-index ≡ length l.events)
