use Rattle.std.proofs.Common.{map}
use Rattle.journal.specs.Rests.{AreRests, events_left}
use Rattle.journal.proofs.merged.whole.Given as goal

abbrev pub invariant-loop-hart : goal.invariant-loop-hart
invariant-loop-hart l = AreRests l.hart l.logs (map events_left l.rests)
