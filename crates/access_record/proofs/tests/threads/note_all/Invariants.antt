use Rattle.std.proofs.Common.{◌≡◌}
use Rattle.access_record.proofs.tests.threads.note_all.Given as goal

abbrev pub invariant-loop-bank : goal.invariant-loop-bank
invariant-loop-bank g l = l.book ≡ l.initial.book

abbrev pub decreases-loop-bank : goal.decreases-loop-bank
decreases-loop-bank g l = goal.left-loop-bank g l

abbrev pub invariant-loop-worker : goal.invariant-loop-worker
invariant-loop-worker g l = l.book ≡ l.initial.book

abbrev pub decreases-loop-worker : goal.decreases-loop-worker
decreases-loop-worker g l = goal.left-loop-worker g l
