-- So many logs are made.
use Rattle.std.proofs.Common.{◌≡◌, ◌≤◌}
use Rattle.std.specs.Prelude.{vec_capacity}
use Rattle.solo.specs.Room.{are_empty}
use Rattle.solo.proofs.room.empty_logs.Given as goal

abbrev pub invariant-loop : goal.invariant-loop
invariant-loop l = (l.logs.items ≡ are_empty l.settings l.counter) × (l.settings.harts ≤ vec_capacity l.logs)
