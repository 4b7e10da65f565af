use Rattle.std.proofs.Common.{◌≡◌}
use Rattle.std.specs.Prelude.{None}
use Rattle.image_loader.specs.Faults.{first_fault, table_tests}
use Rattle.image_loader.proofs.checks.check_segments.Given as goal

-- the headers before n have no fault
abbrev pub invariant-loop-n : goal.invariant-loop-n
invariant-loop-n l = first_fault (table_tests l.file l.ram l.n) ≡ None
