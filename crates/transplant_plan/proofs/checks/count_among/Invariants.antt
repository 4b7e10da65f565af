use Rattle.std.proofs.Common.{◌≡◌, false, take}
use Rattle.transplant_plan.specs.Assignment.{is_allowed}
use Rattle.transplant_plan.proofs.checks.count_among.Given as goal

abbrev pub invariant-loop-count : goal.invariant-loop-count
invariant-loop-count l = is_allowed (take l.count-index l.counts) l.number ≡ false
