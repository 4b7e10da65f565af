-- A budget is at most 2^32.
use Rattle.std.proofs.Common.{arith}
use Rattle.solo.proofs.Beginning.{lawful_budget}
use Rattle.solo.proofs.room.empty_logs.Goals as goal

pub overflow_mul-settings : goal.overflow_mul-settings
overflow_mul-settings c = omega (arith, lawful_budget c.args.settings.now c.requires)

pub overflow_add-settings : goal.overflow_add-settings
overflow_add-settings c = omega (arith, lawful_budget c.args.settings.now c.requires)
