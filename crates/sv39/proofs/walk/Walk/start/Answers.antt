use Rattle.std.proofs.Common.{rules}
use Rattle.sv39.proofs.Walks.{IsAfter-start}
use Rattle.sv39.proofs.walk.Walk.start.Goals as goal

pub returns-then-is_canonical-clause-after : goal.returns-then-is_canonical-clause-after
returns-then-is_canonical-clause-after c = IsAfter-start c.reads.result c.args.satp c.args.va (search rules)

pub returns-else-is_canonical-clause-after : goal.returns-else-is_canonical-clause-after
returns-else-is_canonical-clause-after c = IsAfter-start c.faults.result c.args.satp c.args.va (search rules)
