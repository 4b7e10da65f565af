use Rattle.std.proofs.Common.{rules}
use Rattle.sv39.proofs.Walks.{step_is}
use Rattle.sv39.proofs.walk.Walk.next.Goals as goal

pub returns-in-Reads-clause-after : goal.returns-in-Reads-clause-after
returns-in-Reads-clause-after c = λ satp va entries. step_is c.args.self.now _ satp va entries (search rules)

pub returns-in-Found-clause-after : goal.returns-in-Found-clause-after
returns-in-Found-clause-after c = λ satp va entries. step_is c.args.self.now _ satp va entries (search rules)

pub returns-in-Faults-clause-after : goal.returns-in-Faults-clause-after
returns-in-Faults-clause-after c = λ satp va entries. step_is c.args.self.now _ satp va entries (search rules)
