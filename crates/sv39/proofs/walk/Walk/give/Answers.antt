use Rattle.std.proofs.Common.{rules}
use Rattle.sv39.proofs.Walks.{IsAfter-given, ended_left, ended_ahead, needs_left}
use Rattle.sv39.proofs.walk.Walk.give.Goals as goal

pub returns-in-Reads-clause-after : goal.returns-in-Reads-clause-after
returns-in-Reads-clause-after c = λ satp va entries.
    IsAfter-given c.args.self.now c.follow.result c.args.pte satp va entries (search rules)

pub returns-in-Found-clause-ahead : goal.returns-in-Found-clause-ahead
returns-in-Found-clause-ahead c = λ rest.
    ended_ahead c.args.self.now.stage c.args.self.now.va c.args.self.now.at c.args.pte rest (ended_left _ c.in-Found.is)

pub returns-in-Found-clause-after : goal.returns-in-Found-clause-after
returns-in-Found-clause-after c = λ satp va entries.
    IsAfter-given c.args.self.now c.args.self.now c.args.pte satp va entries (returns-in-Found-clause-ahead c)

pub returns-in-Found-clause-left : goal.returns-in-Found-clause-left
returns-in-Found-clause-left c = λ address needs.
    absurd (needs_left c.args.self.now.stage c.args.self.now.va c.args.self.now.at address (ended_left _ c.in-Found.is) needs)
