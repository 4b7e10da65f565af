use Rattle.std.proofs.Common.{arith}
use Rattle.mem_lines.proofs.Standing.{few_stand}
use Rattle.mem_lines.proofs.reservations.Reservations.reserve.Goals as goal

pub overflow_add-self : goal.overflow_add-self
overflow_add-self c = let f = c.self.inside in omega (arith, c.self.invariant, few_stand f.places)
