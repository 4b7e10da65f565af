use Rattle.std.proofs.Common.{arith}
use Rattle.tracer.proofs.Digits.{some_digit, carried}
use Rattle.tracer.proofs.number.Number.carry.Goals as goal

pub overflow_sub-last : goal.overflow_sub-last
overflow_sub-last c = some_digit c.self.inside.count c.self.inside.digits c.self.inside.value (omega (arith, c.self.ranges)) c.self.invariant.1

pub invariant_of-self : goal.invariant_of-self
invariant_of-self c =
    let n = c.self.inside in (
      c.self.invariant.0,
      carried n.count n.digits n.value (omega (arith, c.requires)) (omega (arith, c.if-last-gt0.true)) (omega (arith, c.self.invariant.0, c.self.told)) c.self.invariant.1 c.if-self-last-eq57.true c.if-self-last-lt57.true,
    )
