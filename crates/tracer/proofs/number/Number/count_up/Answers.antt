use Rattle.std.proofs.Common.{arith}
use Rattle.tracer.proofs.Digits.{some_digit, counted}
use Rattle.tracer.proofs.number.Number.count_up.Goals as goal

pub overflow_sub-last : goal.overflow_sub-last
overflow_sub-last c = some_digit c.self.inside.count c.self.inside.digits c.self.inside.value (omega (arith, c.self.ranges)) c.self.invariant.1

pub invariant_of-self : goal.invariant_of-self
invariant_of-self c =
    let n = c.self.inside in
    let some = some_digit n.count n.digits n.value (omega (arith, c.self.ranges)) c.self.invariant.1 in (
      c.self.invariant.0,
      counted n.count n.digits n.value (omega (arith, c.requires)) some (omega (arith, c.self.invariant.0, c.self.told)) c.self.invariant.1 c.if-self-last-lt57.true,
    )
