use Rattle.std.proofs.Common.{sym, ◌∙◌}
use Rattle.devices.proofs.Waiting.{none_set}
use Rattle.devices.proofs.harts.Harts.set.Goals as goal

pub invariant_of-self : goal.invariant_of-self
invariant_of-self c = λ off. absurd cc

pub invariant_of-self-else-is_unwoken : goal.invariant_of-self-else-is_unwoken
invariant_of-self-else-is_unwoken c = λ off.
    none_set c.self.inside.each.items c.args.hart c.args.own (c.self.invariant off) (sym c.is_unwoken.ensures ∙ c.if-is_unwoken.false)
