use Rattle.std.proofs.Common.{ap, ◌∙◌}
use Rattle.flex_base.specs.Devices.{some_unwoken}
use Rattle.devices.proofs.Waiting.{none_at_start}
use Rattle.devices.proofs.harts.Harts.new.Goals as goal

pub invariant_of-result : goal.invariant_of-result
invariant_of-result c = λ _. ap some_unwoken (c.in_ok-each.ensures.items_if_clones_equal (λ y e. e)) ∙ none_at_start c.args.harts
