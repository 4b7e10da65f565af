use Rattle.transplant_plan.specs.PlanFile.{assignment}
use Rattle.transplant_plan.proofs.Plans.{banks_sound, pipes_sound, kernels_sound}
use Rattle.transplant_plan.proofs.reading.plan_from.Goals as goal

pub count_in-requires-clause-sound : goal.count_in-requires-clause-sound
count_in-requires-clause-sound c = banks_sound _ c.requires

pub count_in-requires-2-clause-sound : goal.count_in-requires-2-clause-sound
count_in-requires-2-clause-sound c = pipes_sound _ c.requires

pub count_in-requires-3-clause-sound : goal.count_in-requires-3-clause-sound
count_in-requires-3-clause-sound c = kernels_sound _ c.requires

pub returns : goal.returns
unfolding assignment
returns c = λ i. record {
  engines = λ hart class. c.engines_in.ensures.engines class i;
  banks = c.count_in.ensures.value i;
  pipes = c.count_in-2.ensures.value i;
  kernels = c.count_in-3.ensures.value i;
}
