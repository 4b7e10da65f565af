-- What a plan says.
use Rattle.transplant_plan.specs.Assignment.{Assignment}
use Rattle.transplant_plan.specs.Planning.{engine_at}
use Rattle.transplant_plan.specs.declared.plan.Plan.{Plan}

-- the engines, the same for all harts, and the counts
abbrev pub shown : Plan → Assignment
shown plan = record { engines = λ hart class. engine_at plan.engines class; banks = plan.banks; pipes = plan.pipes; kernels = plan.kernels }
