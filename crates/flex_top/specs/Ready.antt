-- A run that is ready to be played.
use Rattle.std.specs.Prelude.{◌≡◌, ℕ, List}
use Rattle.flex_base.specs.Setup.{Setup}
use Rattle.flex_base.specs.Unsplit.{begin}
use Rattle.transplant_plan.specs.declared.plan.Plan.{Plan}
use Rattle.solo.specs.Standing.{IsAt}
use Rattle.flex_top.specs.declared.prepared.Prepared.{Prepared}

-- the machine stands at the beginning, under this plan, and the order is at hand
pub record IsPrepared (plan : Plan) (setup : Setup) (names : List ℕ) (run : Prepared) : Type 0 where
  pub at : IsAt setup (begin setup) run.machine
  pub plan_is : run.machine.plan ≡ plan
  pub order : run.order.items ≡ names
