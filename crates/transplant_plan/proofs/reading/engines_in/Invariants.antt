use Rattle.std.proofs.Common.{◌≡◌, ◌<◌, length, codes}
use Rattle.flex_base.specs.declared.class.Class.{Class}
use Rattle.toml.specs.View.{table_view}
use Rattle.transplant_plan.specs.PlanFile.{engine_by, table_at}
use Rattle.transplant_plan.specs.Planning.{class_index, engine_at, AllCanRun}
use Rattle.transplant_plan.proofs.reading.engines_in.Given as goal

-- the classes so far have their engines
abbrev pub invariant-loop-i : goal.invariant-loop-i
invariant-loop-i l = (length l.engines ≡ 14) × AllCanRun l.engines
    × ((class : Class) → class_index class < l.i → engine_at l.engines class ≡ engine_by (table_at (codes "engine") (table_view l.document)) class)
