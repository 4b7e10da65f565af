use Rattle.std.proofs.Common.{codes}
use Rattle.toml.specs.View.{table_view}
use Rattle.transplant_plan.specs.PlanFile.{engine_by, table_at}
use Rattle.transplant_plan.proofs.Engines.{written}
use Rattle.transplant_plan.proofs.reading.engines_in.Goals as goal

pub loop-i-preserved : goal.loop-i-preserved
loop-i-preserved c =
    let given = engine_by (table_at (codes "engine") (table_view c.args.document.now)) in
    written c.loop-i.engines c.loop-i.i _ c.engine_in.result given c.loop-i-test.true
    c.engine_in.ensures.value c.engine_in.ensures.capable c.loop-i.invariant
